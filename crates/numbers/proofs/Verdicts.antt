-- How it is decided whether some input is refused: a law for each way.
use Rattle.std.proofs.Common.{ℕ, ◌≡◌, subst, false, List, ◌++◌, eqb, Result, Ok, Err}
use Rattle.numbers.specs.First.{First, NoneOf}
use Rattle.numbers.specs.Numbers.{number_of, said_of}
use Rattle.numbers.specs.Outcome.{Refuses}
use Rattle.numbers.specs.Verdict.{Decides}
use Rattle.numbers.specs.declared.Refusal.{Refusal}
use Rattle.numbers.specs.declared.Refusal.TheVariants.{NetCount}
use Rattle.numbers.proofs.Carried.{first_after, none_after}
use Rattle.numbers.proofs.Said.{refuses_carried, refuses_naming, refuses_other}

module _ {Given Names : ℕ → Type 0} {A : Type 0} {So : A → Type 0} {decided : Result A Refusal} where
  -- what is rightly said refuses
  pub decides_said : {numbers : List ℕ} {why : Refusal} → decided ≡ Err why
      → Refuses Given Names numbers (said_of why)
      → Decides Given Names numbers So decided
  decides_said {numbers} {why} told refuses =
      record {
        refused = λ refusal e. let same : why ≡ refusal =
            cc in subst (λ r. Refuses Given Names numbers (said_of r)) same refuses;
        none_given = λ {found} e. absurd (cc);
        so = λ {found} e. absurd (cc);
      }

  -- a number other than 10 that is given refuses alone, ..
  pub decides_refused : {numbers : List ℕ} {why : Refusal} → decided ≡ Err why → eqb (number_of why) 10 ≡ false
      → First Given numbers (number_of why)
      → Decides Given Names numbers So decided
  decides_refused {why = why} told other first = decides_said told (refuses_other why other first)

  -- .. and 10 with the atom that it names
  pub decides_naming : {numbers : List ℕ} {atom : ℕ} → decided ≡ Err (NetCount atom) → First Given numbers 10
      → Names atom
      → Decides Given Names numbers So decided
  decides_naming told first names = decides_said told (refuses_naming first names)

  -- where none is, what is found is so
  pub decides_accepted : {numbers : List ℕ} {found : A} → decided ≡ Ok found → NoneOf Given numbers → So found
      → Decides Given Names numbers So decided
  decides_accepted {found = found} told none so =
      record {
        refused = λ refusal e. absurd (cc);
        none_given = λ {found = other} e. none;
        so = λ {found = other} e. let same : found ≡ other = cc in subst So same so;
      }

  -- numbers that are not given may stand before those that are settled
  pub decides_after : {before numbers : List ℕ} → NoneOf Given before → Decides Given Names numbers So decided
      → Decides Given Names (before ++ numbers) So decided
  decides_after none decides =
      record {
        refused = λ refusal e. refuses_carried (first_after none) (decides.refused refusal e);
        none_given = λ {found} e. none_after none (decides.none_given e);
        so = λ {found} e. decides.so e;
      }
