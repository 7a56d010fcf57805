-- How it is shown that what a refusal says is right: the first number that is given, and what stands beside it.
use Rattle.std.proofs.Common.{ℕ, ◌≡◌, refl, subst, true, false, List, eqb}
use native.Mathlib.Decide.{ℕ_discrete}
use mathlib.Core.List.{Memᴰ}
use mathlib.Core.Option.{none}
use borrow.Author.Tests.{eqb-false}
use Rattle.numbers.specs.First.{First}
use Rattle.numbers.specs.Numbers.{number_of, atom_of, said_of}
use Rattle.numbers.specs.Outcome.{Said, Beside, an_atom, nothing, Refuses}
use Rattle.numbers.specs.declared.Refusal.{Refusal}
use Rattle.numbers.specs.declared.Refusal.TheVariants.{BlockLength, Check, BlockNumber, TermLength, Term, Filler, SideLength, NoAtom, Variables, NetCount, Constants, Rows, NoUnifier, NotListed, LastKey, ShortBuffer, WrongSide, OnBothSides}
use Rattle.numbers.proofs.Laws.{first_member}
use Rattle.numbers.proofs.Carried.{elsewhere, not_elsewhere, first_given}

-- where a number is the first of one list, it is that of another: so what is said stays right
pub refuses_carried : {Given Other Names : ℕ → Type 0} {ms ns : List ℕ} {said : Said}
    → (First Given ms said.number → First Other ns said.number) → Refuses Given Names ms said
    → Refuses Other Names ns said
refuses_carried carried refuses = record { first = carried refuses.first; beside = refuses.beside }

-- beside another number than 10 nothing stands
beside_other : {Names : ℕ → Type 0} (why : Refusal) → (number_of why ≡ 10 → ⊥) → Beside Names (number_of why) (atom_of why)
beside_other BlockLength other = nothing other
beside_other Check other = nothing other
beside_other BlockNumber other = nothing other
beside_other TermLength other = nothing other
beside_other Term other = nothing other
beside_other Filler other = nothing other
beside_other SideLength other = nothing other
beside_other NoAtom other = nothing other
beside_other Variables other = nothing other
beside_other (NetCount atom) other = absurd (other refl)
beside_other Constants other = nothing other
beside_other Rows other = nothing other
beside_other NoUnifier other = nothing other
beside_other NotListed other = nothing other
beside_other LastKey other = nothing other
beside_other ShortBuffer other = nothing other
beside_other WrongSide other = nothing other
beside_other OnBothSides other = nothing other

module _ {Given Names : ℕ → Type 0} {numbers : List ℕ} where
  -- an atom that is named stands beside 10
  pub refuses_naming : {atom : ℕ} → First Given numbers 10 → Names atom
      → Refuses Given Names numbers (said_of (NetCount atom))
  refuses_naming first names = record { first = first; beside = an_atom names }

  -- another number than 10 is said alone, ..
  pub refuses_other : (why : Refusal) → eqb (number_of why) 10 ≡ false → First Given numbers (number_of why)
      → Refuses Given Names numbers (said_of why)
  refuses_other why other first =
      record { first = first; beside = beside_other why (eqb-false (number_of why) 10 other) }

  -- .. as is the first of a list without 10
  pub refuses_alone : elsewhere 10 numbers ≡ true → (why : Refusal) → First Given numbers (number_of why)
      → Refuses Given Names numbers (said_of why)
  refuses_alone without_ten why first =
      record {
        first = first;
        beside = beside_other why (λ ten. not_elsewhere numbers without_ten
            (subst (λ n. Memᴰ n numbers) ten (first_member first)));
      }

  pub number_alone : elsewhere 10 numbers ≡ true → {n : ℕ} → First Given numbers n
      → Refuses Given Names numbers (record { number = n; atom = none })
  number_alone without_ten first =
      record {
        first = first;
        beside = nothing (λ ten. not_elsewhere numbers without_ten
            (subst (λ n. Memᴰ n numbers) ten (first_member first)));
      }

  -- where an atom is named wherever 10 is given, something is rightly said of the first number
  pub something_said : (Given 10 → (atom : ℕ) × Names atom) → {n : ℕ} → First Given numbers n
      → (said : Said) × Refuses Given Names numbers said
  something_said named {n} first = go (ℕ_discrete n 10)
    where
      go : Dec (n ≡ 10) → (said : Said) × Refuses Given Names numbers said
      go (yes ten) =
          let at_ten = subst (First Given numbers) ten first in
          let atom = named (first_given at_ten) in
          (said_of (NetCount atom.0), refuses_naming at_ten atom.1)
      go (no other) = (record { number = n; atom = none }, record { first = first; beside = nothing other })
