-- Laws of what every question promises: an outcome and the buffers are determined, and so is an answer that
-- tells its outcome one-to-one.
use Rattle.std.proofs.Common.{ℕ, ◌≡◌, refl, sym, ap, subst, ◌∙◌, List}
use mathlib.Core.List.{Memᴰ}
use Rattle.numbers.specs.First.{First, NoneOf}
use mathlib.Core.Option.{Option, some}
use mathlib.Core.Option as option
use Rattle.numbers.specs.Outcome.{Said, Outcome, refused, given, Beside, an_atom, nothing, Refuses, Promise, is_refused, is_given}
use Rattle.numbers.proofs.Laws.{first_unique, first_not_none, first_member}

-- an outcome is refused or given, and says one thing
module _ {Values : Type 0} where
  pub refused_not_given : {said : Said} {values : Values} → refused said ≡ given values → ⊥
  refused_not_given e = cc e

  pub same_values : {values values' : Values} → given values ≡ given values' → values ≡ values'
  same_values e = cc e

  pub same_number : {said said' : Said} → ◌≡◌ {A = Outcome Values} (refused said) (refused said')
      → said.number ≡ said'.number
  same_number {said} {said'} e = let same : said ≡ said' = cc e in ap (λ s. s.number) same

-- one atom is named
abbrev pub OneAtom : (ℕ → Type 0) → Type 0
OneAtom Names = (a b : ℕ) → Names a → Names b → a ≡ b

-- then what stands beside a number is determined, ..
beside_unique : {Names : ℕ → Type 0} → OneAtom Names → {n : ℕ} {o o' : Option ℕ} → Beside Names n o
    → Beside Names n o' → o ≡ o'
beside_unique one_atom (an_atom names) (an_atom names') = ap some (one_atom _ _ names names')
beside_unique one_atom (an_atom names) (nothing not_ten) = absurd (not_ten refl)
beside_unique one_atom (nothing not_ten) (an_atom names) = absurd (not_ten refl)
beside_unique one_atom (nothing not_ten) (nothing not_ten') = refl

-- .. of which there is none beside another number than 10, ..
beside_alone : {Names : ℕ → Type 0} {n : ℕ} {o : Option ℕ} → Beside Names n o → (n ≡ 10 → ⊥) → o ≡ option.none
beside_alone (an_atom names) not_ten = absurd (not_ten refl)
beside_alone (nothing other) not_ten = refl

-- .. and so is what a refusal says
pub said_unique : {Given Names : ℕ → Type 0} → OneAtom Names → {numbers : List ℕ} {said said' : Said}
    → Refuses Given Names numbers said → Refuses Given Names numbers said' → said ≡ said'
said_unique {Names = Names} one_atom {said = said} {said'} f g =
    let number : said.number ≡ said'.number = first_unique f.first g.first in
    let atom : said.atom ≡ said'.atom =
    beside_unique one_atom (subst (λ n. Beside Names n said.atom) number f.beside) g.beside in
    let whole : ◌≡◌ {A = Said} (record { number = said.number; atom = said.atom })
    (record { number = said'.number; atom = said'.atom }) = cc (number, atom) in
    whole

-- a question names one atom and has one result
pub record OneResult {Values Buffers : Type 0} (Names : ℕ → Type 0) (Gives : Values → Buffers → Type 0)
    : Type 0 where
  pub one_atom : OneAtom Names
  pub one_result : (v v' : Values) (b b' : Buffers) → Gives v b → Gives v' b' → (v ≡ v') × (b ≡ b')

module _ {Values Buffers : Type 0} {Given Names : ℕ → Type 0} {numbers : List ℕ}
    {Gives : Values → Buffers → Type 0} {entry : Buffers} where
  -- of a refusal: what it says is right, its number is the first that is given and one of the question's own, an atom
  -- stands beside 10 alone, and no buffer changed
  pub refused_rightly : {said : Said} {exit : Buffers} → Promise Given Names numbers Gives entry (refused said) exit
      → Refuses Given Names numbers said
  refused_rightly (is_refused refuses) = refuses

  pub refused_first : {said : Said} {exit : Buffers} → Promise Given Names numbers Gives entry (refused said) exit
      → First Given numbers said.number
  refused_first (is_refused refuses) = refuses.first

  pub refused_listed : {said : Said} {exit : Buffers} → Promise Given Names numbers Gives entry (refused said) exit
      → Memᴰ said.number numbers
  refused_listed promise = first_member (refused_first promise)

  pub refused_alone : {said : Said} {exit : Buffers} → Promise Given Names numbers Gives entry (refused said) exit
      → (said.number ≡ 10 → ⊥) → said.atom ≡ option.none
  refused_alone (is_refused refuses) not_ten = beside_alone refuses.beside not_ten

  pub refused_unchanged : {said : Said} {exit : Buffers} → Promise Given Names numbers Gives entry (refused said) exit
      → exit ≡ entry
  refused_unchanged (is_refused refuses) = refl

  -- of a result: no number is given, and it is the question's
  pub given_none : {values : Values} {exit : Buffers} → Promise Given Names numbers Gives entry (given values) exit
      → NoneOf Given numbers
  given_none (is_given none gives) = none

  pub given_gives : {values : Values} {exit : Buffers} → Promise Given Names numbers Gives entry (given values) exit
      → Gives values exit
  given_gives (is_given none gives) = gives

  -- Where a question names one atom and has one result, two outcomes, each with its buffers, that meet the promise
  -- are identical.
  module _ (one : OneResult Names Gives) where
    pub outcome_determined : {o o' : Outcome Values} {b b' : Buffers} → Promise Given Names numbers Gives entry o b
        → Promise Given Names numbers Gives entry o' b'
        → (o ≡ o') × (b ≡ b')
    outcome_determined (is_refused f) (is_refused g) =
        (ap refused (said_unique one.one_atom f g), refl)
    outcome_determined (is_refused f) (is_given none gives) = absurd (first_not_none f.first none)
    outcome_determined (is_given none gives) (is_refused f) = absurd (first_not_none f.first none)
    outcome_determined (is_given none gives) (is_given none' gives') =
        let same = one.one_result _ _ _ _ gives gives' in
        (ap given same.0, same.1)

    -- So are two answers that tell their outcomes, where an outcome tells which answer it is of.
    pub answer_determined : {Answer : Type 0} {told : Answer → Outcome Values} (back : Outcome Values → Answer)
        → ((a : Answer) → back (told a) ≡ a) → {a a' : Answer} {b b' : Buffers}
        → Promise Given Names numbers Gives entry (told a) b → Promise Given Names numbers Gives entry (told a') b'
        → (a ≡ a') × (b ≡ b')
    answer_determined back Told-back {a} {a'} promise promise' =
        let same = outcome_determined promise promise' in
        (sym (Told-back a) ∙ ap back same.0 ∙ Told-back a', same.1)
