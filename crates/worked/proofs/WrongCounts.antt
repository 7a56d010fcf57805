-- Document 01's wrong programs, as programs for Count, and one that counts too few: at a pair whose number is known
-- none of them meets the promise. Count is lent nothing.
use Prim.Native.Nat.{ℕ, suc}
use native.Mathlib.Omega.{arith}
use mathlib.Core.Path.{◌≡◌, refl, sym, ◌∙◌}
use mathlib.Core.List.Memᴰ
use mathlib.Core.List.{List, [], ◌∷◌}
use Rattle.numbers.specs.Outcome.{given}
use Rattle.numbers.proofs.Promises.{same_values}
use Rattle.worked.specs.Questions.{SidesAsked, count_question}
use Rattle.worked.specs.Counted.{CountAnswers}
use Rattle.worked.specs.Programs.{Program, MeetsAt, RefusesEverything, ConstantResult}
use Rattle.worked.proofs.Counted.{counted_pairs_lem}
use Rattle.worked.proofs.Wrong as wrong

-- two sides, and nothing else
abbrev asked : List ℕ → List ℕ → SidesAsked (Unit {0})
asked left right = record { left = left; right = right; also = tt }

-- pair 2 has seven unifiers, pair 9 has none
seven : CountAnswers (0 ∷ 1 ∷ []) (2 ∷ 3 ∷ []) 7
seven = counted_pairs_lem _ (Memᴰ.head refl)

none : CountAnswers (0 ∷ []) (0 ∷ 1 ∷ []) 0
none = counted_pairs_lem _ (Memᴰ.tail (Memᴰ.head refl))

module _ (program : Program count_question) where
  -- It refuses everything: pair 2 has seven unifiers.
  pub refusing_fails : RefusesEverything program → MeetsAt program (asked (0 ∷ 1 ∷ []) (2 ∷ 3 ∷ [])) tt → ⊥
  refusing_fails = wrong.refusing_fails program seven

  -- It refuses where there are none: pair 9 has 0, and no number is given.
  pub refusing_none_fails : RefusesEverything program → MeetsAt program (asked (0 ∷ []) (0 ∷ 1 ∷ [])) tt → ⊥
  refusing_none_fails = wrong.refusing_fails program none

  -- It has a constant result: pair 2 has seven unifiers, pair 9 has none.
  pub constant_fails : ConstantResult program → MeetsAt program (asked (0 ∷ 1 ∷ []) (2 ∷ 3 ∷ [])) tt
      → MeetsAt program (asked (0 ∷ []) (0 ∷ 1 ∷ [])) tt → ⊥
  constant_fails =
      wrong.constant_fails program seven none (λ e. let z : ◌≡◌ {A = ℕ} 7 0 = same_values e in omega arith)

  -- It counts one too few, as one that leaves out the first or the last key: pair 2 has seven, and not six.
  pub too_few_fails : (n : ℕ) → (program (asked (0 ∷ 1 ∷ []) (2 ∷ 3 ∷ [])) tt).outcome ≡ given n → suc n ≡ 7
      → MeetsAt program (asked (0 ∷ 1 ∷ []) (2 ∷ 3 ∷ [])) tt → ⊥
  too_few_fails n returns fewer =
      wrong.other_outcome_fails program seven
      (λ e. let same : n ≡ 7 = same_values (sym returns ∙ e) in omega arith)
