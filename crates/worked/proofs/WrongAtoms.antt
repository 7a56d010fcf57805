-- Wrong programs for the atom that 10 names (document 02, R-2), as programs for Rows, Page and Values: 10 with another
-- atom, as the highest; 10 alone; an atom beside another number. The pair is 9·v0+9·c0 and v1.
use Prim.Native.Nat.{ℕ, ◌≤◌}
use native.Mathlib.Omega.{arith}
use mathlib.Core.Path.{◌≡◌, refl, ap, subst}
use mathlib.Core.List.{List, [], ◌∷◌, ◌++◌}
use mathlib.Core.Option.{Option, some}
use mathlib.Core.Option as option
use lib.ListN.{length}
use Rattle.ac.specs.Keys.{start}
use Rattle.numbers.specs.Numbers.{said_of}
use Rattle.numbers.specs.Outcome.{Said, Outcome, refused}
use Rattle.numbers.specs.declared.Refusal.TheVariants.{NetCount}
use Rattle.solver.specs.Rows.{rows_buffer}
use Rattle.solver.specs.Values.{values_buffer}
use Rattle.whole.proofs.Atoms.{rows_alone, page_alone, values_alone}
use Rattle.worked.specs.Questions.{Question, SidesAsked, Request, rows_question, page_question, values_question}
use Rattle.worked.specs.Answers.{Answers}
use Rattle.worked.specs.Programs.{Program, MeetsAt}
use Rattle.worked.proofs.TooFrequent.{times, of_two, page_names, values_name}
use Rattle.worked.proofs.Wrong.{other_outcome_fails}

-- what is said: a number, and perhaps an atom
abbrev says : ℕ → Option ℕ → Said
says number atom = record { number = number; atom = atom }

-- the two that are said have the same atom
same_atom : {Values : Type 0} {number number' : ℕ} {atom atom' : Option ℕ}
    → ◌≡◌ {A = Outcome Values} (refused (says number atom)) (refused (says number' atom')) → atom ≡ atom'
same_atom {number = number} {number'} {atom} {atom'} e =
    let same : says number atom ≡ says number' atom' = cc e in ap (λ (said : Said). said.atom) same

-- Where 10 with an atom is the answer, 10 with another and 10 alone are none.
module _ {Q : Question} (program : Program Q) {asked : Q.Asked} {lent exit : Q.Lent} {atom : ℕ}
    (right : Answers Q asked lent (refused (said_of (NetCount atom))) exit) where
  another_atom_fails : {other : ℕ} → (other ≡ atom → ⊥)
      → (program asked lent).outcome ≡ refused (says 10 (some other)) → MeetsAt program asked lent → ⊥
  another_atom_fails {other} differs returns =
      other_outcome_fails program right
      (λ e. let same : some other ≡ some atom = same_atom (subst (λ o. o ≡ refused (said_of (NetCount atom))) returns e)
      in differs (cc same))

  alone_fails : (program asked lent).outcome ≡ refused (says 10 option.none) → MeetsAt program asked lent → ⊥
  alone_fails returns =
      other_outcome_fails program right
      (λ e. let same : option.none ≡ some atom = same_atom (subst (λ o. o ≡ refused (said_of (NetCount atom))) returns e)
      in cc same)

-- 9·v0+9·c0 and v1: the lowest atom is v0, the highest c0
abbrev pair : {Also : Type 0} → Also → SidesAsked Also
pair also = record { left = times 9 0 ++ times 9 64; right = 1 ∷ []; also = also }

-- a page of it from the start, where 0, meaning 200, are wanted
abbrev from_start : SidesAsked Request
from_start = pair (record { begin = start; wanted = 0 })

-- an atom beside another number than 10 is said where no atom may be
no_atom_there : {atom : ℕ} {o : Option ℕ} → o ≡ some atom → o ≡ option.none → ⊥
no_atom_there some_atom none = cc (some_atom, none)

module _ (program : Program rows_question) where
  module _ {out : List ℕ} (enough : rows_buffer ≤ length out) where
    pub rows_another_fails : (other : ℕ) → (other ≡ 0 → ⊥)
        → (program (pair tt) out).outcome ≡ refused (says 10 (some other)) → MeetsAt program (pair tt) out → ⊥
    rows_another_fails other = another_atom_fails program (of_two out enough)

    -- the highest is another
    pub rows_highest_fails : (program (pair tt) out).outcome ≡ refused (says 10 (some 64))
        → MeetsAt program (pair tt) out → ⊥
    rows_highest_fails = rows_another_fails 64 (λ e. omega (arith, e))

    pub rows_without_fails : (program (pair tt) out).outcome ≡ refused (says 10 option.none)
        → MeetsAt program (pair tt) out → ⊥
    rows_without_fails = alone_fails program (of_two out enough)

  -- wherever it is asked
  pub rows_beside_fails : (asked : SidesAsked (Unit {0})) (out : List ℕ) (number atom : ℕ) → (number ≡ 10 → ⊥)
      → (program asked out).outcome ≡ refused (says number (some atom)) → MeetsAt program asked out → ⊥
  rows_beside_fails asked out number atom not_ten returns meets =
      no_atom_there refl (rows_alone not_ten (subst (λ o. rows_question.Promise asked out o (program asked out).exit) returns meets))

module _ (program : Program page_question) where
  module _ {out : List ℕ} (enough : 200 ≤ length out) where
    pub page_another_fails : (other : ℕ) → (other ≡ 0 → ⊥)
        → (program from_start out).outcome ≡ refused (says 10 (some other)) → MeetsAt program from_start out → ⊥
    page_another_fails other =
        another_atom_fails program (page_names (times 9 0 ++ times 9 64) (1 ∷ []) 0 refl start 0 out enough)

    pub page_without_fails : (program from_start out).outcome ≡ refused (says 10 option.none)
        → MeetsAt program from_start out → ⊥
    page_without_fails =
        alone_fails program (page_names (times 9 0 ++ times 9 64) (1 ∷ []) 0 refl start 0 out enough)

  pub page_beside_fails : (asked : SidesAsked Request) (out : List ℕ) (number atom : ℕ) → (number ≡ 10 → ⊥)
      → (program asked out).outcome ≡ refused (says number (some atom)) → MeetsAt program asked out → ⊥
  page_beside_fails asked out number atom not_ten returns meets =
      no_atom_there refl (page_alone not_ten (subst (λ o. page_question.Promise asked out o (program asked out).exit) returns meets))

module _ (program : Program values_question) where
  module _ (key : ℕ) {out : List ℕ} (enough : values_buffer ≤ length out) where
    pub values_another_fails : (other : ℕ) → (other ≡ 0 → ⊥)
        → (program (pair key) out).outcome ≡ refused (says 10 (some other)) → MeetsAt program (pair key) out → ⊥
    values_another_fails other =
        another_atom_fails program (values_name (times 9 0 ++ times 9 64) (1 ∷ []) 0 refl key out enough)

    pub values_without_fails : (program (pair key) out).outcome ≡ refused (says 10 option.none)
        → MeetsAt program (pair key) out → ⊥
    values_without_fails =
        alone_fails program (values_name (times 9 0 ++ times 9 64) (1 ∷ []) 0 refl key out enough)

  pub values_beside_fails : (asked : SidesAsked ℕ) (out : List ℕ) (number atom : ℕ) → (number ≡ 10 → ⊥)
      → (program asked out).outcome ≡ refused (says number (some atom)) → MeetsAt program asked out → ⊥
  values_beside_fails asked out number atom not_ten returns meets =
      no_atom_there refl (values_alone not_ten (subst (λ o. values_question.Promise asked out o (program asked out).exit) returns meets))
