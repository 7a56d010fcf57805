-- Document 01's wrong programs, as programs for Rows: at a pair worked by hand none of them meets the
-- promise. Rows never gives 15.
use Prim.Native.Nat.{ℕ, ◌≤◌}
use native.Mathlib.Omega.{arith}
use mathlib.Core.Path.{◌≡◌, ap}
use mathlib.Core.List.{List, [], ◌∷◌}
use lib.ListN.{length, replicate}
use Rattle.numbers.specs.Outcome.{given}
use Rattle.numbers.proofs.Promises.{same_values}
use Rattle.solver.specs.Rows.{sizes_as, rows_buffer}
use Rattle.worked.specs.Questions.{SidesAsked, rows_question}
use Rattle.worked.specs.Answers.{RowsAnswers, numbered, of_pair}
use Rattle.worked.specs.Programs.{Program, MeetsAt, RefusesEverything, ConstantResult, WritesNothing}
use Rattle.worked.proofs.Worked.{worked_groups}
use Rattle.worked.proofs.Wrong as wrong

-- the pair of that number
abbrev asked : ℕ → SidesAsked (Unit {0})
asked n = of_pair n tt

-- pair 2: rows 0101, 0110, 1001, 1010
four_rows : RowsAnswers (numbered 2).left (numbered 2).right
    (sizes_as 4 0 0 0 0 0) ((0 ∷ 1 ∷ 0 ∷ 1 ∷ []) ∷ (0 ∷ 1 ∷ 1 ∷ 0 ∷ []) ∷ (1 ∷ 0 ∷ 0 ∷ 1 ∷ []) ∷
    (1 ∷ 0 ∷ 1 ∷ 0 ∷ []) ∷ [])
four_rows = (worked_groups 2 (omega arith) (omega arith)).the_rows

-- pair 10: c0 has two rows
two_rows : RowsAnswers (numbered 10).left (numbered 10).right (sizes_as 0 1 2 0 0 0) ((0 ∷ 1 ∷ []) ∷ (1 ∷ 0 ∷ []) ∷ [])
two_rows = (worked_groups 10 (omega arith) (omega arith)).the_rows

module _ (program : Program rows_question) where
  module _ {out : List ℕ} (enough : rows_buffer ≤ length out) where
    -- It refuses everything: pair 2 has four rows.
    pub refusing_fails : RefusesEverything program → MeetsAt program (asked 2) out → ⊥
    refusing_fails = wrong.refusing_fails program (four_rows out enough)

    -- It has a constant result: pair 2 has four balanced rows, pair 10 has none.
    pub constant_fails : ConstantResult program → MeetsAt program (asked 2) out → MeetsAt program (asked 10) out → ⊥
    constant_fails =
        wrong.constant_fails program (four_rows out enough) (two_rows out enough)
        (λ e. let z : ◌≡◌ {A = ℕ} 4 0 = ap (λ s. s.balanced) (same_values e) in omega arith)

    -- It invents row counts: pair 10 has no balanced row and one unbalanced constant, which has two.
    pub invented_sizes_fail : (balanced constants first second third fourth : ℕ)
        → (program (asked 10) out).outcome ≡ given (sizes_as balanced constants first second third fourth)
        → (sizes_as balanced constants first second third fourth ≡ sizes_as 0 1 2 0 0 0 → ⊥)
        → MeetsAt program (asked 10) out → ⊥
    invented_sizes_fail balanced constants first second third fourth returns others =
        wrong.other_outcome_fails program (two_rows out enough) (λ e. others (cc (e, returns)))

  -- It writes nothing: where zeros are lent, the 1 of row 0101 of pair 2 is missing.
  pub writing_nothing_fails : WritesNothing program → MeetsAt program (asked 2) (replicate rows_buffer 0) → ⊥
  writing_nothing_fails =
      wrong.writing_nothing_fails program (four_rows (replicate rows_buffer 0) (omega arith))
      (λ e. cc e)
