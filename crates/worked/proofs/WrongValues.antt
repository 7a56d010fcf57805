-- Document 01's wrong programs, as programs for Values: at a pair worked by hand none of them meets the
-- promise. Values never gives 15.
use Prim.Native.Nat.{ℕ, ◌≤◌}
use native.Mathlib.Omega.{arith}
use mathlib.Core.Path.{◌≡◌, refl}
use mathlib.Core.List.Memᴰ
use mathlib.Core.List.{List, [], ◌∷◌}
use lib.ListN.{length, replicate}
use Rattle.numbers.specs.Outcome.{Outcome, given}
use Rattle.solver.specs.Values.{values_buffer}
use Rattle.worked.specs.Questions.{values_question}
use Rattle.worked.specs.Answers.{ValuesAnswers, numbered, of_pair}
use Rattle.worked.specs.Programs.{Program, MeetsAt, RefusesEverything, ConstantResult, WritesNothing}
use Rattle.worked.proofs.Worked.{worked_groups}
use Rattle.worked.proofs.Wrong as wrong

-- pair 4, key 0: v0=c1 v1=c0
two_values : ValuesAnswers (numbered 4).left (numbered 4).right 0 (0 ∷ 1 ∷ 65 ∷ 1 ∷ 1 ∷ 64 ∷ [])
two_values = (worked_groups 4 (omega arith) (omega arith)).the_values 0 (Memᴰ.head refl)

-- pair 7, key 1: v0=n0
one_value : ValuesAnswers (numbered 7).left (numbered 7).right 1 (0 ∷ 1 ∷ 192 ∷ [])
one_value = (worked_groups 7 (omega arith) (omega arith)).the_values 1 (Memᴰ.head refl)

module _ (program : Program values_question) where
  module _ {out : List ℕ} (enough : values_buffer ≤ length out) where
    -- It refuses everything: key 0 of pair 4 has its values.
    pub refusing_fails : RefusesEverything program → MeetsAt program (of_pair 4 0) out → ⊥
    refusing_fails = wrong.refusing_fails program (two_values out enough)

    -- It has a constant result: the values take six bytes at pair 4, three at pair 7.
    pub constant_fails : ConstantResult program → MeetsAt program (of_pair 4 0) out
        → MeetsAt program (of_pair 7 1) out → ⊥
    constant_fails =
        wrong.constant_fails program (two_values out enough) (one_value out enough)
        (λ e. let z : ◌≡◌ {A = ℕ} 6 3 = cc e in omega arith)

    -- It invents the length: at pair 4 it is six.
    pub invented_length_fails : (number : ℕ) → (program (of_pair 4 0) out).outcome ≡ given number
        → (number ≡ 6 → ⊥) → MeetsAt program (of_pair 4 0) out → ⊥
    invented_length_fails number returns others =
        wrong.other_outcome_fails program (two_values out enough)
        (λ e. let same : ◌≡◌ {A = Outcome ℕ} (given number) (given 6) = cc (e, returns) in others (cc same))

  -- It writes nothing: where zeros are lent, the count of v0's atoms is missing.
  pub writing_nothing_fails : WritesNothing program → MeetsAt program (of_pair 4 0) (replicate values_buffer 0) → ⊥
  writing_nothing_fails =
      wrong.writing_nothing_fails program (two_values (replicate values_buffer 0) (omega arith))
      (λ e. cc e)
