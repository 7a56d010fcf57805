-- Document 01's wrong programs, as programs for Write: at the sides of its example none of them meets the promise.
use Prim.Native.Nat.{ℕ, ◌≤◌}
use native.Mathlib.Omega.{arith}
use mathlib.Core.Path.{◌≡◌, sym, ◌∙◌}
use mathlib.Core.List.{List, [], ◌∷◌}
use lib.ListN.{length, replicate}
use Rattle.writing.specs.Written.{block_of_terms}
use Rattle.worked.specs.Questions.{SidesAsked, write_question}
use Rattle.worked.specs.Programs.{Program, MeetsAt, RefusesEverything, ConstantResult, WritesNothing}
use Rattle.worked.proofs.Writing.{block_0_written, block_1_written, empty_refused}
use Rattle.worked.proofs.Wrong as wrong

-- v0+v1 and c0+c1, as the block of a number
abbrev example : ℕ → SidesAsked ℕ
example number = record { left = 0 ∷ 1 ∷ []; right = 64 ∷ 65 ∷ []; also = number }

-- nothing on the left
abbrev empty : SidesAsked ℕ
empty = record { left = []; right = 64 ∷ 65 ∷ []; also = 0 }

module _ (program : Program write_question) where
  module _ {lent : List ℕ} (enough : 512 ≤ length lent) where
    -- It refuses everything: the example has a block.
    pub refusing_fails : RefusesEverything program → MeetsAt program (example 0) lent → ⊥
    refusing_fails = wrong.refusing_fails program (block_0_written lent enough)

    -- It has a constant result: the example has a block, an empty side has none.
    pub constant_fails : ConstantResult program → MeetsAt program (example 0) lent → MeetsAt program empty lent → ⊥
    constant_fails =
        wrong.constant_fails program (block_0_written lent enough) (empty_refused lent enough)
        (λ e. cc e)

    -- It writes one block whatever is asked: the example has others as block 0 and as block 1.
    pub one_block_fails : (program (example 0) lent).exit ≡ (program (example 1) lent).exit
        → MeetsAt program (example 0) lent → MeetsAt program (example 1) lent → ⊥
    unfolding block_of_terms
    one_block_fails same meets meets' =
        let zero = ((block_0_written lent enough).alone _ _ meets).1 in
        let one = ((block_1_written lent enough).alone _ _ meets').1 in
        cc (sym zero ∙ same ∙ one)

  -- It writes nothing: where zeros are lent, the length of the left term is missing.
  pub writing_nothing_fails : WritesNothing program → MeetsAt program (example 0) (replicate 512 0) → ⊥
  writing_nothing_fails =
      wrong.writing_nothing_fails program (block_0_written (replicate 512 0) (omega arith))
      (λ e. cc e)
