-- Document 01's wrong programs, as programs for Read: at a block of its example none of them meets the promise.
use Prim.Native.Nat.{ℕ, ◌≤◌}
use native.Mathlib.Omega.{arith}
use mathlib.Core.Path.{◌≡◌, ap}
use lib.ListN.{length, replicate}
use Rattle.numbers.specs.Outcome.{given}
use Rattle.numbers.proofs.Promises.{same_values}
use Rattle.block.specs.Read.{SideLengths}
use Rattle.worked.specs.Questions.{BlockAndNumber, TwoBuffers, read_question}
use Rattle.worked.specs.Programs.{Program, MeetsAt, RefusesEverything, ConstantResult, WritesNothing}
use Rattle.worked.specs.Example.{block_0, block_1}
use Rattle.worked.proofs.Reading.{block_0_gives, block_1_gives}
use Rattle.worked.proofs.Wrong as wrong

-- two lengths
abbrev lengths : ℕ → ℕ → SideLengths
lengths left right = record { left = left; right = right }

-- block 0 of the example, asked for by its place
abbrev first : BlockAndNumber
first = record { block = block_0; number = 0 }

-- block 1, by its place
abbrev second : BlockAndNumber
second = record { block = block_1; number = 1 }

-- two buffers of 64 zeros
abbrev zeros : TwoBuffers
zeros = record { left = replicate 64 0; right = replicate 64 0 }

module _ (program : Program read_question) where
  module _ {lent : TwoBuffers} (left_fits : 64 ≤ length lent.left) (right_fits : 64 ≤ length lent.right) where
    -- It refuses everything: block 0 has two sides.
    pub refusing_fails : RefusesEverything program → MeetsAt program first lent → ⊥
    refusing_fails = wrong.refusing_fails program (block_0_gives lent left_fits right_fits)

    -- It has a constant result: the right side of block 0 has two atoms, that of block 1 has one.
    pub constant_fails : ConstantResult program → MeetsAt program first lent → MeetsAt program second lent → ⊥
    constant_fails =
        wrong.constant_fails program (block_0_gives lent left_fits right_fits)
        (block_1_gives lent left_fits right_fits)
        (λ e. let z : ◌≡◌ {A = ℕ} 2 1 = ap (λ l. l.right) (same_values e) in omega arith)

    -- It invents the lengths: both sides of block 0 have two atoms.
    pub invented_lengths_fail : (m n : ℕ) → (program first lent).outcome ≡ given (lengths m n)
        → ((m ≡ 2) × (n ≡ 2) → ⊥) → MeetsAt program first lent → ⊥
    invented_lengths_fail m n returns others =
        wrong.other_outcome_fails program (block_0_gives lent left_fits right_fits)
        (λ e. let same : lengths m n ≡ lengths 2 2 = cc (e, returns) in
        others (ap (λ l. l.left) same, ap (λ l. l.right) same))

  -- It writes nothing: where zeros are lent, v1 of block 0 is missing.
  pub writing_nothing_fails : WritesNothing program → MeetsAt program first zeros → ⊥
  writing_nothing_fails =
      wrong.writing_nothing_fails program (block_0_gives zeros (omega arith) (omega arith))
      (λ e. cc e)
