-- Sides of 1 to 64 atoms: their terms fit into a block, and the block of them has 512 bytes.
use Rattle.std.proofs.Common.{ℕ, ◌≤◌, ◌<◌, arith, ◌≡◌, ap, sym, ◌∙◌, List, ◌++◌, map, length, drop}
use lib.ListN.{length-map}
use Rattle.ac.specs.Lists.{receives}
use Rattle.block.specs.Inner.{IsLength}
use Rattle.writing.specs.Written.{front, as_written, block_of}
use Rattle.writing.proofs.Fronts.{length_front}
use Rattle.writing.proofs.Blocks as blocks

-- both sides have 1 to 64 atoms
pub record Lengths (L R : List ℕ) : Type 0 where
  pub left_some : 0 < length L
  pub left_few : length L ≤ 64
  pub right_some : 0 < length R
  pub right_few : length R ≤ 64

module _ {L R : List ℕ} (within : Lengths L R) where
  -- so each term has 1 to 127 bytes
  pub left_fits : IsLength (length (front L))
  left_fits = omega (arith, length_front L within.left_some)

  pub right_fits : IsLength (length (front (map as_written R)))
  right_fits =
      let same = length-map R as_written in
      omega (arith, length_front (map as_written R) (omega (arith, same)), same)

  module _ (number : ℕ) where
    -- and the block has 512
    pub block_length : length (block_of number L R) ≡ 512
    block_length = blocks.block_length number (front L) (front (map as_written R)) left_fits.1 right_fits.1

    -- Where the first 512 bytes of a buffer become the block and the others stay, the buffer has received it.
    pub block_received : {written : List ℕ} (buffer : List ℕ) → written ≡ block_of number L R
        → written ++ drop 512 buffer ≡ receives buffer (block_of number L R)
    block_received buffer is =
        ap (λ (l : List ℕ). l ++ drop 512 buffer) is
        ∙ ap (λ (n : ℕ). block_of number L R ++ drop n buffer) (sym block_length)
