-- Blocks and refusals of Write, worked by hand.
use Rattle.std.proofs.Common.{ℕ, ◌≤◌, arith, ◌≡◌, refl, inl, inr, List, [], ◌∷◌, ◌++◌, length, replicate}
use mathlib.Core.List.Memᴰ
use Rattle.numbers.specs.Numbers.{said_of}
use Rattle.numbers.specs.Outcome.{refused}
use Rattle.numbers.specs.declared.Refusal.TheVariants.{SideLength, NoAtom, ShortBuffer, WrongSide}
use Rattle.pair.specs.Given.{left, right}
use Rattle.block.specs.Block.{left_length, right_length}
use Rattle.writing.specs.Written.{block_of, block_of_terms}
use Rattle.writing.specs.Table.{HoldsVariable, WriteGiven, side_length, no_atom, wrong_side}
use Rattle.writing.specs.Write.{WritePromise}
use Rattle.writing.proofs.Settled.{short_promised, length_promised, byte_promised, side_promised}

-- v0+v1 and c0+c1, as block 0: that of document 01's example
pub example_block : block_of 0 (0x00 ∷ 0x01 ∷ []) (0x40 ∷ 0x41 ∷ [])
    ≡ (0x00 ∷ 0x00 ∷ 0x03 ∷ 0x03 ∷ 0x80 ∷ 0x00 ∷ 0x01 ∷ 0x80 ∷ 0x40 ∷ 0x41 ∷ [])
    ++ replicate 500 0
    ++ (0xFE ∷ 0x77 ∷ [])
unfolding block_of_terms
example_block = refl

-- v31 and v63, as block 65,535: both terms are v31
pub highest_block : block_of 65535 (0x1F ∷ []) (0x3F ∷ [])
    ≡ (0xFF ∷ 0xFF ∷ 0x01 ∷ 0x01 ∷ 0x1F ∷ 0x1F ∷ [])
    ++ replicate 504 0
    ++ (0xFD ∷ 0xC1 ∷ [])
unfolding block_of_terms
highest_block = refl

-- 64 atoms on either side: both terms have 127 bytes
pub longest_terms : (left_length (block_of 0 (replicate 64 0) (replicate 64 64)) ≡ 127)
    × (right_length (block_of 0 (replicate 64 0) (replicate 64 64)) ≡ 127)
unfolding block_of_terms
longest_terms = (refl, refl)

-- a buffer of 511 bytes is refused with 16, whatever else is wrong
pub short_refused : {L R block : List ℕ} {number : ℕ} → length block ≡ 511
    → WritePromise L R number block (refused (said_of ShortBuffer)) block
short_refused e = short_promised (omega arith)

-- one atom on either side is enough, and not too many
one_each : {a b : ℕ} {block : List ℕ} → WriteGiven (a ∷ []) (b ∷ []) block 7 → ⊥
one_each (side_length left (inl few)) = omega arith
one_each (side_length left (inr many)) = omega arith
one_each (side_length right (inl few)) = omega arith
one_each (side_length right (inr many)) = omega arith

-- and up to 127 it is one
up_to_127 : {a b : ℕ} {block : List ℕ} → a ≤ 127 → b ≤ 127 → WriteGiven (a ∷ []) (b ∷ []) block 8 → ⊥
up_to_127 a_fits b_fits (no_atom left wrong) =
    omega (arith, wrong.above, Memᴰ.eq_of_singleton wrong.held)
up_to_127 a_fits b_fits (no_atom right wrong) =
    omega (arith, wrong.above, Memᴰ.eq_of_singleton wrong.held)

-- a variable of a range that is the one atom of a side
holds_one : {first last v : ℕ} → first ≤ v → v ≤ last → HoldsVariable first last (v ∷ [])
holds_one {v = v} from to = record { variable = v; held = Memᴰ.head refl; from_first = from; to_last = to }

module _ {number : ℕ} {block : List ℕ} (enough : 512 ≤ length block) where
  -- an empty side with 7, though the other holds byte 128
  pub empty_refused : WritePromise [] (128 ∷ []) number block (refused (said_of SideLength)) block
  empty_refused = length_promised enough (side_length left (inl (omega arith)))

  -- byte 128 with 8, though a variable is on the wrong side
  pub plus_refused : WritePromise (32 ∷ []) (128 ∷ []) number block (refused (said_of NoAtom)) block
  plus_refused =
      byte_promised enough one_each
      (no_atom right (record { byte = 128; held = Memᴰ.head refl; above = omega arith }))

  -- v32 on the left with 18, and v31 on the right
  pub left_refused : WritePromise (32 ∷ []) (32 ∷ []) number block (refused (said_of WrongSide)) block
  left_refused =
      side_promised enough one_each (up_to_127 (omega arith) (omega arith))
      (wrong_side (inl (holds_one (omega arith) (omega arith))))

  pub right_refused : WritePromise (31 ∷ []) (31 ∷ []) number block (refused (said_of WrongSide)) block
  right_refused =
      side_promised enough one_each (up_to_127 (omega arith) (omega arith))
      (wrong_side (inr (holds_one (omega arith) (omega arith))))
