-- The numbers that Read gives (document 01, "Numbers given in place of a result"): when each is given.
use Rattle.std.specs.Prelude.{◌≡◌, ℕ, ◌<◌, ◌⊎◌, List, length, ◌≢◌}
use mathlib.Core.List.{Memᴰ}
use Rattle.ac.specs.Term.{Term}
use Rattle.block.specs.Front.{Writes}
use Rattle.block.specs.Block.{block_number as number_of_block, left_length, right_length, left_term, right_term, filler, check, check_of_bytes}

-- a length that no term may have: "each is 1 to 127"
abbrev pub NoLength : ℕ → Type 0
NoLength n = (n ≡ 0) ⊎ (127 < n)

-- bytes that are no term, since it ends early, has bytes left over or holds a byte above 128 or, by document 02,
-- R-1, a byte 32 to 63 (`proofs/Faults.antt`: exactly then)
abbrev pub NoTerm : List ℕ → Type 0
NoTerm bytes = (t : Term) → Writes bytes t → ⊥

-- When each number is given, whatever else is wrong.
pub data ReadGiven (block : List ℕ) (number : ℕ) (left right : List ℕ) : ℕ → Type 0 where
  -- the block isn't 512 bytes long
  block_length : (length block ≢ 512) → ReadGiven block number left right 1
  -- the check differs
  check_differs : (check block ≢ check_of_bytes block) → ReadGiven block number left right 2
  -- the block number differs from the expected one
  block_number : (number_of_block block ≢ number) → ReadGiven block number left right 3
  -- a term length is 0 or above 127
  term_length : NoLength (left_length block) ⊎ NoLength (right_length block) → ReadGiven block number left right 4
  -- a term ends early, has bytes left over or holds a byte above 128 or a byte 32 to 63
  no_term : NoTerm (left_term block) ⊎ NoTerm (right_term block) → ReadGiven block number left right 5
  -- a filler byte isn't 0
  filler_byte : (b : ℕ) → Memᴰ b (filler block) → (b ≢ 0) → ReadGiven block number left right 6
  -- a lent buffer is too short: two lent buffers of at least 64 bytes
  short_buffer : (length left < 64) ⊎ (length right < 64) → ReadGiven block number left right 16
