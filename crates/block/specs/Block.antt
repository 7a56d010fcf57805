-- What the bytes of a library block say (document 01, "A library block").
use Rattle.std.specs.Prelude.{ℕ, ◌+◌, ◌-◌, ◌*◌, ◌%◌, List, take, slice_index}
use Rattle.std.proofs.Math.Seq.{slice}
use Rattle.ac.specs.Lists.{sum}

-- a byte of a block, by its place
abbrev pub byte : List ℕ → ℕ → ℕ
byte block i = slice_index block i

-- Numbers of two bytes have the high byte first.
abbrev pub two_bytes : ℕ → ℕ → ℕ
two_bytes high low = high * 256 + low

module _ (block : List ℕ) where
  -- Bytes 0 and 1: block number.
  abbrev pub block_number : ℕ
  block_number = two_bytes (byte block 0) (byte block 1)

  -- Byte 2: length of the left term. Byte 3: length of the right term.
  abbrev pub left_length : ℕ
  left_length = byte block 2

  abbrev pub right_length : ℕ
  right_length = byte block 3

  -- From byte 4: the left term, then the right term, .. (`slice` has its start and not its end)
  abbrev pub left_term : List ℕ
  left_term = slice 4 (4 + left_length) block

  abbrev pub right_term : List ℕ
  right_term = slice (4 + left_length) (4 + left_length + right_length) block

  -- .. then zeros up to byte 509.
  abbrev pub filler : List ℕ
  filler = slice (4 + left_length + right_length) 510 block

  -- Bytes 510 and 511: the check, ..
  abbrev pub check : ℕ
  check = two_bytes (byte block 510) (byte block 511)

  -- .. 65,535 minus (the sum of bytes 0 to 509, modulo 65,536).
  abbrev pub check_of_bytes : ℕ
  check_of_bytes = 65535 - sum (take 510 block) % 65536
