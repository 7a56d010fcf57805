-- How a block is written (document 02, R-3), byte for byte as document 01 lays it out ("A library block").
use Rattle.std.specs.Prelude.{ℕ, ◌-◌, ◌/◌, ◌%◌, ◌&&◌, cond, List, [], ◌∷◌, ◌++◌, map, leb, ltb, length, replicate}
use Rattle.ac.specs.Lists.{sum}

-- Each side as 128, first atom, rest, down to the last atom.
abbrev pub front : List ℕ → List ℕ
front [] = []
front (a ∷ []) = a ∷ []
front (a ∷ b ∷ rest) = 128 ∷ a ∷ front (b ∷ rest)

-- The right side uses v32 to v63, written 32 lower; a constant stays.
abbrev pub as_written : ℕ → ℕ
as_written a = cond (leb 32 a && ltb a 64) (a - 32) a

-- Numbers of two bytes have the high byte first.
abbrev pub high_first : ℕ → List ℕ
high_first n = n / 256 ∷ n % 256 ∷ []

-- a block's bytes, of its number and its two terms
module _ (number : ℕ) (left right : List ℕ) where
  -- Bytes 0 and 1: block number. Byte 2: length of the left term. Byte 3: length of the right term. From byte 4: the
  -- left term, then the right term, ..
  abbrev pub up_to_terms : List ℕ
  up_to_terms = high_first number ++ (length left ∷ length right ∷ []) ++ left ++ right

  -- .. then zeros up to byte 509.
  abbrev pub up_to_filler : List ℕ
  up_to_filler = up_to_terms ++ replicate (510 - length up_to_terms) 0

  -- Bytes 510 and 511: the check, 65,535 minus (the sum of bytes 0 to 509, modulo 65,536).
  unfoldable pub block_of_terms : List ℕ
  block_of_terms = up_to_filler ++ high_first (65535 - sum up_to_filler % 65536)

-- The block that is written of two sides.
abbrev pub block_of : ℕ → List ℕ → List ℕ → List ℕ
block_of number left right = block_of_terms number (front left) (front (map as_written right))
