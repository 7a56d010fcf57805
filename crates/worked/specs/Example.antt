-- The two blocks of document 01's example ("The nightly program"), and one of two patterns that overlap only because
-- their variables are separate (document 02, R-1).
use Rattle.std.specs.Prelude.{ℕ, ◌-◌, List, [], ◌∷◌, ◌++◌, length, replicate}

-- 512 bytes that begin and end with these; the rest is zeros
abbrev pub block_with : List ℕ → List ℕ → List ℕ
block_with begins ends = begins ++ replicate (512 - length begins - length ends) 0 ++ ends

-- block 0 begins 00 00 03 03 80 00 01 80 40 41 and ends FE 77
abbrev pub block_0 : List ℕ
block_0 = block_with (0x00 ∷ 0x00 ∷ 0x03 ∷ 0x03 ∷ 0x80 ∷ 0x00 ∷ 0x01 ∷ 0x80 ∷ 0x40 ∷ 0x41 ∷ []) (0xFE ∷ 0x77 ∷ [])

-- block 1 begins 00 01 03 01 80 00 00 40 and ends FF 3A
abbrev pub block_1 : List ℕ
block_1 = block_with (0x00 ∷ 0x01 ∷ 0x03 ∷ 0x01 ∷ 0x80 ∷ 0x00 ∷ 0x00 ∷ 0x40 ∷ []) (0xFF ∷ 0x3A ∷ [])

-- v3+c0 and v3+c1, as block 0
abbrev pub overlapping : List ℕ
overlapping = block_with (0x00 ∷ 0x00 ∷ 0x03 ∷ 0x03 ∷ 0x80 ∷ 0x03 ∷ 0x40 ∷ 0x80 ∷ 0x03 ∷ 0x41 ∷ []) (0xFE ∷ 0x72 ∷ [])
