-- The numbers that Write gives (document 02, R-3): when each is given.
use Rattle.std.specs.Prelude.{ℕ, ◌≤◌, ◌<◌, ◌⊎◌, length}
use mathlib.Core.List.{List, Memᴰ}
use Rattle.ac.specs.Limits.{limits}
use Rattle.pair.specs.Given.{SideOf, WrongLength, WrongByte}

-- a side holds a variable, one of those from the first number to the last
pub record HoldsVariable (first last : ℕ) (side : List ℕ) : Type 0 where
  pub variable : ℕ
  pub held : Memᴰ variable side
  pub from_first : first ≤ variable
  pub to_last : variable ≤ last

-- A variable is on the wrong side: the left side uses v0 to v31, the right side v32 to v63.
abbrev pub WrongSide : List ℕ → List ℕ → Type 0
WrongSide left right = HoldsVariable 32 63 left ⊎ HoldsVariable 0 31 right

-- When each number is given, whatever else is wrong.
pub data WriteGiven (left right block : List ℕ) : ℕ → Type 0 where
  -- a side has 0 or more than 64 atoms
  side_length : {side : List ℕ} → SideOf left right side → WrongLength limits limits.least_atoms side
      → WriteGiven left right block 7
  -- a side holds a byte above 127
  no_atom : {side : List ℕ} → SideOf left right side → WrongByte limits side → WriteGiven left right block 8
  -- a variable on the wrong side
  wrong_side : WrongSide left right → WriteGiven left right block 18
  -- the lent buffer is too short: it is under 512 bytes
  short_buffer : length block < 512 → WriteGiven left right block 16
