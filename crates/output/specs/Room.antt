-- Room for a line in a buffer of so many bytes, behind a place.
use Rattle.std.specs.Prelude.{ℕ, ◌+◌, ◌≤◌, ◌<◌, ◌≡◌, List, ◌++◌, take, ℤ, Result, Ok, Err}

-- there is room for a line behind the place
abbrev pub HasRoom : ℕ → ℕ → Type 0
HasRoom size at = at + 8192 ≤ size

-- The place stays where there is room behind it. Only where there is none is the buffer written out, and then it
-- is empty, unless that failed.
pub data MakesRoom (size at : ℕ) : Result ℕ ℤ → Type 0 where
  stays : HasRoom size at → MakesRoom size at (Ok at)
  emptied : size < at + 8192 → HasRoom size 0 → MakesRoom size at (Ok 0)
  failed : {error : ℤ} → size < at + 8192 → MakesRoom size at (Err error)

-- How far a text has been printed: a first part is gone, since it was written out; the part after it stands in the
-- buffer before the place; and the rest is left.
pub record StillHeld (text out : List ℕ) (at : ℕ) (left : List ℕ) : Type 0 where
  pub gone : List ℕ
  pub whole : text ≡ gone ++ take at out ++ left
