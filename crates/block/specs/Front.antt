-- Terms in front notation (document 01, "A library block"), of which two have separate variables (document 02, R-1).
use Rattle.std.specs.Prelude.{◌≡◌, ℕ, ◌<◌, ◌≤◌, ◌⊎◌, List, [], ◌∷◌, ◌++◌, map}
use Rattle.ac.specs.Term.{Term, atom, plus, flatten}
use Rattle.ac.specs.Apart.{renamed_apart}

-- A term is written in front notation: byte 128 followed by two terms, or one atom.
abbrev pub encode : Term → List ℕ
encode (atom a) = a ∷ []
encode (plus s t) = 128 ∷ encode s ++ encode t

-- Which atoms may be written: in a block only v0 to v31, which are 0 to 31, and the constants c0 to c63, which are 64
-- to 127.
abbrev pub MayBeWritten : ℕ → Type 0
MayBeWritten a = (a < 32) ⊎ ((64 ≤ a) × (a < 128))

-- What an atom of the right term becomes: Read gives each variable of the right term the number 32 higher.
abbrev pub on_the_right : ℕ → ℕ
on_the_right = renamed_apart

-- every atom of the term may be written
pub data Writable : Term → Type 0 where
  one : {a : ℕ} → MayBeWritten a → Writable (atom a)
  two : {s t : Term} → Writable s → Writable t → Writable (plus s t)

-- The bytes are this term, all of them: a term must use exactly the stated length, and a byte 32 to 63 or 129 to 255
-- is no term.
pub record Writes (bytes : List ℕ) (t : Term) : Type 0 where
  pub exactly : bytes ≡ encode t
  pub writable : Writable t

-- Flattening keeps atoms in the order in which they are read.
abbrev pub left_side : Term → List ℕ
left_side t = flatten t

abbrev pub right_side : Term → List ℕ
right_side t = map on_the_right (flatten t)
