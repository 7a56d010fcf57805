-- Terms and their flattening (document 01, "What the program decides"; source document 000, section 3).
use Rattle.std.specs.Prelude.{ℕ, List, [], ◌∷◌, ◌++◌}

-- Terms are built from +, variables and constants.
pub data Term : Type 0 where
  atom : ℕ → Term
  plus : Term → Term → Term

-- A flattened side is a list of atoms; flattening keeps atoms in the order in which they are read.
abbrev pub flatten : Term → List ℕ
flatten (atom a) = a ∷ []
flatten (plus s t) = flatten s ++ flatten t
