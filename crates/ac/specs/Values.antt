-- The layout of Values (document 01, "The questions"): "for each variable ascending, its byte, a byte count
-- and the atoms".
use Rattle.std.specs.Prelude.{ℕ, List, [], ◌∷◌, ◌++◌, length}

-- a variable with its value
pub record Binding : Type 0 where
  pub variable : ℕ
  pub value : List ℕ

-- each variable's byte, the number of its atoms and the atoms, one variable after the other
abbrev pub laid_out : List Binding → List ℕ
laid_out [] = []
laid_out (b ∷ bs) = (b.variable ∷ length b.value ∷ b.value) ++ laid_out bs

-- the variables, each with the value that a replacement gives it
abbrev pub bindings : (ℕ → List ℕ) → List ℕ → List Binding
bindings value [] = []
bindings value (x ∷ xs) = record { variable = x; value = value x } ∷ bindings value xs
