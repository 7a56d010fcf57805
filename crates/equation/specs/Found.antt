-- What is found of the rows of one equation (document 01, "From sides to equations"; number 12: more than 16
-- of a kind).
use Rattle.std.specs.Prelude.{ℕ, ◌≤◌, ◌<◌, List, length, take, Option, Some, None}
use Rattle.ac.specs.Rows.{Exactly}
use Rattle.ac.specs.Equation.{Equation, equation, Minimal}
use Rattle.equation.specs.Flat.{rows_of}
use Rattle.equation.specs.declared.Offsets.{Offsets}
use Rattle.equation.specs.declared.NetEquation.{NetEquation}
use Rattle.equation.specs.declared.FoundRows.{FoundRows}

-- the equation of these coefficients and offsets
abbrev pub equation_with : List ℕ → List ℕ → Offsets → Equation
equation_with left right offsets = equation left right offsets.left offsets.right offsets.homogeneous

-- the equation that a struct holds
abbrev pub equation_by : NetEquation → Equation
equation_by e = equation_with (take e.places e.left) (take e.places e.right) e.offsets

-- If the rows are at most `limit`, exactly they in ascending order, and their number; else none, which says that there
-- are more.
pub data Finds (limit : ℕ) (E : Equation) : Option FoundRows → Type 0 where
  few : {found : FoundRows} → found.number ≤ limit → Exactly (Minimal E) (rows_of (length E.left) found.number found.rows)
      → Finds limit E (Some found)
  more : {rows : List (List ℕ)} → Exactly (Minimal E) rows → limit < length rows → Finds limit E None
