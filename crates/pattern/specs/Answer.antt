-- What reading a line promises.
use Rattle.std.specs.Prelude.{ℕ, ◌+◌, ◌≤◌, List, length, Option, Some, None, Result, Ok, Err}
use Rattle.ac.specs.Lists.{receives}
use Rattle.pattern.specs.Line.{PairLine, SaysNothing}
use Rattle.pattern.specs.Fault.{LineFault}
use Rattle.pattern.specs.declared.Fault.{Fault}
use Rattle.block.specs.declared.Sides.{Sides}
use Rattle.pattern.specs.declared.Wrong.{Wrong}

-- Two lent buffers receive the atoms of the sides, and the lengths are returned; where the line says nothing or is
-- wrong, no byte of them changes. A wrong line is no pair and says something, and the column lies in it or right
-- behind it.
pub data LineSays (line left right : List ℕ) : Result (Option Sides) Wrong → List ℕ → List ℕ → Type 0 where
  a_pair : {L R : List ℕ} → PairLine line L R
      → LineSays line left right (Ok (Some (record { left = length L; right = length R }))) (receives left L)
      (receives right R)
  nothing : SaysNothing line → LineSays line left right (Ok None) left right
  wrong : {column : ℕ} {why : Fault} → LineFault line column why → ((L R : List ℕ) → PairLine line L R → ⊥)
      → (SaysNothing line → ⊥) → 1 ≤ column → column ≤ length line + 1
      → LineSays line left right (Err (record { column = column; why = why })) left right
