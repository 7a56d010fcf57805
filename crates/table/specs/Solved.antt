-- What solving two sides gives: the first number that is given, or the table of exactly these sides (document
-- 01, "From sides to equations").
use Rattle.std.specs.Prelude.{List, ℕ, Result}
use Rattle.ac.specs.Pair.{Mode}
use Rattle.ac.specs.Limits.{limits}
use Rattle.numbers.specs.Order.{sides_numbers}
use Rattle.numbers.specs.Verdict.{Decides}
use Rattle.numbers.specs.declared.Refusal.{Refusal}
use Rattle.pair.specs.Given.{LowestFar, PairGiven}
use Rattle.table.specs.Table.{TableOf}
use Rattle.table.specs.declared.Table.{Table}

-- Two sides are refused with the first of the numbers 7 to 12 and 19 that is given; where none is, the table is that
-- of the sides.
abbrev pub SolvesSides : Mode → List ℕ → List ℕ → Result Table Refusal → Type 0
SolvesSides M L R solved =
    Decides (PairGiven limits M L R) (LowestFar limits L R) sides_numbers (TableOf M L R) solved
