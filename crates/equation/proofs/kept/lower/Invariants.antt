use Rattle.equation.proofs.Below.{Tried, Compared}
use Rattle.equation.proofs.kept.lower.Given as goal

abbrev pub invariant-loop-place : goal.invariant-loop-place
invariant-loop-place l = Compared l.rows l.vector l.row l.place

abbrev pub invariant-rows : goal.invariant-rows
invariant-rows l = Tried l.rows l.vector l.row
