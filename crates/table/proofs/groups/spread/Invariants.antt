use Rattle.table.proofs.Spreading.{SpreadTo}
use Rattle.table.proofs.groups.spread.Given as goal

abbrev pub invariant-loop-i : goal.invariant-loop-i
invariant-loop-i l = SpreadTo l.places l.group l.found.rows l.initial.rows l.i l.rows
