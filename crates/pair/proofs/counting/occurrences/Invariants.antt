use Rattle.std.proofs.Common.{take}
use Rattle.pair.specs.Counts.{Occurrences}
use Rattle.pair.proofs.counting.occurrences.Given as goal

abbrev pub invariant-loop-atom : goal.invariant-loop-atom
invariant-loop-atom l = Occurrences (take l.atom-index l.side) l.table
