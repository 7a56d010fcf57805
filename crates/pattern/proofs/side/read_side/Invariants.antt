use Rattle.std.proofs.Common.{◌-◌, length}
use Rattle.pattern.specs.Inner.{Reached}
use Rattle.pattern.proofs.side.read_side.Given as goal

abbrev pub invariant-loop-reading : goal.invariant-loop-reading
invariant-loop-reading l = Reached l.bytes l.reading l.atoms

abbrev pub decreases-loop-reading : goal.decreases-loop-reading
decreases-loop-reading l = length l.bytes - l.reading.at
