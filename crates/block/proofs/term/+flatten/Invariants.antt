-- The measure of the recursion `flatten`: the bytes left.
use Rattle.std.proofs.Common.{length}
use Rattle.block.proofs.term.+flatten.Given as goal

abbrev pub decreases-flatten : goal.decreases-flatten
decreases-flatten l = length l.bytes.now
