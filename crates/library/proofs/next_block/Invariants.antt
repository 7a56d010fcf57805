use Rattle.library.proofs.Calling.{to_ask, Reached}
use Rattle.library.proofs.next_block.Given as goal

abbrev pub invariant-loop-step : goal.invariant-loop-step
invariant-loop-step g l = Reached l.initial.buffer l.initial.reader l.reader l.buffer

abbrev pub decreases-loop-step : goal.decreases-loop-step
decreases-loop-step g l = to_ask l.reader
