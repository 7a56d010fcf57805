use Rattle.std.proofs.Common.{◌+◌, ◌*◌, ◌-◌, ◌≤◌}
use Rattle.output.proofs.write_out.Given as goal

abbrev pub invariant-loop-onward : goal.invariant-loop-onward
invariant-loop-onward g l = l.onward.written ≤ l.filled

-- how much is left to do: bytes to write and, of the next one, tries
abbrev pub decreases-loop-onward : goal.decreases-loop-onward
decreases-loop-onward g l = (l.filled - l.onward.written) * 1000001 + l.onward.tries
