use Rattle.std.proofs.Common.{ℕ, ◌≤◌, ◌<◌}
use Rattle.pair.proofs.NetCounts.{apart}
use Rattle.pair.proofs.limits.lowest_far.Given as goal

abbrev pub invariant-loop-atom : goal.invariant-loop-atom
invariant-loop-atom l = (k : ℕ) → k < l.atom → apart l.counts k ≤ 8
