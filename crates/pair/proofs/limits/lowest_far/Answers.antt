-- `pair::limits::lowest_far` meets its contract. The loop's invariant: at no atom passed are the two
-- counts too far apart. Assumes nothing.
use Rattle.std.proofs.Common.{arith}
use Rattle.pair.specs.Counts.{a_far_one, all_near}
use Rattle.pair.proofs.NetCounts.{far_lowest, near_not_given}
use Rattle.pair.proofs.limits.lowest_far.Goals as goal

pub returns-then-far : goal.returns-then-far
returns-then-far c M L R counted =
    let e = c.from-place.ensures in
    a_far_one (far_lowest counted c.loop-atom.atom
    (rw e at (rw c.abs_diff-far.ensures at c.if-far.true)) c.loop-atom.invariant)

pub returns : goal.returns
returns c M L R counted =
    all_near (near_not_given counted (λ k within. c.loop-atom.invariant k (omega arith)))
