use Prim.Native.Nat.{◌≤◌, ◌-◌}
use Rattle.list.proofs.Tuples.{Missed}
use Rattle.list.proofs.least_of_tuple.Given as goal

abbrev pub invariant-loop-mask : goal.invariant-loop-mask
invariant-loop-mask l = (l.initial.mask ≤ l.mask) × (l.mask ≤ 65536) × Missed l.masks l.key l.mask

abbrev pub decreases-loop-mask : goal.decreases-loop-mask
decreases-loop-mask l = 65536 - l.mask
