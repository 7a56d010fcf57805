use Prim.Native.Nat.{◌-◌, ◌^◌}
use Rattle.list.proofs.Walk.{Walked}
use Rattle.list.proofs.least_listed.Given as goal

abbrev pub invariant-loop-at : goal.invariant-loop-at
invariant-loop-at l = Walked l.masks l.from l.at

abbrev pub decreases-loop-at : goal.decreases-loop-at
decreases-loop-at l = 2 ^ 32 - l.at
