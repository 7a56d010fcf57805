use Prim.Native.Nat.{◌*◌, ◌^◌, ◌≤◌}
use Rattle.solver.proofs.Missing.{TuplesTo}
use Rattle.solver.proofs.count.selections_of.Given as goal

abbrev pub invariant-loop-mask : goal.invariant-loop-mask
invariant-loop-mask l =
    (l.tuples ≤ 2 ^ (4 * l.mask-index)) × TuplesTo l.unbalanced l.fn.rows l.mask-index l.tuples
