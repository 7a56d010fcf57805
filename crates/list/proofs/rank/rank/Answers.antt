-- `list::rank::rank` meets its contract. The invariant: the indexes before this constant's are read.
use native.Mathlib.Omega.{arith}
use Rattle.list.proofs.Ranks.{read_next, read_small, room_for_sets, read_all, read_tuple}
use Rattle.list.proofs.rank.rank.Goals as goal

pub loop-g-preserved : goal.loop-g-preserved
loop-g-preserved c = read_next c.loop-g.invariant c.loop-g-test.true c.requires.1 c.index_at.ensures

pub overflow_add-result : goal.overflow_add-result
overflow_add-result c = omega (arith, read_small c.loop-g.invariant c.requires.0)

pub returns-then-must-gt0 : goal.returns-then-must-gt0
returns-then-must-gt0 c = read_tuple c.loop-g.invariant c.if-must-gt0.true c.loop-g-test.false

pub overflow_add-result-2 : goal.overflow_add-result-2
overflow_add-result-2 c =
    let pre = c.requires in
    omega (arith, room_for_sets c.loop-g.invariant pre.0 (pre.1 0))

pub overflow_add-result-3 : goal.overflow_add-result-3
overflow_add-result-3 c =
    let pre = c.requires in
    omega (arith, room_for_sets c.loop-g.invariant pre.0 (pre.1 0))

pub returns : goal.returns
returns c =
    let pre = c.requires in
    rw c.from.ensures (read_all c.loop-g.invariant c.if-must-gt0.false c.loop-g-test.false pre.0 (pre.1 0))
