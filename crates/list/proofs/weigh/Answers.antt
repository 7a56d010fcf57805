-- `list::weigh` meets its contract. The invariant: the number is the farthest that the rows that must be taken and the
-- places before this one send to.
use native.Mathlib.Omega.{arith}
use Rattle.list.proofs.Weighing.{places_all}
use Rattle.list.proofs.weigh.Goals as goal

pub returns-clause-weighs : goal.returns-clause-weighs
returns-clause-weighs c = λ G.
    let m = c.args.masks.now in
    let at = c.loop-place in
    places_all m.reaching m.unbalanced m.must _ at.place at.invariant.1 (omega arith) G
