-- `table::choices::with_constant` meets its contract. The invariant: the sets that the rows before this one reach
-- with those of the later constants are found.
use native.Mathlib.Omega.{arith}
use Rattle.table.proofs.Sets.{found_none, found_more, found_all}
use Rattle.table.proofs.choices.with_constant.Goals as goal

pub loop-i-init : goal.loop-i-init
loop-i-init c = found_none c.args.reaching.now c.args.g c.args.largest c.args.later

pub loop-i-preserved : goal.loop-i-preserved
loop-i-preserved c =
    let a = c.args in
    let at = c.loop-i in
    found_more a.reaching.now a.g a.largest a.later a.places (omega arith) at.invariant
    c.missed_by-missed.ensures.missed_by c.with_row-sets.ensures

pub returns : goal.returns
returns c =
    let a = c.args in
    let at = c.loop-i in
    found_all a.reaching.now a.g a.largest a.later at.i at.sets at.invariant (omega arith)
