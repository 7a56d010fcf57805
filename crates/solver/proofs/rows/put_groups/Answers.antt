-- `solver::rows::put_groups` meets its contract: before each turn the groups before that one have been put. Assumes
-- nothing.
use mathlib.Core.Path.{◌≡◌}
use native.Mathlib.Omega.{arith}
use borrow.Author.Rules.{rules}
use lib.ListN.{length}
use Rattle.table.specs.Table.{room_of_rows}
use Rattle.solver.proofs.Putting.{group_put, all_put}
use Rattle.solver.proofs.rows.put_groups.Goals as goal

pub loop-group-preserved : goal.loop-group-preserved
loop-group-preserved c =
    let size : length c.args.table.now.rows ≡ room_of_rows = search rules in
    let l = c.loop-group in
    group_put c.args.table.now size c.loop-group-test.true l.invariant.0 l.invariant.1 c.put_group-next.ensures

pub returns-2 : goal.returns-2
returns-2 c =
    let t = c.args.table.now in
    let size : length t.rows ≡ room_of_rows = search rules in
    let l = c.loop-group in
    let last : l.group ≡ t.unbalanced = omega arith in
    let put = group_put c.args.table.now size c.loop-group-test.true l.invariant.0 l.invariant.1 c.put_group-next.ensures in
    all_put t (rw last at put.0) (rw last at put.1)
