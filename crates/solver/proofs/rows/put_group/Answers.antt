-- `solver::rows::put_group` meets its contract: before each turn the rows before i have been put. Assumes nothing.
use native.Mathlib.Omega.{arith}
use mathlib.Core.Path.{◌≡◌, ap}
use borrow.Author.Rules.{rules}
use lib.ListN.{length}
use Rattle.table.specs.Table.{room_of_rows}
use Rattle.solver.proofs.Putting.{next_fits, row_part, put_row}
use Rattle.solver.proofs.rows.put_group.Goals as goal

pub put_bytes-next-requires : goal.put_bytes-next-requires
put_bytes-next-requires c =
    let t = c.args.table.now in
    let few = c.requires.group_bound in
    let l = c.loop-i in
    let size : length t.rows ≡ room_of_rows = search rules in
    omega (
      arith,
      ap length (row_part t.rows size t.places_fit few l.i c.row_start-start.ensures),
      next_fits t.rows size t.places_fit few c.loop-i-test.true (t.sizes_fit c.args.group)
          l.invariant c.requires.room,
    )

pub loop-i-preserved : goal.loop-i-preserved
loop-i-preserved c =
    let t = c.args.table.now in
    let l = c.loop-i in
    let size : length t.rows ≡ room_of_rows = search rules in
    put_row t.places c.args.group t.rows l.i l.invariant
    (row_part t.rows size t.places_fit c.requires.group_bound l.i c.row_start-start.ensures)
    c.put_bytes-next.ensures
