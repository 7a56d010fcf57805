-- `table::groups::spread` meets its contract: before each turn the rows before i stand at their places.
-- Assumes nothing.
use Prim.Native.Nat.{ℕ, ◌*◌, ◌<◌, ◌≤◌}
use native.Mathlib.Nat.{mul-le-mul}
use mathlib.Core.Path.{◌≡◌, ap, subst, ◌∙◌}
use native.Mathlib.Omega.{arith}
use lib.ListN.{length}
use Rattle.table.specs.Table.{most_rows}
use Rattle.table.proofs.Rows.{most_rows_least}
use Rattle.table.proofs.Spreading.{SpreadTo, spread_next, spread_all, row_long, row_part}
use Rattle.table.proofs.groups.spread.Goals as goal

pub loop-i-preserved : goal.loop-i-preserved
loop-i-preserved c =
    let a = c.args in
    let found = a.found.now in
    let row = c.loop-i.i in
    let few : row < most_rows a.group = omega arith in
    let number : found.number ≤ 16 = omega (arith, most_rows_least a.group) in
    let room : found.number * a.places ≤ length found.rows = omega (arith, mul-le-mul number c.requires.0) in
    let bytes = row_part a.places found.rows c.loop-i-test.true room in
    spread_next c.requires.0 c.requires.1 few (ap length bytes ∙ row_long a.places found.rows c.loop-i-test.true room)
    bytes c.loop-i.invariant (rw c.row_start.ensures at c.put_bytes.ensures)

pub returns : goal.returns
returns c =
    let at = c.loop-i in
    let a = c.args in
    let found = a.found.now in
    let same : at.i ≡ found.number = omega arith in
    spread_all c.requires.2
    (subst (λ (i : ℕ). SpreadTo a.places a.group found.rows a.rows.now i at.rows) same at.invariant)
