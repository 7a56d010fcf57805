-- `table::masks::mask_at` meets its contract: the rows that are above 0 at the place are marked.
use Rattle.std.proofs.Common.{rules, tests}
use Prim.Native.Nat.{ℕ, ◌+◌}
use lib.Dec.{ltb}
use lib.ListN.{get_or}
use Rattle.table.specs.Table.{row_start}
use Rattle.table.proofs.masks.mask_at.Goals as goal

pub returns : goal.returns
returns c =
    let a = c.args in
    (c.mask_where.ensures (λ (row : ℕ). ltb 0 (get_or a.rows.now (row_start a.g row + a.place) 0))
    (λ i b less said. search (rules, tests))).marks
