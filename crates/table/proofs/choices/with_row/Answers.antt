-- `table::choices::with_row` meets its contract: the sets that the mask marks are added.
use Rattle.std.proofs.Common.{rules, tests}
use Prim.Native.Nat.{ℕ}
use lib.Bits.{bit_and}
use Rattle.ac.specs.Keys.{bit}
use Rattle.table.proofs.Sets.{with_row_marked}
use Rattle.table.proofs.choices.with_row.Goals as goal

pub returns : goal.returns
returns c =
    let a = c.args in
    with_row_marked a.found (c.mask_where.ensures (λ (set : ℕ). bit a.later (bit_and set a.missed)) (λ i b less said. search (rules, tests)))
