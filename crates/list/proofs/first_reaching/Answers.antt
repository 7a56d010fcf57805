-- `list::first_reaching` meets its contract: the key itself, or the end of the block of the lowest row that is
-- above 0 at the place.
use mathlib.Core.Path.{sym, ◌∙◌}
use Rattle.list.proofs.Weighing.{in_tuple_block, weighs_jump}
use Rattle.list.proofs.first_reaching.Goals as goal

pub returns : goal.returns
returns c =
    let at = c.args in
    let lowest = c.lowest_row.ensures in
    record {
      in_tuple = rw c.block_end.ensures (in_tuple_block at.key lowest.0);
      weighs = rw c.block_end.ensures
          (weighs_jump at.masks.now.reaching at.masks.now.unbalanced at.place lowest.0 lowest.1
          (sym c.reached.ensures ∙ c.if-reached.false));
    }
