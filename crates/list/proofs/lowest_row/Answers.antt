-- `list::lowest_row` meets its contract: below the zeros at its end a mask has no row.
use native.Mathlib.Omega.{arith}
use Rattle.list.proofs.Bits.{no_row_below}
use Rattle.list.proofs.lowest_row.Goals as goal

pub returns : goal.returns
returns c = (omega arith, λ i h. no_row_below c.args.rows c.ranges.rows.fits i (omega arith))
