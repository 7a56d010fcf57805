-- `pair::limits::wrong_lengths` meets its contract: 7 is given where one of the sides has a wrong length. Assumes nothing.
use Rattle.pair.specs.Given.{left, side_length}
use Rattle.pair.specs.Ways.{mode_of}
use Rattle.pair.proofs.Telling.{tells_true}
use Rattle.pair.proofs.Parting.{tells_7}
use Rattle.pair.proofs.limits.wrong_lengths.Goals as goal

pub returns-then-wrong_length : goal.returns-then-wrong_length
returns-then-wrong_length c =
    let least = c.least_atoms-least.ensures c.args.left.now c.args.right.now in
    rw c.if-wrong_length.true
    (tells_true (side_length left (rw least at (c.wrong_length.ensures.if_true c.if-wrong_length.true))))

pub returns-else-wrong_length : goal.returns-else-wrong_length
returns-else-wrong_length c =
    rw c.if-wrong_length.false at
    (tells_7 {M = mode_of c.args.way c.args.left.now c.args.right.now} (c.least_atoms-least.ensures c.args.left.now c.args.right.now) c.wrong_length.ensures
    c.wrong_length-else-wrong_length.ensures)
