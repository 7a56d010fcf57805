-- `pair::limits::wrong_bytes` meets its contract: 8 is given where one of the sides holds a wrong byte. Assumes nothing.
use Rattle.pair.specs.Given.{left, no_atom}
use Rattle.pair.proofs.Telling.{tells_true}
use Rattle.pair.proofs.Parting.{tells_8}
use Rattle.pair.proofs.limits.wrong_bytes.Goals as goal

pub returns-then-wrong_byte : goal.returns-then-wrong_byte
returns-then-wrong_byte c M =
    rw c.if-wrong_byte.true (tells_true (no_atom left (c.wrong_byte.ensures.if_true c.if-wrong_byte.true)))

pub returns-else-wrong_byte : goal.returns-else-wrong_byte
returns-else-wrong_byte c M =
    rw c.if-wrong_byte.false at (tells_8 {M = M} c.wrong_byte.ensures c.wrong_byte-else-wrong_byte.ensures)
