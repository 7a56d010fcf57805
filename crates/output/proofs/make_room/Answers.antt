-- `output::make_room` meets its contract: the buffer is written out where there is no room behind the place.
-- Assumes nothing.
use Rattle.std.proofs.Common.{arith}
use Rattle.std.proofs.lemmas.Result.{err_from_is_err_and}
use Rattle.output.specs.Room.{stays, emptied, failed}
use Rattle.output.proofs.make_room.Goals as goal

pub returns-then-has_room : goal.returns-then-has_room
returns-then-has_room g c = stays (grind arith)

pub returns-in_err-write_out : goal.returns-in_err-write_out
returns-in_err-write_out g c =
    let p = err_from_is_err_and c.from_residual.result c.from_residual.ensures.1 in rw p.1 (failed (grind arith))

pub returns : goal.returns
returns g c = emptied (grind arith) (grind arith)
