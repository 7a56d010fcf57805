-- `lines::put_unifiers` meets its contract: its parts are put one behind the other. Assumes nothing.
use Rattle.lines.proofs.Putting.{within_end, within_then}
use Rattle.std.proofs.Common.{arith}
use Rattle.lines.proofs.put_unifiers.Goals as goal

pub returns : goal.returns
returns c =
    within_end (within_then c.put_labelled.ensures c.put_labelled-2.ensures) c.put.ensures (omega arith)
