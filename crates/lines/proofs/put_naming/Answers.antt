-- `lines::put_naming` meets its contract: its parts are put one behind the other. Assumes nothing.
use Rattle.std.proofs.Common.{arith}
use Rattle.lines.proofs.Putting.{within_end, within_then}
use Rattle.lines.proofs.put_naming.Goals as goal

pub returns : goal.returns
returns c =
    within_end (within_then c.put_refusal.ensures c.put_named.ensures) c.put.ensures (omega arith)
