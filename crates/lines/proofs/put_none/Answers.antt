-- `lines::put_none` meets its contract: its parts are put one behind the other. Assumes nothing.
use Rattle.lines.proofs.Putting.{within_end}
use Rattle.std.proofs.Common.{arith}
use Rattle.lines.proofs.put_none.Goals as goal

pub returns : goal.returns
returns c = within_end c.put_labelled.ensures c.put.ensures (omega arith)
