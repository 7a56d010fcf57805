-- `lines::put_refusal` meets its contract: its parts are put one behind the other. Assumes nothing.
use Rattle.std.proofs.Common.{arith}
use Rattle.lines.proofs.Putting.{within_more, within_then}
use Rattle.lines.proofs.put_refusal.Goals as goal

pub returns : goal.returns
returns c =
    let number = rw c.from.ensures at c.put_labelled-2.ensures in
    within_more (within_then c.put_labelled.ensures number) (omega arith)
