-- `lines::put_page_end` meets its contract: `more`, or `end` and the number behind it. Assumes nothing.
use Rattle.lines.proofs.Putting.{within_as, within_end}
use Rattle.std.proofs.Common.{sym, ap, arith}
use Rattle.lines.specs.Lines.{page_end}
use Rattle.lines.proofs.put_page_end.Goals as goal

pub returns-else-more : goal.returns-else-more
returns-else-more c =
    within_as (sym (ap (page_end c.args.lines) c.if-more.false))
    (within_end c.put_labelled.ensures c.put-else-more.ensures (omega arith))
