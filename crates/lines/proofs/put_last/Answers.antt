-- `lines::put_last` meets its contract: each kind of last line has its own arm. Assumes nothing.
use Rattle.lines.proofs.Putting.{within_as, within_bound}
use Rattle.std.proofs.Common.{sym, ap, arith}
use Rattle.lines.specs.Lines.{last_line}
use Rattle.lines.proofs.put_last.Goals as goal

pub returns-in-NothingRead : goal.returns-in-NothingRead
returns-in-NothingRead c =
    within_as (sym (ap last_line c.in-NothingRead.is)) (within_bound c.put.ensures (omega arith))
