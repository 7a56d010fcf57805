-- `printing::finish` meets its contract: the closing lines at the end and where input remains, nothing where a read
-- failed. Assumes nothing.
use mathlib.Core.Path.{ap, sym}
use mir.Syntax.{w32}
use mir.Val.{SFits}
use mir.ValLaws.{to_z-of_z}
use borrow.Author.Rules.{rules}
use Rattle.buffer.proofs.Puts.{put_as}
use Rattle.lines.specs.Lines.{closing_lines}
use Rattle.printing.specs.Library.{Finishes}
use Rattle.printing.proofs.Running.{finish_as, finish_failed}
use Rattle.printing.proofs.finish.Goals as goal

pub returns-in-End : goal.returns-in-End
returns-in-End c =
    let closed = c.close.ensures in
    let same = ap closing_lines c.closing_lines.ensures in
    finish_as c.in-End.is (Finishes.ended (record { put = put_as same closed.put; within = closed.upper_bound }))

pub returns-in-Remains : goal.returns-in-Remains
returns-in-Remains c =
    let closed = c.close-in-Remains.ensures in
    let same = ap closing_lines c.closing_lines-in-Remains.ensures in
    finish_as c.in-Remains.is (Finishes.remains (record { put = put_as same closed.put; within = closed.upper_bound }))

pub returns-in-Failed : goal.returns-in-Failed
returns-in-Failed c =
    let error = c.in-Failed.error in
    let fits : SFits w32 error = search rules in
    finish_failed c.in-Failed.is (sym (to_z-of_z w32 error fits))
