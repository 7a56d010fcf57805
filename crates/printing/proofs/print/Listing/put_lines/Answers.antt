-- `printing::print::Listing::put_lines` meets its contract: before each turn the lines from the first number up to `line` stand
-- in the buffer. Assumes nothing.
use Prim.Native.Nat.{◌+◌, ◌<◌, ◌≤◌}
use native.Mathlib.Omega.{arith}
use mathlib.Core.Path.{◌∙◌}
use lib.ListN.{length}
use Rattle.output.proofs.Steps.{step_line, going_line}
use Rattle.printing.specs.Printed.{line_count}
use Rattle.printing.proofs.Numbered.{count_lines}
use Rattle.printing.proofs.print.Listing.put_lines.Goals as goal

pub loop-line-preserved : goal.loop-line-preserved
loop-line-preserved c =
    let put = c.put_line.ensures in
    let l = c.loop-line in
    let counted = c.line_count-lines.ensures in
    let room : l.filled.end + 8192 ≤ length l.filled.buffer.now = omega (arith, l.invariant.1, l.invariant.2.inside) in
    let left : l.line < line_count c.args.self.now = omega (arith, c.loop-line-test.true, counted) in (
      put.at_most.same ∙ l.invariant.0,
      put.at_most.long ∙ l.invariant.1,
      going_line l.invariant.2 left (omega (arith, put.at_most.within, room, l.invariant.1)),
      λ way L R prints. step_line (l.invariant.3 way L R prints) (omega (arith, left, count_lines prints)) (put.put way L R prints).put,
    )
