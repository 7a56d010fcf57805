-- `printing::print_block` meets its contract: before each turn there is room for a line, and what is left are the lines
-- from `number` on. Assumes nothing.
use native.Mathlib.Omega.{arith}
use mathlib.Core.Path.{◌≡◌, ap, ◌∙◌}
use lib.ListN.{length}
use Rattle.output.specs.Step.{left_from}
use Rattle.output.proofs.Steps.{nothing_left}
use Rattle.output.proofs.Held.{holds_step, holds_room, holds_as, roomy}
use Rattle.printing.specs.Printed.{lines_of, lines_put}
use Rattle.printing.proofs.Numbered.{count_lines}
use Rattle.printing.proofs.Running.{put_failed}
use Rattle.printing.proofs.print_block.Goals as goal

pub returns-in_err-next : goal.returns-in_err-next
returns-in_err-next g c = put_failed c.from_residual.result c.from_residual.ensures.0

pub loop-number-preserved : goal.loop-number-preserved
loop-number-preserved g c =
    let l = c.loop-number in
    let same = c.put_lines-step.auto.output ∙ l.invariant.0 in
    let at = c.in_ok-next.was in (
      same,
      c.put_lines-step.ensures.goes.within,
      omega (arith, roomy c.make_room.ensures at, same),
      λ way L R prints.
          holds_room
          (holds_step (l.invariant.3 way L R prints) (c.put_lines-step.ensures.steps way L R prints) c.put_lines-step.ensures.goes.inside)
          c.make_room.ensures at,
    )

pub returns : goal.returns
returns g c =
    let l = c.loop-number in
    lines_put l.invariant.2
    (λ way L R prints.
    let lines = lines_of way L R c.args.listing in
    let all : l.number ≡ length lines =
    omega (arith, c.loop-number-test.false, c.line_count-lines.ensures, l.invariant.1, count_lines prints) in
    holds_as (ap (left_from lines) all ∙ nothing_left lines) (l.invariant.3 way L R prints))
