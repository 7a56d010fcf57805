-- `equation::standing::Standing::possible` meets its contract. Assumes nothing.
use Rattle.std.proofs.Common.{arith, sym, Some, None}
use Rattle.equation.proofs.Ranges.{Only, only_up, only_down, ranges_some, ranges_none}
use Rattle.equation.proofs.standing.Standing.possible.Goals.{then-right-left, else-right-left}
use Rattle.equation.proofs.standing.Standing.possible.Goals as goal

pub returns-in-Some : goal.returns-in-Some
returns-in-Some c =
    let only : Only c.args.self c.args.left c.args.right c.args.last (Some c.in-Some.number) =
    rw (sym c.in-Some.is) (elim c.if-right-left.branch [
      | then-right-left w ↦ rw w.number-is (only_up w.if-right-left.true c.if-not-last.false w.divided-number.ensures)
      | else-right-left w ↦
          rw w.number-is (only_down (omega arith) c.if-not-last.false w.divided-number-else-right-left.ensures)
    ]) in
    let range = c.new-in-Some.ensures in
    ranges_some only (record { fresh = range.exhausted; start = range.start; end = range.end })

pub returns-in-None : goal.returns-in-None
returns-in-None c =
    let only : Only c.args.self c.args.left c.args.right c.args.last None =
    rw (sym c.in-None.is) (elim c.if-right-left.branch [
      | then-right-left w ↦ rw w.number-is (only_up w.if-right-left.true c.if-not-last.false w.divided-number.ensures)
      | else-right-left w ↦
          rw w.number-is (only_down (omega arith) c.if-not-last.false w.divided-number-else-right-left.ensures)
    ]) in
    let range = c.new-in-None.ensures in
    ranges_none only (record { fresh = range.exhausted; start = range.start; end = range.end })
