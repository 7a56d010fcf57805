-- `pattern::side::finish` meets its contract: whether an item has ended and every bracket is closed. Assumes nothing.
use Rattle.std.proofs.Common.{arith}
use Rattle.pattern.specs.Inner.{Finishes}
use Rattle.pattern.proofs.Reached.{empty_fault, item_fault, open_fault, side_read}
use Rattle.pattern.proofs.side.finish.Goals as goal

pub returns-in-false-eq0-eq0 : goal.returns-in-false-eq0-eq0
returns-in-false-eq0-eq0 c =
    let is = c.in-false-eq0-eq0 in
    λ bytes atoms reached all. Finishes.is_wrong (empty_fault reached all is.is-0 (is.is-1, is.is-2))

pub returns-in-false-default-default : goal.returns-in-false-default-default
returns-in-false-default-default c =
    let is = c.in-false-default-default in
    λ bytes atoms reached all. Finishes.is_wrong (item_fault reached all is.is-0 (omega arith))

pub returns-in-false-default-default-2 : goal.returns-in-false-default-default-2
returns-in-false-default-default-2 c =
    let is = c.in-false-default-default in
    λ bytes atoms reached all. Finishes.is_wrong (item_fault reached all is.is-0 (omega arith))

pub returns-in-true-eq0-default : goal.returns-in-true-eq0-default
returns-in-true-eq0-default c =
    let is = c.in-true-eq0-default in λ bytes atoms reached all. side_read reached all is.is-0 is.is-1

pub returns-in-true-default-default : goal.returns-in-true-default-default
returns-in-true-default-default c =
    let is = c.in-true-default-default in
    λ bytes atoms reached all. Finishes.is_wrong (open_fault reached all is.is-0 (omega arith))
