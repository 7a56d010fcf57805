-- `pattern::side::lead` meets its contract: each kind of byte has its own arm. Assumes nothing.
use Rattle.std.proofs.Common.{◌≡◌, ◌-◌, arith}
use Rattle.std.proofs.lemmas.Result.{err_from_is_err_and}
use Rattle.pattern.specs.declared.Fault.TheVariants as fault
use Rattle.pattern.proofs.Turns.{blank_turns, opening_turns, opening_stuck, closing_turns, closing_early, closing_stuck, plus_turns, plus_stuck, other_stuck}
use Rattle.pattern.proofs.side.lead.Goals as goal

pub returns-in-Blank-default : goal.returns-in-Blank-default
returns-in-Blank-default c = blank_turns (rw c.in-Blank-default.is-0 at c.classify.ensures)

pub returns-in-Opening-false : goal.returns-in-Opening-false
returns-in-Opening-false c = opening_turns (rw c.in-Opening-false.is-0 at c.classify.ensures) c.in-Opening-false.is-1

pub returns-in_err-depth-in-Closing-true : goal.returns-in_err-depth-in-Closing-true
returns-in_err-depth-in-Closing-true c =
    let p = err_from_is_err_and c.from_residual.result c.from_residual.ensures.1 in
    let none_open : c.args.depth ≡ 0 = grind arith in
    let why : c.in_err-depth-in-Closing-true.field-0.0 ≡ fault.NotOpened = grind arith in
    rw (p.1, p.2, why)
    (closing_stuck (rw c.in-Closing-true.is-0 at c.classify.ensures) c.in-Closing-true.is-1 none_open)

pub returns-in_ok-depth-in-Closing-true : goal.returns-in_ok-depth-in-Closing-true
returns-in_ok-depth-in-Closing-true c =
    let one_less : c.in_ok-depth-in-Closing-true.depth ≡ c.args.depth - 1 = grind arith in
    rw one_less
    (closing_turns (rw c.in-Closing-true.is-0 at c.classify.ensures) c.in-Closing-true.is-1 (λ none_open. grind arith))

pub returns-in-Plus-true : goal.returns-in-Plus-true
returns-in-Plus-true c = plus_turns (rw c.in-Plus-true.is-0 at c.classify.ensures) c.in-Plus-true.is-1

pub returns-in-Closing-false : goal.returns-in-Closing-false
returns-in-Closing-false c = closing_early c.in-Closing-false.ensures c.in-Closing-false.is-1

pub returns-in-Closing-false-2 : goal.returns-in-Closing-false-2
returns-in-Closing-false-2 c = plus_stuck c.in-Closing-false.ensures c.in-Closing-false.is-1

pub returns-in-Opening-true : goal.returns-in-Opening-true
returns-in-Opening-true c = opening_stuck c.in-Opening-true.ensures c.in-Opening-true.is-1

pub returns-in-Opening-true-2 : goal.returns-in-Opening-true-2
returns-in-Opening-true-2 c = other_stuck c.in-Opening-true.ensures c.in-Opening-true.is-1
