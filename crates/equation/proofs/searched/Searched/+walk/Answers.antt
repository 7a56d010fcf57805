-- `equation::searched::Searched::walk` meets its contract. Assumes nothing.
use Rattle.std.proofs.Common.{arith, add-zero}
use Rattle.equation.proofs.Walking.{walks_apart}
use Rattle.equation.proofs.Numbers.{comes, in_turn, rest_none, one_more}
use Rattle.equation.proofs.Turns.{ready_next, next_turn, walks_last, walks_more, going_first, going_at, going_on}
use Rattle.equation.proofs.searched.Searched.+walk.Goals as goal

pub returns-then-apart : goal.returns-then-apart
returns-then-apart t c =
    walks_apart c.requires (omega (arith, c.requires.within, c.if-place-self.false))
    (c.apart.ensures c.if-apart.true)

pub loop-number-init : goal.loop-number-init
loop-number-init t c =
    rw (c.into_iter-number-iterator.ensures.into_iter_gives, add-zero)
    (going_first c.requires c.if-place-self.false c.possible-number-items.ensures)

pub walk-requires : goal.walk-requires
walk-requires t c =
    let step = c.in-Some.ensures.steps in
    let going = going_at c.loop-number.invariant (comes c.loop-number.invariant.rest step) in (
      omega (arith, c.decreases, going.turn.choice.within),
      ready_next going.turn c.chosen-next.ensures (in_turn going.rest step) (omega arith) (omega arith),
    )

pub returns-in_err-found : goal.returns-in_err-found
returns-in_err-found t c =
    let going = going_at c.loop-number.invariant (comes c.loop-number.invariant.rest c.in-Some.ensures.steps) in
    rw c.from_residual.ensures (walks_more going.turn c.chosen-next.ensures c.in_err-found.ensures)

pub loop-number-preserved : goal.loop-number-preserved
loop-number-preserved t c =
    let step = c.in-Some.ensures.steps in
    let number = comes c.loop-number.invariant.rest step in
    let going = going_at c.loop-number.invariant number in
    going_on going step
    (next_turn going.turn c.chosen-next.ensures c.walk.auto.vector c.walk.auto.rows c.in_ok-found.ensures)
    (omega (arith, one_more c.loop-number.yielded c.in-Some.number, number))

pub returns : goal.returns
returns t c = walks_last c.loop-number.invariant.turn (rest_none c.loop-number.invariant.rest c.in-None.ensures.steps)
