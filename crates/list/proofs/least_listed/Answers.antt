-- `list::least_listed` meets its contract. The invariant: no listed key stands from `from` to before the
-- number that the walk has come to. The measure is what is left of the keys.
use native.Mathlib.Omega.{arith}
use mathlib.Core.Path.{sym, subst, ◌∙◌}
use Rattle.list.proofs.Walk.{Walked, step_nothing, step_between, step_over, step_found, step_end}
use Rattle.list.proofs.least_listed.Goals as goal

pub returns-then-not-has_bit : goal.returns-then-not-has_bit
returns-then-not-has_bit c =
    step_nothing c.args.masks.now (sym c.has_bit.ensures ∙ c.if-not-has_bit.true)

pub loop-at-smaller-in-Some : goal.loop-at-smaller-in-Some
loop-at-smaller-in-Some c =
    omega (arith, (step_between c.loop-at.invariant c.gap_end.ensures c.in-Some.is).0, c.loop-at-test.true)

pub loop-at-preserved-in-Some : goal.loop-at-preserved-in-Some
loop-at-preserved-in-Some c = (step_between c.loop-at.invariant c.gap_end.ensures c.in-Some.is).1

pub returns-then-is_some : goal.returns-then-is_some
returns-then-is_some c =
    step_found c.loop-at.invariant c.gap_end.ensures c.in_default.is c.least_of_tuple-least.ensures
    (sym c.is_some.ensures ∙ c.if-is_some.true)

pub loop-at-preserved : goal.loop-at-preserved
loop-at-preserved c =
    let left = c.left_bits.ensures in
    subst (Walked _ _) (sym c.block_end-at.ensures)
    (step_over c.loop-at.invariant c.gap_end.ensures c.in_default.is c.least_of_tuple-least.ensures
    (sym c.is_some.ensures ∙ c.if-is_some.false) left.lower_bound.0 left.by_index)

pub returns : goal.returns
returns c = step_end c.loop-at.invariant c.loop-at-test.false
