-- `solver::page::write_keys` meets its contract. The invariant: the keys up to the last one written stand in front,
-- and what remains after it is left.
use native.Mathlib.Omega.{arith}
use Rattle.solver.proofs.PageWritten.{writing_first, writing_next, written_short, written_full}
use Rattle.solver.proofs.page.write_keys.Goals as goal

pub loop-written-init : goal.loop-written-init
loop-written-init c = writing_first _ c.args.out.now c.requires.0 c.requires.1

pub returns-in_default : goal.returns-in_default
returns-in_default c =
    written_short c.args.out.now c.loop-written.invariant (λ t its M L R of. c.in_default.ensures t its M L R of)

pub loop-written-preserved : goal.loop-written-preserved
loop-written-preserved c =
    writing_next c.loop-written.invariant c.loop-written-test.true (λ t its M L R of. c.in-Some.ensures t its M L R of)

pub returns : goal.returns
returns c =
    rw c.is_some-more.ensures
    (written_full c.args.out.now c.loop-written.invariant (omega (arith, c.loop-written.invariant.not_too_many))
    c.least_listed-2.ensures)
