-- `printing::print_library` meets its contract: before each turn the text of the blocks so far stands in the buffer, but
-- for what was written out, and each turn leaves one block less to read. Assumes nothing.
use native.Mathlib.Omega.{arith}
use mathlib.Core.Path.{ap, refl, sym, subst, ◌∙◌}
use Rattle.library.specs.Reading.{opened, ReaderFits}
use Rattle.library.proofs.Following.{opened_fits, handed_block}
use Rattle.printing.proofs.Running.{told_put, told_failed, running_start, running_block, running_ends, put_to, over}
use Rattle.printing.proofs.print_library.Goals as goal

pub loop-start-init : goal.loop-start-init
loop-start-init g c = (
  refl,
  refl,
  subst (ReaderFits c.args.input.now) (sym c.open-reader.ensures) (opened_fits _ _ c.requires.in_bounds),
  omega (arith, c.requires.in_bounds_2),
  running_start _ c.requires.in_bounds (c.open-reader.ensures ∙ ap opened c.most_blocks.ensures) c.no_counts-counts.ensures,
)

pub finish-requires : goal.finish-requires
finish-requires g c =
    let l = c.loop-start in
    record {
      over = over _ c.in_default.not-Block c.next_block-step.ensures.not_wanted;
      has_room = omega (arith, l.invariant.1, l.invariant.3);
    }

pub returns-in_default : goal.returns-in_default
returns-in_default g c =
    let l = c.loop-start in
    running_ends l.invariant.4 (omega (arith, l.invariant.1, l.invariant.3)) c.next_block-step.ensures
    c.finish.ensures

pub overflow_add-start : goal.overflow_add-start
overflow_add-start g c =
    let b = handed_block c.loop-start.invariant.2 c.next_block-step.ensures c.in-Block.is in
    omega (arith, b.ends, b.fits.ordered, b.fits.within)

pub slice_bounds-start_block-end : goal.slice_bounds-start_block-end
slice_bounds-start_block-end g c =
    let b = handed_block c.loop-start.invariant.2 c.next_block-step.ensures c.in-Block.is in
    omega (arith, b.ends, b.fits.ordered, b.fits.within)

pub returns-in_err-at : goal.returns-in_err-at
returns-in_err-at g c =
    told_failed c.print_block.result c.from_residual.result c.map_err.ensures.cases c.in_err-at.was c.from_residual.ensures.1

pub loop-start-smaller : goal.loop-start-smaller
loop-start-smaller g c =
    let b = handed_block c.loop-start.invariant.2 c.next_block-step.ensures c.in-Block.is in
    omega (arith, b.one_less)

pub loop-start-preserved : goal.loop-start-preserved
loop-start-preserved g c =
    let l = c.loop-start in
    let b = handed_block l.invariant.2 c.next_block-step.ensures c.in-Block.is in
    let to = put_to c.print_block.ensures (told_put c.print_block.result c.map_err.ensures.cases c.in_ok-at.was) in (
      c.next_block-step.auto.buffer ∙ l.invariant.0,
      c.print_block.auto.output ∙ l.invariant.1,
      b.fits,
      omega (arith, to.room, l.invariant.1),
      running_block l.invariant.4 c.next_block-step.ensures c.in-Block.is c.start_block-started.ensures to,
    )
