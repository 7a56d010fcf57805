-- `pack::pack_lines` meets its contract. The loop's invariant: the lines of the pieces that came are packed. Each
-- turn leaves one piece less to read. Assumes nothing.
use Rattle.std.proofs.Common.{◌≡◌, sym, refl, ◌∙◌, subst, arith, rules, Ok}
use Rattle.std.proofs.lemmas.Result.{err_from_is_err_and}
use Rattle.library.specs.Reading.{ReaderFits}
use Rattle.library.proofs.Following.{opened_fits, handed_block}
use Rattle.pack.proofs.Running.{running_start, running_piece, running_ends, when_on, lent_piece, write_failed}
use Rattle.pack.proofs.pack_lines.Goals as goal

pub loop-start-init : goal.loop-start-init
loop-start-init g c =
    let unread = c.open-reader.ensures in
    record {
      long = refl;
      fits = subst (ReaderFits c.args.input.now) (sym unread) (opened_fits _ _ c.requires.0);
      ready = record { place = rw c.begin-packing.ensures (omega arith); room = c.requires.1 };
      running = running_start c.requires.0 unread c.new-line.ensures c.begin-packing.ensures;
    }

pub returns-in_default : goal.returns-in_default
returns-in_default g c =
    let l = c.loop-start in
    running_ends l.invariant.running c.next_block-step.ensures (omega arith) c.finish.auto.output c.finish.ensures

pub overflow_add-piece : goal.overflow_add-piece
overflow_add-piece g c =
    let known = handed_block c.loop-start.invariant.fits c.next_block-step.ensures c.in-Block.is in
    omega (arith, known.ends, known.fits.ordered, known.fits.within)

pub slice_bounds-piece-end : goal.slice_bounds-piece-end
slice_bounds-piece-end g c =
    let known = handed_block c.loop-start.invariant.fits c.next_block-step.ensures c.in-Block.is in
    omega (arith, known.ends, known.fits.ordered, known.fits.within)

pub returns-in_err-packing : goal.returns-in_err-packing
returns-in_err-packing g c =
    let p = err_from_is_err_and c.from_residual.result c.from_residual.ensures.1 in
    rw (p.1, p.2)
    (write_failed c.pack_piece.result _ c.map_err.ensures.cases (λ error stopped given. search (rules, given))
    c.in_err-packing.was)

pub loop-start-smaller : goal.loop-start-smaller
loop-start-smaller g c =
    let known = handed_block c.loop-start.invariant.fits c.next_block-step.ensures c.in-Block.is in
    omega (arith, known.one_less)

pub loop-start-preserved : goal.loop-start-preserved
loop-start-preserved g c =
    let l = c.loop-start in
    let next = c.next_block-step.ensures in
    let known = handed_block l.invariant.fits next c.in-Block.is in
    let was : c.pack_piece.result ≡ Ok c.in_ok-packing.packing = grind arith in
    let on = when_on c.pack_piece.ensures was in
    let on' = rw (lent_piece c.in-Block.start c.in-Block.length c.next_block-step.new.buffer) at on in
    record {
      long = c.next_block-step.auto.buffer ∙ l.invariant.long;
      fits = known.fits;
      ready = record { place = omega (arith, on.inside); room = l.invariant.ready.room };
      running = running_piece l.invariant.running next c.in-Block.is on';
    }
