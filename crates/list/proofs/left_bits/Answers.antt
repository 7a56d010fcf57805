-- `list::left_bits` meets its contract. The invariant: what neither a balanced row nor the rows of the
-- constants before this one reach is missing.
use native.Mathlib.Omega.{arith}
use mathlib.Core.Path.{sym, ◌∙◌}
use Rattle.list.proofs.Leaving.{missing_more, left_none}
use Rattle.list.proofs.left_bits.Goals as goal

pub returns-then-not-has_bit-clause-by_index : goal.returns-then-not-has_bit-clause-by_index
returns-then-not-has_bit-clause-by_index c = λ wide G sized marked fits.
    let m = c.args.masks.now in
    let at = c.loop-g in
    let row = c.missed_by-missing in
    left_none m.reaching m.places m.unreached c.args.key m.constants_fit m.sets (omega arith)
    (missing_more m.reaching m.places m.unreached c.args.key at.g at.missing c.index_at.result row.result
    (omega (arith, c.index_at.ensures)) c.index_at.ensures at.invariant row.ensures.missed_by)
    (sym c.has_bit.ensures ∙ c.if-not-has_bit.true) sized marked fits

pub loop-g-preserved : goal.loop-g-preserved
loop-g-preserved c =
    let m = c.args.masks.now in
    let at = c.loop-g in
    let row = c.missed_by-missing in
    missing_more m.reaching m.places m.unreached c.args.key at.g at.missing c.index_at.result row.result
    (omega (arith, c.index_at.ensures)) c.index_at.ensures at.invariant row.ensures.missed_by
