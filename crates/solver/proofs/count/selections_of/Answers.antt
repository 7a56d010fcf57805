-- `solver::count::selections_of` meets its contract. The invariant: the product so far and what is left of it are the
-- whole, and it has four bits for each constant. Assumes nothing.
use Prim.Native.Nat.{◌+◌, ◌*◌, ◌^◌, ◌≤◌, ◌<◌}
use native.Mathlib.Omega.{arith}
use mathlib.Core.Path.{◌≡◌, ◌∙◌}
use lib.Count.{ones}
use lib.ListN.{get_or}
use lib.Pow.{pow_mono, shl_exact}
use Rattle.std.proofs.lemmas.Grind.{common_steps, get_or_after_one}
use Rattle.solver.proofs.Missing.{tuples_more, tuples_small, selections_made, rows_few}
use Rattle.solver.proofs.count.selections_of.Goals as goal

pub loop-mask-preserved : goal.loop-mask-preserved
loop-mask-preserved c =
    let at = c.loop-mask in
    let n = c.row_count-tuples.result in
    let counted : n ≡ ones (get_or c.args.rows (at.mask-index + 1) 0) =
    grind (arith, common_steps, get_or_after_one, c.row_count-tuples.ensures) in (
      tuples_small at.mask-index at.tuples n c.requires.1 (omega arith) counted at.invariant.0,
      tuples_more at.mask-index at.tuples n (omega arith) counted at.invariant.1,
    )

pub overflow_shl-result : goal.overflow_shl-result
overflow_shl-result c =
    omega (arith, c.row_count.ensures, rows_few c.requires.1 0 (omega arith))

pub returns : goal.returns
returns c = λ left.
    let n = c.row_count.result in
    let most : 4 * c.loop-mask.mask-index ≤ 16 = omega (arith, c.requires.0) in
    let fits : c.loop-mask.tuples < 2 ^ 17 = omega (arith, c.loop-mask.invariant.0, pow_mono most) in
    shl_exact {a = c.loop-mask.tuples} 17 n 64 fits
    (omega (arith, c.row_count.ensures, rows_few left 0 (omega arith)))
    ∙ selections_made c.loop-mask.mask-index c.loop-mask.tuples n (omega arith) c.row_count.ensures c.loop-mask.invariant.1 left
