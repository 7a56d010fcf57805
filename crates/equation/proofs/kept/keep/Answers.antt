-- `equation::kept::keep` meets its contract: a row found is lower, or none is and there is no room left, or none
-- is and the vector is put behind them. Assumes nothing.
use Prim.Native.Nat.{◌<◌}
use native.Mathlib.Omega.{arith}
use native.Mathlib.Nat.{mul-le-mul_right}
use lib.ListN.{length}
use Rattle.buffer.proofs.Puts.{put_pasted}
use Rattle.equation.proofs.Below.{row_within}
use Rattle.equation.proofs.Held.{keeps_lower, keeps_full, keeps_put}
use Rattle.equation.proofs.kept.keep.Goals as goal

pub returns-then-lower : goal.returns-then-lower
returns-then-lower c = keeps_lower c.args.rows.now c.requires.0
    (c.lower.ensures.if_true c.if-lower.true)

pub returns-then-count-limit : goal.returns-then-count-limit
returns-then-count-limit c =
    keeps_full c.args.rows.now c.requires.0 (c.lower.ensures.if_false c.if-lower.false) c.if-count-limit.true

pub returns : goal.returns
returns c =
    let room_left : c.args.count < c.args.limit = omega arith in
    keeps_put c.args.rows.now c.requires.0 (c.lower.ensures.if_false c.if-lower.false) c.if-count-limit.false
    (omega (arith, mul-le-mul_right (length c.args.vector.now) c.requires.0))
    (put_pasted c.put_bytes.ensures
    (omega (arith, row_within (length c.args.vector.now) room_left)))
