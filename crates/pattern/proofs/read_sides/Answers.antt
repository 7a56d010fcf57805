-- `pattern::read_sides` meets its contract: where a side is wrong the buffers stay as they were, and at the end they
-- receive the atoms. Assumes nothing.
use Rattle.std.proofs.Common.{arith, length-take-le}
use Rattle.std.proofs.lemmas.Result.{err_from_is_err_and}
use Rattle.pattern.proofs.Sides.{when_atoms, when_wrong, left_said, right_said, read_room, renamed_within, put_copied, pair_said}
use Rattle.pattern.proofs.read_sides.Goals as goal

pub returns-in_err-left_count : goal.returns-in_err-left_count
returns-in_err-left_count c =
    let p = err_from_is_err_and c.from_residual.result c.from_residual.ensures.1 in
    rw (p.1, p.2) (left_said (when_wrong c.read_side.ensures c.in_err-left_count.was))

pub returns-in_err-right_count : goal.returns-in_err-right_count
returns-in_err-right_count c =
    let from = c.from_residual-in_err-right_count in
    let p = err_from_is_err_and from.result from.ensures.1 in
    rw (p.1, p.2) (right_said (when_atoms c.read_side.ensures c.in_ok-left_count.was)
    (when_wrong c.read_side-2.ensures c.in_err-right_count.was))

pub returns : goal.returns
returns c =
    let left = when_atoms c.read_side.ensures c.in_ok-left_count.was in
    let right = when_atoms c.read_side-2.ensures c.in_ok-right_count.was in
    let left_size = length-take-le _ _ left.within in
    let right_size = length-take-le _ _ (renamed_within left right c.rename.ensures) in
    let first = c.put_bytes in
    let second = c.put_bytes-2 in
    pair_said left right c.rename.ensures
    (put_copied first.ensures (omega (arith, first.ensures.place, left_size, read_room left, c.well_formed)))
    (put_copied second.ensures (omega (arith, second.ensures.place, right_size, read_room right, c.well_formed)))
