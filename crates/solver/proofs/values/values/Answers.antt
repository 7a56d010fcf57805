-- `solver::values::values` meets its contract: 16, then the numbers of the sides, then the values of the solved pair.
-- Assumes nothing.
use mathlib.Core.Path.{refl}
use Rattle.ac.proofs.Groups.{groups_exist}
use Rattle.std.proofs.lemmas.Result.{err_from_is_err_and}
use Rattle.numbers.specs.Order.{key_numbers}
use Rattle.numbers.proofs.Parts.{short_promised, verdict_promised}
use Rattle.solver.proofs.Given.{values_made}
use Rattle.solver.proofs.values.values.Goals as goal

pub returns-then-out-lt-ROOM : goal.returns-then-out-lt-ROOM
returns-then-out-lt-ROOM c = short_promised (values_made (groups_exist _ _ _)) c.if-out-lt-ROOM.true

pub returns-in_err-table : goal.returns-in_err-table
returns-in_err-table c =
    let refused = err_from_is_err_and c.from_residual.result c.from_residual.ensures.1 in
    rw (refused.1, refused.2)
    (verdict_promised (values_made (groups_exist _ _ _)) c.if-out-lt-ROOM.false c.in_err-table.ensures key_numbers refl)

pub returns : goal.returns
returns c =
    let solved = c.in_ok-table.ensures in
    c.values_of.ensures _ _ _ (solved.so refl) (solved.none_given refl)
