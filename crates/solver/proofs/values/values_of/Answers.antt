-- `solver::values::values_of` meets its contract: 16, then what the list says of the key, then what is written of it.
-- Assumes nothing.
use Rattle.std.proofs.lemmas.Result.{err_from_is_err_and}
use Rattle.numbers.proofs.Parts.{short_promised}
use Rattle.solver.proofs.Given.{values_made}
use Rattle.solver.proofs.Promise.{values_refused, values_promised}
use Rattle.solver.proofs.values.values_of.Goals as goal

pub returns-then-out-lt-ROOM : goal.returns-then-out-lt-ROOM
returns-then-out-lt-ROOM c = λ M L R of none. short_promised (values_made of.the_groups) c.if-out-lt-ROOM.true

pub returns-in_err-find_key : goal.returns-in_err-find_key
returns-in_err-find_key c = λ M L R of none.
    let refused = err_from_is_err_and c.from_residual.result c.from_residual.ensures.1 in
    rw (refused.1, refused.2)
    (values_refused of none c.if-out-lt-ROOM.false
    (c.in_err-find_key.ensures _ c.of-masks.ensures M L R of))

pub returns : goal.returns
returns c = λ M L R of none.
    values_promised of none c.if-out-lt-ROOM.false
    (c.in_ok-find_key.ensures _ c.of-masks.ensures M L R of)
    (c.write_values.ensures.values_written M L R of)
