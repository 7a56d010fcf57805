-- `solver::rows::rows` meets its contract: 16, then what solving settles, then the rows. Assumes nothing.
use mathlib.Core.Path.{refl}
use mathlib.Core.List.{[]}
use Rattle.std.proofs.lemmas.Result.{err_from_is_err_and}
use Rattle.numbers.proofs.Parts.{short_promised, verdict_promised}
use Rattle.solver.proofs.Given.{rows_made}
use Rattle.solver.proofs.rows.rows.Goals as goal

pub returns-then-out-lt-BUFFER : goal.returns-then-out-lt-BUFFER
returns-then-out-lt-BUFFER c = short_promised rows_made c.if-out-lt-BUFFER.true

pub returns-in_err-table : goal.returns-in_err-table
returns-in_err-table c =
    let refused = err_from_is_err_and c.from_residual.result c.from_residual.ensures.1 in
    rw (refused.1, refused.2) (verdict_promised rows_made c.if-out-lt-BUFFER.false c.in_err-table.ensures [] refl)

pub returns : goal.returns
returns c =
    let solved = c.in_ok-table.ensures in
    c.rows_of.ensures _ _ _ (solved.so refl) (solved.none_given refl)
