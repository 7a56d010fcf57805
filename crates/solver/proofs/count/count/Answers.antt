-- `solver::count::count` meets its contract: what solving settles, then the number. Assumes nothing.
use mathlib.Core.Path.{refl}
use Rattle.std.proofs.lemmas.Result.{err_from_is_err_and}
use Rattle.numbers.specs.Outcome.{is_refused}
use Rattle.solver.proofs.count.count.Goals as goal

pub returns-in_err-table : goal.returns-in_err-table
returns-in_err-table c =
    let refused = err_from_is_err_and c.from_residual.result c.from_residual.ensures.1 in
    rw (refused.1, refused.2) (is_refused (c.in_err-table.ensures.refused _ refl))

pub returns : goal.returns
returns c =
    let solved = c.in_ok-table.ensures in
    c.count_of.ensures _ _ _ (solved.so refl) (solved.none_given refl) refl
