-- `solver::page::settle` meets its contract: at the start the least key of the list, else what stands after the key, if
-- that is listed.
use Rattle.std.proofs.lemmas.Result.{err_from_is_err_and}
use Rattle.list.proofs.Table.{table_ascending}
use Rattle.solver.proofs.Beginning.{settled_start, settled_unlisted, settled_after}
use Rattle.solver.proofs.page.settle.Goals as goal

pub returns-in-Start : goal.returns-in-Start
returns-in-Start c = λ t its M L R of.
    rw (c.in-Start.is, c.ok_or.ensures.value)
    (settled_start (table_ascending of) (c.least_listed.ensures t its M L R of))

pub returns-in_err-find_key-in-After : goal.returns-in_err-find_key-in-After
returns-in_err-find_key-in-After c = λ t its M L R of.
    let refused = err_from_is_err_and c.from_residual.result c.from_residual.ensures.1 in
    rw (c.in-After.is, refused.1, refused.2) (settled_unlisted (c.in_err-find_key-in-After.ensures t its M L R of))

pub returns-in_ok-find_key-in-After : goal.returns-in_ok-find_key-in-After
returns-in_ok-find_key-in-After c = λ t its M L R of.
    rw (c.in-After.is, c.ok_or-in-After.ensures.value)
    (settled_after (table_ascending of) (c.in_ok-find_key-in-After.ensures t its M L R of)
    (c.least_listed-in-After.ensures t its M L R of))
