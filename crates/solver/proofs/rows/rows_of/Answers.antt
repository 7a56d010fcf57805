-- `solver::rows::rows_of` meets its contract: the rows are put, and the sizes told. Assumes nothing.
use Rattle.solver.proofs.Promise.{rows_promised}
use Rattle.solver.proofs.rows.rows_of.Goals as goal

pub returns : goal.returns
returns c M L R of none =
    rows_promised of none c.requires c.put_groups.ensures.0
    c.put_groups.ensures.1
    c.size_at.ensures
    c.size_at-2.ensures
    c.size_at-3.ensures
    c.size_at-4.ensures
