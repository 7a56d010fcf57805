-- `solver::rows::size_at` meets its contract: the size beside the group. Assumes nothing.
use Rattle.solver.proofs.Putting.{size_there}
use Rattle.solver.proofs.rows.size_at.Goals as goal

pub returns-then-place-table : goal.returns-then-place-table
returns-then-place-table c = size_there c.args.table.now c.args.place c.if-place-table.true
