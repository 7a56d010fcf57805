-- `solver::count::count_of` meets its contract: the selections of all rows that reach every variable are as many as the
-- list has keys. Assumes nothing.
use Rattle.solver.proofs.Missing.{all_left}
use Rattle.solver.proofs.Promise.{count_promised}
use Rattle.solver.proofs.count.count_of.Goals as goal

pub selections_reaching-requires-clause-reaching_left : goal.selections_reaching-requires-clause-reaching_left
selections_reaching-requires-clause-reaching_left c =
    all_left c.all_rows-rows.result c.of-masks.ensures c.all_rows-rows.ensures

pub returns : goal.returns
returns c = λ M L R of none full.
    let its = c.of-masks.ensures in
    count_promised of none full its
    (c.selections_reaching.ensures (all_left c.all_rows-rows.result its c.all_rows-rows.ensures))
