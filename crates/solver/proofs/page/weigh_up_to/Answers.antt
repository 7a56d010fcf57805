-- `solver::page::weigh_up_to` meets its contract: at the start the rank of the last key, else the difference of two.
use Rattle.solver.proofs.Weighed.{weighed_from_start, weighed_after}
use Rattle.solver.proofs.page.weigh_up_to.Goals as goal

pub returns-in-Start : goal.returns-in-Start
returns-in-Start c = rw c.in-Start.is (weighed_from_start c.rank-upto.ensures)

pub returns-in-After : goal.returns-in-After
returns-in-After c =
    rw (c.in-After.is, c.saturating_sub.ensures)
    (weighed_after c.rank-upto.ensures c.rank-passed.ensures)
