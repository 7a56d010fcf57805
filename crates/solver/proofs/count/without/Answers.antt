-- `solver::count::without` meets its contract, by the bits of words. Assumes nothing.
use Rattle.solver.proofs.Missing.{words_without}
use Rattle.solver.proofs.count.without.Goals as goal

pub returns : goal.returns
returns c = words_without c.args.rows c.args.others c.ranges.rows.fits c.ranges.others.fits
