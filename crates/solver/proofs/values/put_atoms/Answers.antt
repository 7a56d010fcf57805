-- `solver::values::put_atoms` meets its contract: before each turn the runs before this one have been put. Assumes
-- nothing.
use Rattle.list.specs.Runs.{run_count, times_at, atom_of}
use Rattle.solver.proofs.Totals.{run_fits, put_run}
use Rattle.solver.proofs.values.put_atoms.Goals as goal

pub put_repeated-next-requires : goal.put_repeated-next-requires
put_repeated-next-requires c =
    let a = c.args in
    let l = c.loop-run in
    run_fits l.run (times_at a.rows.now a.selection a.place) (atom_of a.selection) l.invariant
    (run_count a.selection) c.loop-run-test.true c.requires.place_in_bounds c.times-named.ensures.value

pub loop-run-preserved : goal.loop-run-preserved
loop-run-preserved c =
    let a = c.args in
    let l = c.loop-run in
    put_run l.run (times_at a.rows.now a.selection a.place) (atom_of a.selection) l.invariant
    c.times-named.ensures.value c.atom.ensures c.put_repeated-next.ensures
