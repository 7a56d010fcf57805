-- `solver::values::put_bindings` meets its contract: before each turn the variables before the place have been put.
-- Assumes nothing.
use native.Mathlib.Omega.{arith}
use Rattle.buffer.proofs.Puts.{put_then, put_as}
use Rattle.list.specs.Runs.{run_count, times_at, atom_of, atoms_at}
use Rattle.list.proofs.Runs.{length_runs, length_upto}
use Rattle.solver.proofs.Laid.{laid_out_next}
use Rattle.solver.proofs.values.put_bindings.Goals as goal

pub put_binding-next-requires-clause-place_bound : goal.put_binding-next-requires-clause-place_bound
put_binding-next-requires-clause-place_bound c =
    let a = c.args in
    omega (arith, length_upto a.rows.now c.requires.none_above a.selection c.loop-place.place)

pub loop-place-preserved : goal.loop-place-preserved
loop-place-preserved c =
    let a = c.args in
    let l = c.loop-place in
    let put = c.put_binding-next.ensures in
    let size = length_runs (run_count a.selection) (times_at a.rows.now a.selection l.place)
    (atom_of a.selection) in (
      omega (arith, put.place, length_upto a.rows.now c.requires.none_above a.selection l.place),
      put_as (laid_out_next a.variables.now (atoms_at a.rows.now a.selection) l.place size)
          (put_then l.invariant.1 put),
    )
