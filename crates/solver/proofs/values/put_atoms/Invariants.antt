use Rattle.buffer.specs.Put.{Put}
use Rattle.list.specs.Runs.{runs, times_at, atom_of}
use Rattle.solver.proofs.values.put_atoms.Given as goal

abbrev pub invariant-loop-run : goal.invariant-loop-run
invariant-loop-run l =
    Put l.initial.out l.at (runs l.run (times_at l.rows l.selection l.place) (atom_of l.selection)) l.next l.out
