use Prim.Native.Nat.{◌+◌, ◌*◌, ◌≤◌}
use Rattle.ac.specs.Values.{laid_out}
use Rattle.buffer.specs.Put.{Put}
use Rattle.list.specs.Runs.{atoms_at}
use Rattle.solver.specs.Bindings.{bindings_below}
use Rattle.solver.specs.Values.{longest_value}
use Rattle.solver.proofs.values.put_bindings.Given as goal

abbrev pub invariant-loop-place : goal.invariant-loop-place
invariant-loop-place l =
    (l.next ≤ (2 + longest_value) * l.place)
    × Put l.initial.out 0 (laid_out (bindings_below l.variables (atoms_at l.rows l.selection) l.place)) l.next l.out
