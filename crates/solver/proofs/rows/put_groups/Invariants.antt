use Prim.Native.Nat.{◌≤◌}
use Rattle.buffer.specs.Put.{Put}
use Rattle.solver.specs.Rows.{bytes_of}
use Rattle.table.specs.Table.{group_start}
use Rattle.solver.proofs.Putting.{rows_before}
use Rattle.solver.proofs.rows.put_groups.Given as goal

abbrev pub invariant-loop-group : goal.invariant-loop-group
invariant-loop-group l =
    (l.next ≤ group_start l.group) × Put l.initial.out 0 (bytes_of (rows_before l.table l.group)) l.next l.out
