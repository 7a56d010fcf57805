use Rattle.buffer.specs.Put.{Put}
use Rattle.table.specs.Table.{group_in}
use Rattle.solver.specs.Rows.{bytes_of}
use Rattle.solver.proofs.rows.put_group.Given as goal

abbrev pub invariant-loop-i : goal.invariant-loop-i
invariant-loop-i l =
    Put l.initial.out l.at (bytes_of (group_in l.table.places l.table.rows l.group l.i)) l.next l.out
