-- The measure of `equation::searched::Searched::walk`, the number of places that are left, and the invariant of its loop
-- over the numbers that a place may have.
use Rattle.std.proofs.Common.{length, ◌+◌, ◌-◌}
use Rattle.std.specs.Range.{range_inclusive_start}
use Rattle.equation.proofs.Turns.{Going}
use Rattle.equation.proofs.searched.Searched.+walk.Given as goal

abbrev pub decreases-walk : goal.decreases-walk
decreases-walk l = length l.self.now.left.now - l.place

abbrev pub invariant-loop-number : goal.invariant-loop-number
invariant-loop-number l =
    Going l.self l.initial.vector l.initial.rows l.place l.count l.at l.initial.number-iterator l.number-iterator
    (range_inclusive_start l.initial.number-iterator + length l.yielded) l.vector l.rows l.found
