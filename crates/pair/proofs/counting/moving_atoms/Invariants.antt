use Rattle.std.proofs.Common.{◌≡◌, length, get_or}
use Rattle.pair.specs.Counts.{variable_moves}
use Rattle.pair.proofs.Counts.{SaidBelow}
use Rattle.pair.proofs.counting.moving_atoms.Given as goal

abbrev pub invariant-loop-atom : goal.invariant-loop-atom
invariant-loop-atom l =
    (length l.moving ≡ 128) × SaidBelow (λ a. variable_moves l.way (get_or l.lefts a 0)) l.atom l.moving
