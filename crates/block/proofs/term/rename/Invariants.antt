-- The atoms before the index are renamed, and those from there on are what they were.
use Rattle.std.proofs.Common.{◌≡◌, ◌++◌, map, take, drop}
use Rattle.block.specs.Front.{on_the_right}
use Rattle.block.proofs.term.rename.Given as goal

abbrev pub invariant-loop-atom : goal.invariant-loop-atom
invariant-loop-atom l =
    l.atoms ≡ map on_the_right (take l.atom-index l.initial.atoms) ++ drop l.atom-index l.initial.atoms
