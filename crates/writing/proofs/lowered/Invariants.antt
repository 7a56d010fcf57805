-- The atoms before the index are as they are written.
use Rattle.std.proofs.Common.{◌≡◌, ◌++◌, map, take, drop}
use Rattle.writing.specs.Written.{as_written}
use Rattle.writing.proofs.lowered.Given as goal

abbrev pub invariant-loop-atom : goal.invariant-loop-atom
invariant-loop-atom l =
    l.atoms ≡ map as_written (take l.atom-index l.initial.atoms) ++ drop l.atom-index l.initial.atoms
