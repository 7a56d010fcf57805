-- 128 and an atom have been put for each atom before the index.
use Rattle.std.proofs.Common.{take}
use Rattle.buffer.specs.Put.{Put}
use Rattle.writing.proofs.Fronts.{paired}
use Rattle.writing.proofs.put_term.Given as goal

abbrev pub invariant-loop-atom : goal.invariant-loop-atom
invariant-loop-atom l = Put l.initial.out l.at (paired (take l.atom-index l.atom-items)) l.place l.out
