use lib.ListN.{take}
use Rattle.buffer.specs.Filled.{Puts}
use Rattle.text.specs.Text.{further}
use Rattle.text.proofs.put_further.Given as goal

abbrev pub invariant-loop-atom : goal.invariant-loop-atom
invariant-loop-atom l = Puts l.initial.out (further (take l.atom-index l.atoms)) l.out
