use Rattle.list.proofs.Leaving.{Missing}
use Rattle.list.proofs.left_bits.Given as goal

abbrev pub invariant-loop-g : goal.invariant-loop-g
invariant-loop-g l = Missing l.masks.reaching l.masks.places l.masks.unreached l.key l.g l.missing
