use Rattle.list.proofs.Ranks.{Read}
use Rattle.list.proofs.rank.rank.Given as goal

abbrev pub invariant-loop-g : goal.invariant-loop-g
invariant-loop-g l = Read l.sizes l.unbalanced l.key l.g l.tuple
