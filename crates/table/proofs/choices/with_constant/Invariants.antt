use Rattle.table.proofs.Sets.{FoundTo}
use Rattle.table.proofs.choices.with_constant.Given as goal

abbrev pub invariant-loop-i : goal.invariant-loop-i
invariant-loop-i l = FoundTo l.reaching l.g l.largest l.later l.i l.sets
