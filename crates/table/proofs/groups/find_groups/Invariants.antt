use Rattle.table.proofs.Accepting.{PutUpto}
use Rattle.table.proofs.groups.find_groups.Given as goal

abbrev pub invariant-loop-group : goal.invariant-loop-group
invariant-loop-group l = PutUpto l.pair l.rows l.sizes l.group
