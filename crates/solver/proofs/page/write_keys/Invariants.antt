use Rattle.solver.proofs.PageWritten.{Writing}
use Rattle.solver.proofs.page.write_keys.Given as goal

abbrev pub invariant-loop-written : goal.invariant-loop-written
invariant-loop-written l = Writing l.masks l.first l.last l.written l.wanted l.initial.out l.out
