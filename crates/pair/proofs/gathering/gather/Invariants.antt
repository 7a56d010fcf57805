use Rattle.pair.proofs.Visited.{Visited, is_counted, exceeds}
use Rattle.pair.proofs.gathering.gather.Given as goal

abbrev pub invariant-loop-atom : goal.invariant-loop-atom
invariant-loop-atom l =
    Visited (is_counted l.kind l.counts) (exceeds l.counts.left l.counts.right)
    (exceeds l.counts.right l.counts.left) l.atom l.gathered
