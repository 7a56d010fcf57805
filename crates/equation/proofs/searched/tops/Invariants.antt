use Rattle.equation.proofs.Tops.{ToppedFrom}
use Rattle.equation.proofs.searched.tops.Given as goal

abbrev pub invariant-loop-place : goal.invariant-loop-place
invariant-loop-place l = ToppedFrom l.bytes l.each l.most l.place

abbrev pub decreases-loop-place : goal.decreases-loop-place
decreases-loop-place l = l.place
