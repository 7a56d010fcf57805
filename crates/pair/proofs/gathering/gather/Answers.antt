-- `pair::gathering::gather` meets its contract. The loop's invariant: the atoms passed are visited. Assumes
-- nothing.
use Rattle.std.proofs.Common.{◌≡◌, arith, sym, ◌∙◌}
use Rattle.pair.proofs.Visited.{visited_more, visited_skip, visited_gathers}
use Rattle.pair.proofs.gathering.gather.Goals.{then-has, else-has}
use Rattle.pair.proofs.gathering.gather.Goals as goal

pub loop-atom-preserved : goal.loop-atom-preserved
loop-atom-preserved c =
    let told = rw c.from-place.ensures at c.has.ensures in
    let invariant = c.loop-atom.invariant in
    elim c.if-has.branch [
      | then-has w ↦ rw w.gathered-is (visited_more _ _ _ c.loop-atom.atom invariant (sym told ∙ w.if-has.true)
          (rw c.from-place.ensures) (rw c.from-place.ensures) w.add.ensures)
      | else-has w ↦ rw w.gathered-is (visited_skip _ _ _ c.loop-atom.atom invariant (sym told ∙ w.if-has.false))
    ]

pub returns : goal.returns
returns c =
    let at = c.loop-atom in
    let end : at.atom ≡ 128 = omega arith in
    visited_gathers c.args.kind c.args.counts _ (rw end at at.invariant)
