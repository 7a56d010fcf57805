-- `block::term::rename` meets its contract: one atom more is renamed in each turn. Assumes nothing.
use Rattle.std.proofs.Common.{get_or, arith}
use Rattle.std.proofs.lemmas.List.{get_or_default}
use Rattle.std.proofs.lemmas.List.Edits.{map_over_more}
use Rattle.block.specs.Front.{on_the_right}
use Rattle.block.proofs.term.rename.Goals as goal

pub loop-atom-preserved : goal.loop-atom-preserved
loop-atom-preserved c =
    let atoms = c.loop-atom.atoms in
    let i = c.loop-atom.atom-index in
    rw c.on_the_right.ensures
    (map_over_more on_the_right c.args.atoms.now atoms i (get_or atoms i 0) c.loop-atom-test.true c.loop-atom.invariant
    (get_or_default atoms i 0 _ (omega arith)))
