-- `writing::lowered` meets its contract: one atom more is as it is written in each turn. Assumes nothing.
use Rattle.std.proofs.Common.{get_or, arith}
use Rattle.std.proofs.lemmas.List.{get_or_default}
use Rattle.std.proofs.lemmas.List.Edits.{map_over_more}
use Rattle.writing.specs.Written.{as_written}
use Rattle.writing.proofs.Lower.{all_written}
use Rattle.writing.proofs.lowered.Goals as goal

pub loop-atom-preserved : goal.loop-atom-preserved
loop-atom-preserved c =
    let atoms = c.loop-atom.atoms in
    let i = c.loop-atom.atom-index in
    rw c.as_written.ensures
    (map_over_more as_written c.copy_from_slice.new.self atoms i (get_or atoms i 0) c.loop-atom-test.true
    c.loop-atom.invariant
    (get_or_default atoms i 0 _ (omega arith)))

pub returns : goal.returns
returns c =
    all_written c.args.right.now _ c.loop-atom.atom-index c.copy_from_slice.ensures.after c.loop-atom-test.false
    c.loop-atom.invariant
