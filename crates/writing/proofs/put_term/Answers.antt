-- `writing::put_term` meets its contract: 128 and an atom for each but the last, and then the last. Assumes nothing.
use Rattle.std.proofs.Common.{◌-◌, length, take, arith, length-take, length-drop, take_all}
use borrow.Author.Rules.{part_to_end}
use Rattle.buffer.proofs.Puts.{put_then, put_as}
use Rattle.writing.proofs.Fronts.{length_paired, paired_next, front_end}
use Rattle.writing.proofs.put_term.Goals as goal

pub put_bytes-place-requires : goal.put_bytes-place-requires
put_bytes-place-requires c =
    let front = take (length c.args.atoms.now - 1) c.args.atoms.now in
    let many = simp length-take at c.loop-atom-test.true in
    let e = simp length-take at (length_paired (take c.loop-atom.atom-index front)) in
    omega (arith, many, e)

pub loop-atom-preserved : goal.loop-atom-preserved
loop-atom-preserved c =
    put_as (paired_next _ c.loop-atom.atom-index c.loop-atom-test.true) (put_then c.loop-atom.invariant c.put_bytes-place.ensures)

pub put_bytes-requires : goal.put_bytes-requires
put_bytes-requires c =
    let front = take (length c.args.atoms.now - 1) c.args.atoms.now in
    let e = simp length-take at (length_paired (take c.loop-atom.atom-index front)) in
    simp (length-take, length-drop) (omega (arith, e))

pub returns : goal.returns
returns c =
    let atoms = c.args.atoms.now in
    let last = length atoms - 1 in
    let put = rw (take_all _ _ c.loop-atom-test.false, part_to_end) at (put_then c.loop-atom.invariant c.put_bytes.ensures) in
    put_as (front_end last atoms (omega arith)) put
