-- `text::put_further` meets its contract: before each turn the atoms before this one have been put. Assumes nothing.
use Prim.Native.Nat.{◌≤◌, ◌<◌, ◌*◌}
use native.Mathlib.Omega.{arith}
use lib.ListN.{length, take}
use Rattle.text.specs.Text.{further}
use Rattle.buffer.proofs.Puts.{puts_then, puts_as, put-length}
use Rattle.text.proofs.Names.{further_next, further_short}
use Rattle.text.proofs.put_further.Goals as goal

pub loop-atom-preserved : goal.loop-atom-preserved
loop-atom-preserved c =
    let l = c.loop-atom in
    let within : l.atom-index < length c.args.atoms.now = omega arith in
    puts_as (further_next c.args.atoms.now l.atom-index within)
    (puts_then l.invariant (puts_then c.put_byte.ensures c.put_name.ensures))

pub put_byte-requires : goal.put_byte-requires
put_byte-requires c =
    let l = c.loop-atom in
    let short = further_short c.args.atoms.now l.atom-index (λ i. (c.type_inv.atoms i).fits) in
    omega (arith, l.invariant.put.place, put-length l.invariant.put)

pub put_name-requires : goal.put_name-requires
put_name-requires c =
    let l = c.loop-atom in
    let short = further_short c.args.atoms.now l.atom-index (λ i. (c.type_inv.atoms i).fits) in
    omega (arith, l.invariant.put.place, put-length l.invariant.put, c.put_byte.ensures.put.place, put-length c.put_byte.ensures.put)
