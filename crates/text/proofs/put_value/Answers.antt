-- `text::put_value` meets its contract: the first name, and the further ones behind it. Assumes nothing.
use Prim.Native.Nat.{◌<◌}
use native.Mathlib.Omega.{arith}
use lib.ListN.{length}
use Rattle.buffer.proofs.Puts.{puts_then, puts_as, put-length}
use Rattle.text.proofs.Names.{joined_first, name_short, tail, length_tail}
use Rattle.text.proofs.put_value.Goals as goal

pub put_further-requires : goal.put_further-requires
put_further-requires c =
    omega (
      arith,
      length_tail c.args.atoms.now c.in-len1-up.len_at_least,
      c.put_name.ensures.put.place,
      put-length c.put_name.ensures.put,
      name_short _ (c.type_inv.atoms 0).fits,
    )

pub returns-in-len1-up : goal.returns-in-len1-up
unfolding tail
returns-in-len1-up c =
    puts_as (joined_first c.args.atoms.now c.in-len1-up.len_at_least)
    (puts_then c.put_name.ensures c.put_further.ensures)
