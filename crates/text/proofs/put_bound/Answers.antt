-- `text::put_bound` meets its contract: the name, =, and the atoms behind the count. Assumes nothing.
use native.Mathlib.Omega.{arith}
use mathlib.Core.Path.{ap}
use lib.ListN.{length, length-drop}
use Rattle.buffer.specs.Filled.{Puts}
use Rattle.text.specs.Text.{joined, bound, binding_of}
use Rattle.buffer.proofs.Puts.{puts_then, puts_as, put-length}
use Rattle.text.proofs.Names.{name_short}
use Rattle.text.proofs.Bindings.{after_two, bound_short}
use Rattle.text.proofs.put_bound.Goals.{After-put_value}
use Rattle.text.proofs.put_bound.Goals as goal

put : (c : After-put_value) → Puts c.args.out.now (bound (binding_of c.args.bytes.now)) c.put_value.new.out
put c =
    puts_then c.put_name.ensures
    (puts_then c.put_byte.ensures
    (puts_as (ap joined (after_two c.args.bytes.now c.min.result c.min.ensures)) c.put_value.ensures))

pub returns-clause-put : goal.returns-clause-put
returns-clause-put c = put (goal.at.returns-clause-put c).After-put_value

pub returns-clause-upper_bound : goal.returns-clause-upper_bound
returns-clause-upper_bound c =
    omega (arith, (put (goal.at.returns-clause-upper_bound c).After-put_value).put.place, bound_short c.args.bytes.now (λ i. (c.type_inv.bytes i).fits) c.requires.bytes_nonzero)

pub put_byte-requires : goal.put_byte-requires
put_byte-requires c =
    omega (arith, c.put_name.ensures.put.place, put-length c.put_name.ensures.put, name_short _ (c.type_inv.bytes 0).fits)

pub put_value-requires : goal.put_value-requires
put_value-requires c =
    let after = puts_then c.put_name.ensures c.put_byte.ensures in
    omega (
      arith,
      ap length (after_two c.args.bytes.now c.min.result c.min.ensures),
      length-drop 2 c.args.bytes.now,
      c.put_name.ensures.put.place,
      c.put_byte.ensures.put.place,
      put-length after.put,
      name_short _ (c.type_inv.bytes 0).fits,
    )
