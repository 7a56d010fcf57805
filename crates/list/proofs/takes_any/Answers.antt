-- `list::takes_any` meets its contract: the bits in common are those of the taken rows.
use Rattle.list.proofs.Bits.{takes_common}
use Rattle.list.proofs.takes_any.Goals as goal

pub returns : goal.returns
returns c = rw c.from.ensures (takes_common c.args.rows c.args.key)
