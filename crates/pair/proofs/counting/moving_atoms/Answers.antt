-- `pair::counting::moving_atoms` meets its contract. The loop's invariant: the table says of the atoms passed whether
-- they move, and false of all others. Assumes nothing.
use Rattle.std.proofs.Common.{refl}
use Rattle.pair.proofs.Counts.{said_below_none}
use Rattle.pair.proofs.counting.moving_atoms.Goals as goal

pub loop-atom-init : goal.loop-atom-init
loop-atom-init c = (refl, said_below_none _ 128)
