-- `printing::ask::count_sides` meets its contract: it is what Count gives. Assumes nothing.
use mathlib.Core.Path.{refl}
use Rattle.printing.specs.Asked.{census}
use Rattle.printing.proofs.ask.count_sides.Goals as goal

pub returns : goal.returns
returns c = λ keys keys_after. record { same_read = refl; sides = census c.count.ensures }
