-- `pack::cut::Line::new` meets its contract. Assumes nothing.
use Rattle.std.proofs.Common.{refl}
use Rattle.pack.proofs.Cutting.{begins_empty}
use Rattle.pack.proofs.cut.Line.new.Goals as goal

pub returns : goal.returns
returns c = begins_empty refl
