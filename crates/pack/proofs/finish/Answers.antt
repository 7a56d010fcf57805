-- `pack::finish` meets its contract: at the input's end the last line is packed. Assumes nothing.
use Rattle.std.proofs.Common.{rules}
use Rattle.pack.specs.Packing.{Finishes}
use Rattle.pack.proofs.Running.{last_packed}
use Rattle.pack.proofs.finish.Goals as goal

pub returns-in_default : goal.returns-in_default
returns-in_default g c = Finishes.failed

pub returns : goal.returns
returns g c =
    last_packed c.pack_line.result _ c.map_err.ensures.cases (λ error stopped given. search (rules, given)) c.in-End.is
    c.pack_line.ensures
