-- `equation::standing::divided` meets its contract: only the quotient can lift the lower sum to the higher one.
-- Assumes nothing.
use Rattle.std.proofs.Common.{arith}
use Rattle.equation.proofs.Ranges.{lifts_one}
use Rattle.equation.proofs.standing.divided.Goals as goal

pub returns : goal.returns
returns c =
    lifts_one c.requires (rw (c.in_ok-number.ensures.1, c.from.ensures)) (omega (arith, c.if-from-number.false, c.from-2.ensures))
