-- `printing::ask::ask` meets its contract: the sides that Read gave fit their buffers, and are asked about.
-- Assumes nothing.
use mathlib.Core.Path.{sym}
use lib.Seq.{length-take-le}
use Rattle.printing.proofs.Sides.{sides_fit, asked_as, block_asked}
use Rattle.printing.proofs.ask.ask.Goals as goal

pub slice_bounds-left-end : goal.slice_bounds-left-end
slice_bounds-left-end c = (sides_fit c.read-read.result c.read-read.ensures c.unwrap_or-sides.ensures).0

pub slice_bounds-left-end-2 : goal.slice_bounds-left-end-2
slice_bounds-left-end-2 c =
    sym (length-take-le _ _ (sides_fit c.read-read.result c.read-read.ensures c.unwrap_or-sides.ensures).0)

pub slice_bounds-right-end : goal.slice_bounds-right-end
slice_bounds-right-end c = (sides_fit c.read-read.result c.read-read.ensures c.unwrap_or-sides.ensures).1

pub slice_bounds-right-end-2 : goal.slice_bounds-right-end-2
slice_bounds-right-end-2 c =
    sym (length-take-le _ _ (sides_fit c.read-read.result c.read-read.ensures c.unwrap_or-sides.ensures).1)

pub returns-in-Census : goal.returns-in-Census
returns-in-Census c =
    block_asked c.read-read.ensures c.unwrap_or-sides.ensures (asked_as c.in-Census.is (c.count_sides.ensures _ _))
