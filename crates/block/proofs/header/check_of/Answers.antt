-- `block::header::check_of` meets its contract: the sum is that of the first 510 bytes. Assumes nothing.
use Rattle.std.proofs.Common.{arith, length-take}
use Rattle.block.proofs.Sums.{total_is_sum}
use Rattle.block.proofs.header.check_of.Goals as goal

pub slice_bounds-sum-end : goal.slice_bounds-sum-end
slice_bounds-sum-end c = simp length-take (omega arith)

pub returns : goal.returns
returns c = rw total_is_sum (cc)
