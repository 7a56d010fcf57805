-- `list::least_of_tuple` meets its contract. The invariant: the masks before this one lack a row or miss a place.
-- The measure is what is left of the masks.
use Prim.Native.Nat.{◌/◌}
use native.Mathlib.Omega.{arith}
use Rattle.list.proofs.Tuples.{no_bit_left, a_bit_left, no_bit_fits, mask_on, missed_more, missed_found, missed_all}
use Rattle.list.proofs.least_of_tuple.Goals as goal

pub pack-tried-requires : goal.pack-tried-requires
pack-tried-requires c = (
  omega (arith, c.ranges.key),
  no_bit_fits c.loop-mask.mask (c.args.masks.now.sizes_fit 0) c.loop-mask-test.true,
)

pub returns-then-passed_over-eq0 : goal.returns-then-passed_over-eq0
returns-then-passed_over-eq0 c =
    let a = c.args in
    let at = c.loop-mask in
    missed_found a.masks.now a.key at.mask at.invariant.2 c.pack-tried.ensures c.weigh.ensures.weighs
    (omega (arith, c.weigh.ensures.in_tuple)) (no_bit_left at.mask _ c.loop-mask-test.true) at.invariant.0

pub loop-mask-smaller : goal.loop-mask-smaller
loop-mask-smaller c =
    omega (
      arith,
      no_bit_fits c.loop-mask.mask (c.args.masks.now.sizes_fit 0) c.loop-mask-test.true,
      c.weigh.ensures.in_tuple,
    )

pub loop-mask-preserved : goal.loop-mask-preserved
loop-mask-preserved c =
    let a = c.args in
    let at = c.loop-mask in
    let packed = c.pack-tried.ensures in
    rw c.from.ensures (
      omega (arith, at.invariant.0),
      mask_on (a.key / 65536) at.mask packed
          (no_bit_fits at.mask (c.args.masks.now.sizes_fit 0) c.loop-mask-test.true) c.weigh.ensures.in_tuple,
      missed_more a.masks.now a.key at.mask at.invariant.2 packed c.weigh.ensures.weighs
          c.weigh.ensures.in_tuple.0,
    )

pub returns : goal.returns
returns c =
    missed_all c.args.masks.now c.args.key c.loop-mask.invariant.2 (a_bit_left c.loop-mask.mask _ c.loop-mask-test.false)
