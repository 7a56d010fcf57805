-- `list::gap_end` meets its contract. The invariant: the fields before this one are below their limits.
use native.Mathlib.Omega.{arith}
use lib.ListN.{get_or}
use Rattle.list.specs.Candidates.{between, on_candidate}
use Rattle.list.proofs.Candidates.{field_end, below_block_end, field_beyond, mask_beyond, limits_candidate}
use Rattle.list.proofs.Bits.{nothing_beyond, something_beyond}
use Rattle.list.proofs.gap_end.Goals as goal

pub returns-then-index_at-field_limit : goal.returns-then-index_at-field_limit
returns-then-index_at-field_limit c =
    let at = c.args in
    let g = c.loop-g.g in
    rw c.block_end.ensures
    (between (below_block_end at.key (field_end g))
    (λ G sized fits. field_beyond sized fits g (omega arith) (omega arith)))

pub returns-then-key-masks-gt0 : goal.returns-then-key-masks-gt0
returns-then-key-masks-gt0 c =
    let at = c.args in
    rw c.block_end-then-key-masks-gt0.ensures
    (between (below_block_end at.key 16)
    (λ G sized fits. mask_beyond sized fits
    (something_beyond at.key 16 (get_or at.masks.now.sizes 0 0) c.if-key-masks-gt0.true)))

pub returns : goal.returns
returns c =
    let at = c.args in
    on_candidate
    (λ G sized fits. limits_candidate sized fits (λ g h. c.loop-g.invariant g (omega arith))
    (nothing_beyond at.key 16 (get_or at.masks.now.sizes 0 0) c.if-key-masks-gt0.false)
    c.ranges.key.fits)
