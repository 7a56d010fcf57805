-- `block::read_terms` meets its contract: each refusal leaves the buffers as they were, and at the end they
-- receive the sides. Assumes nothing.
use Rattle.std.proofs.Common.{ℕ, ◌∙◌, arith, length-take}
use lib.Seq.{take-length}
use Rattle.buffer.proofs.Puts.{put_received}
use Rattle.block.proofs.Settled.{promised_refusal}
use Rattle.block.proofs.Parts.{returned_term, left_short, right_short, left_missing, right_missing, filler_wrong, count_fits, left_copied, right_copied, sides_read}
use Rattle.block.proofs.read_terms.Goals as goal

pub returns-in_err-left_count : goal.returns-in_err-left_count
returns-in_err-left_count c number lengths =
    let missing = c.in_err-left_count.ensures in
    rw (returned_term missing.ok_part missing.value c.from_residual.ensures.1)
    (promised_refusal c.requires.in_bounds.0 c.requires.in_bounds.1
    (left_missing lengths (rw missing.ok_part at c.take_apart.ensures)))

pub returns-in_err-right_count : goal.returns-in_err-right_count
returns-in_err-right_count c number lengths =
    let missing = c.in_err-right_count.ensures in
    rw (returned_term missing.ok_part missing.value c.from_residual-in_err-right_count.ensures.1)
    (promised_refusal c.requires.in_bounds.0 c.requires.in_bounds.1
    (right_missing lengths (rw missing.ok_part at c.take_apart-2.ensures)))

pub returns-then-not-all_zero : goal.returns-then-not-all_zero
returns-then-not-all_zero c number lengths =
    let left = rw c.in_ok-left_count.ensures.ok_part at c.take_apart.ensures in
    let right = rw c.in_ok-right_count.ensures.ok_part at c.take_apart-2.ensures in
    promised_refusal c.requires.in_bounds.0 c.requires.in_bounds.1 (filler_wrong lengths left right (cc))

pub returns : goal.returns
returns c number lengths =
    let left = rw c.in_ok-left_count.ensures.ok_part at c.take_apart.ensures in
    let right = rw c.in_ok-right_count.ensures.ok_part at c.take_apart-2.ensures in
    let a = c.args in
    let left_fits = left_short a.block.now a.lengths.left a.lengths.right c.requires.block_len.1 in
    let right_fits = right_short a.block.now a.lengths.left a.lengths.right c.requires.block_len.2 in
    let left_put =
    put_received c.put_bytes.ensures (omega (arith, length-take {A = ℕ}, count_fits left left_fits)) in
    let right_put =
    put_received c.put_bytes-2.ensures (omega (arith, length-take {A = ℕ}, count_fits right right_fits)) in
    sides_read lengths left right c.requires.in_bounds.0 c.requires.in_bounds.1 (cc)
    (left_put ∙ (rw take-length at (left_copied left c.args.left.now)))
    (right_put ∙ (rw take-length at (right_copied right c.rename.ensures c.args.right.now)))
