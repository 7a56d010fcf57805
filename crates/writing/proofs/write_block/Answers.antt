-- `writing::write_block` meets its contract: the terms, zeros up to byte 509, and the check. Assumes nothing.
use Rattle.std.proofs.Common.{ℕ, ◌<◌, ◌≤◌, arith, ◌≡◌, ap, List, map, length}
use lib.ListN.{length-map}
use Rattle.buffer.specs.Put.{Put}
use Rattle.buffer.proofs.Puts.{put-length, put_as}
use Rattle.writing.specs.Written.{front, as_written, up_to_terms}
use Rattle.writing.proofs.Blocks.{terms_length, block_put}
use Rattle.writing.proofs.Sides.{Lengths, left_fits, right_fits}
use Rattle.writing.proofs.write_block.Goals as goal

-- the two sides have 1 to 64 atoms
within : (L R : List ℕ) → (0 < length L) × (length L ≤ 64) → (0 < length R) × (length R ≤ 64) → Lengths L R
within L R left right =
    record { left_some = left.0; left_few = left.1; right_some = right.0; right_few = right.1 }

-- so both terms end before the check
terms_end : (number : ℕ) (L R : List ℕ) → Lengths L R
    → length (up_to_terms number (front L) (front (map as_written R))) ≤ 258
terms_end number L R sides =
    terms_length number (front L) (front (map as_written R)) (left_fits sides).1 (right_fits sides).1

-- they are put behind the number and the lengths
terms :
    (number : ℕ) (L R : List ℕ) {atoms block after : List ℕ} {end : ℕ} →
    atoms ≡ map as_written R →
    Put block 0 (up_to_terms number (front L) (front atoms)) end after →
    Put block 0 (up_to_terms number (front L) (front (map as_written R))) end after
terms number L R is put = put_as (ap (λ (l : List ℕ). up_to_terms number (front L) (front l)) is) put

pub slice_bounds-put_terms-end : goal.slice_bounds-put_terms-end
slice_bounds-put_terms-end c =
    omega (arith, ap length c.lowered-right_atoms.ensures, length-map c.args.right.now as_written)

pub put_terms-end-requires : goal.put_terms-end-requires
put_terms-end-requires c =
    let as_many = ap length c.lowered-right_atoms.ensures in
    let same = length-map c.args.right.now as_written in
    record {
      left_nonzero = c.requires.left_nonzero;
      right_nonzero = omega (arith, as_many, same);
      block_len = c.requires.block_len;
    }

pub overflow_sub-end : goal.overflow_sub-end
overflow_sub-end c =
    let a = c.args in
    let sides = within a.left.now a.right.now c.requires.left_nonzero c.requires.right_nonzero in
    let put = terms a.number a.left.now a.right.now c.lowered-right_atoms.ensures c.put_terms-end.ensures in
    omega (arith, put.place, terms_end a.number a.left.now a.right.now sides)

pub put_repeated-requires : goal.put_repeated-requires
put_repeated-requires c =
    let a = c.args in
    let sides = within a.left.now a.right.now c.requires.left_nonzero c.requires.right_nonzero in
    let put = terms a.number a.left.now a.right.now c.lowered-right_atoms.ensures c.put_terms-end.ensures in
    omega (arith, put-length put, put.place, terms_end a.number a.left.now a.right.now sides)

pub returns : goal.returns
returns c =
    let a = c.args in
    let sides = within a.left.now a.right.now c.requires.left_nonzero c.requires.right_nonzero in
    block_put a.number (front a.left.now) (front (map as_written a.right.now)) (left_fits sides).1
    (right_fits sides).1
    c.requires.block_len
    (terms a.number a.left.now a.right.now c.lowered-right_atoms.ensures c.put_terms-end.ensures)
    c.put_repeated.ensures
    c.check_of-check.ensures
    c.put_number.ensures
