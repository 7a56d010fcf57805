-- "Writing what was read gives the same block exactly when it was already in this shape" (document 02, R-3), by what
-- the two questions promise alone.
use Rattle.std.proofs.Common.{ℕ, ◌≤◌, ◌<◌, ◌≡◌, refl, ap, ap₂, sym, subst, ◌∙◌, ◌↔◌, List, map, length, take}
use Rattle.ac.specs.Term.{Term, flatten}
use Rattle.numbers.specs.First.{NoneOf}
use Rattle.numbers.specs.Order.{write_numbers}
use Rattle.numbers.specs.Outcome.{Outcome, given, is_refused, is_given}
use Rattle.numbers.proofs.Laws.{first_not_none}
use Rattle.block.specs.Front.{Writes}
use Rattle.block.specs.Block.{byte, left_term, right_term}
use Rattle.block.specs.Read.{SideLengths, ReadPromise}
use Rattle.block.proofs.Terms.{writes_unique}
use Rattle.writing.specs.Written.{front, as_written, block_of, block_of_terms}
use Rattle.writing.specs.Table.{WriteGiven}
use Rattle.writing.specs.Write.{WritePromise}
use Rattle.writing.specs.Shape.{InShape, IsInShape, BlockInShape}
use Rattle.writing.proofs.Accepted.{acceptable}
use Rattle.writing.proofs.Laid.{left_term_is, right_term_is}
use Rattle.writing.proofs.Lower.{all-lower-renamed}
use Rattle.writing.proofs.ReadBack.{block_of_lem}
use Rattle.writing.proofs.Shapes.{atoms_writable, in_shape_front, front_in_shape}
use Rattle.writing.proofs.WasRead.{WasRead, was_read, read_acceptable}
use Rattle.writing.proofs.Whole.{block_is}

-- where no number is given, a block is written
not_refused : {L R out out' : List ℕ} {number : ℕ} {outcome : Outcome (Unit {0})}
    → NoneOf (WriteGiven L R out) write_numbers → WritePromise L R number out outcome out' → outcome ≡ given tt
not_refused none (is_refused refuses) = absurd (first_not_none refuses.first none)
not_refused none (is_given none' gives) = refl

-- What was read is never refused, whatever number the block is to have, where the buffer is long enough.
pub read_written_accepted : {block : List ℕ} {number : ℕ} {left right left' right' : List ℕ} {lengths : SideLengths}
    → ReadPromise block number left right (given lengths) left' right'
    → {number' : ℕ} {out out' : List ℕ} {outcome : Outcome (Unit {0})} → 512 ≤ length out
    → WritePromise (take lengths.left left') (take lengths.right right') number' out outcome out'
    → outcome ≡ given tt
read_written_accepted read enough write = not_refused (acceptable (read_acceptable (was_read read)) enough) write

-- bytes are in this shape exactly if they are their flattened side in front notation
shape_told : {bytes : List ℕ} {t : Term} → Writes bytes t → (bytes ≡ front (flatten t)) ↔ IsInShape bytes
shape_told {bytes} {t} writes = (
  λ same. record {
    term = t;
    writes = writes;
    in_shape = front_in_shape writes.writable (sym writes.exactly ∙ same);
  },
  λ shaped. writes.exactly
      ∙ in_shape_front (subst InShape (writes_unique shaped.writes writes) shaped.in_shape),
)

module _ {block : List ℕ} {number : ℕ} {L R : List ℕ} (read : WasRead block number L R) where
  -- the terms that are written of what was read
  written_again : block_of number L R
      ≡ block_of_terms number (front (flatten read.left_term)) (front (flatten read.right_term))
  written_again =
      let right_again : map as_written R ≡ flatten read.right_term =
      ap (map as_written) read.right_is
      ∙ all-lower-renamed (flatten read.right_term) (atoms_writable read.right_writes.writable) in
      ap₂ {C = List ℕ} (λ s t. block_of_terms number (front s) (front t)) read.left_is right_again

  -- the same terms make the same block, and no others do
  same_terms : ((i : ℕ) → byte block i < 256)
      → (block_of number L R ≡ block)
      ↔ ((left_term block ≡ front (flatten read.left_term)) × (right_term block ≡ front (flatten read.right_term)))
  same_terms bytes =
      let s = front (flatten read.left_term) in
      let t = front (flatten read.right_term) in (
        λ same.
            let again = sym same ∙ written_again in
            (ap left_term again ∙ left_term_is number s t, ap right_term again ∙ right_term_is number s t),
        λ same. written_again
            ∙ sym (block_is read bytes ∙ ap₂ {C = List ℕ} (λ l r. block_of_terms number l r) same.0 same.1),
      )

  -- so it is in this shape exactly if it is written again
  same_shape : ((i : ℕ) → byte block i < 256) → (block_of number L R ≡ block) ↔ BlockInShape block
  same_shape bytes =
      let of_left = shape_told read.left_writes in
      let of_right = shape_told read.right_writes in (
        λ same.
            let terms = (same_terms bytes).0 same in
            record { left = of_left.0 terms.0; right = of_right.0 terms.1 },
        λ shaped. (same_terms bytes).1 (of_left.1 shaped.left, of_right.1 shaped.right),
      )

-- What was read, written with the block's number into a buffer that is long enough, gives the same block exactly when
-- both its terms are in this shape.
pub same_block : {block : List ℕ} {number : ℕ} {left right left' right' : List ℕ} {lengths : SideLengths}
    → ((i : ℕ) → byte block i < 256) → ReadPromise block number left right (given lengths) left' right'
    → {out out' : List ℕ} {outcome : Outcome (Unit {0})} → 512 ≤ length out
    → WritePromise (take lengths.left left') (take lengths.right right') number out outcome out'
    → (take 512 out' ≡ block) ↔ BlockInShape block
same_block {number = number} {left' = left'} {right'} {lengths} bytes read {out} {out'} enough write =
    let told = read_written_accepted read enough write in
    let written = subst
    (λ o. WritePromise (take lengths.left left') (take lengths.right right') number out o out') told write in
    let shape = same_shape (was_read read) bytes in
    (λ same. shape.0 (sym (block_of_lem written) ∙ same), λ shaped. block_of_lem written ∙ shape.1 shaped)
