-- At or below in every place, place by place, of a row that stands in a list of bytes.
use Prim.Native.Nat.{ℕ, ◌+◌, ◌*◌, ◌≤◌, ◌<◌}
use native.Mathlib.Omega.{arith}
use native.Mathlib.Nat.{suc-mul, mul-le-mul_right}
use mathlib.Core.Path.{◌≡◌, sym, subst, ◌∙◌}
use mathlib.Core.List.{List}
use lib.ListN.{length, get_or, drop, length-take, length-drop}
use lib.Seq.{get_or-take, get_or-drop}
use borrow.Author.Count.{below_more}
use Rattle.ac.specs.Rows.{◌≼◌}
use Rattle.ac.proofs.Vectors.{≼_entry, ≼_entries}
use Rattle.equation.specs.Flat.{rows_of}
use Rattle.equation.specs.Kept.{Lower}
use Rattle.equation.proofs.Flat.{row_at, Index, index_of, row_found}

-- every row stands within the bytes
pub row_within : (k : ℕ) {row count : ℕ} → row < count → row * k + k ≤ count * k
row_within k {row} h = omega (arith, suc-mul row k, mul-le-mul_right k h)

-- While the rows are tried: none of those before `row` is at or below the vector.
pub record Tried (rows vector : List ℕ) (row : ℕ) : Type 0 where
  pub none_lower : (i : ℕ) → i < row → row_at (length vector) rows i ≼ vector → ⊥

-- While the places of a row are tried: the row is at or below the vector in those before `place`.
pub record Compared (rows vector : List ℕ) (row place : ℕ) : Type 0 where
  pub fine : (j : ℕ) → j < place → get_or rows (row * length vector + j) 0 ≤ get_or vector j 0

-- when all rows have been tried, none is lower
pub tried_all : {rows vector : List ℕ} {count row : ℕ} → Tried rows vector row → count ≤ row
    → Lower (rows_of (length vector) count rows) vector → ⊥
tried_all {rows} {vector} {count} {row} tried all lower =
    let x : Index (length vector) count rows lower.row = index_of (length vector) count rows lower.found in
    tried.none_lower x.index (let h : x.index < row = omega (arith, x.within) in h)
    (subst (λ r. r ≼ vector) x.same lower.below)

entry : (k : ℕ) (rows : List ℕ) (row j : ℕ) → j < k → get_or (row_at k rows row) j 0 ≡ get_or rows (row * k + j) 0
entry k rows row j h = get_or-take k (drop (row * k) rows) j 0 h ∙ get_or-drop (row * k) rows j 0

module _ {rows vector : List ℕ} {row : ℕ} where
  -- a row that is at or below in all places is lower
  pub compared_all : {count place : ℕ} → Compared rows vector row place → length vector ≤ place → row < count
      → count * length vector ≤ length rows
      → Lower (rows_of (length vector) count rows) vector
  compared_all {count} {place} d all more room =
      record {
        row = row_at (length vector) rows row;
        found = row_found (length vector) count rows row more;
        below = ≼_entries (row_at (length vector) rows row) vector whole
            (λ j h. subst (λ n. n ≤ get_or vector j 0) (sym (entry (length vector) rows row j h))
            (d.fine j (let h' : j < place = omega arith in h')));
      }
    where
      whole : length (row_at (length vector) rows row) ≡ length vector
      whole = omega (
        arith,
        length-take (length vector) (drop (row * length vector) rows),
        length-drop (row * length vector) rows,
        row_within (length vector) more,
      )

  -- a row that is above in one place is not
  pub tried_more : Tried rows vector row → {place : ℕ} → place < length vector
      → get_or vector place 0 < get_or rows (row * length vector + place) 0
      → Tried rows vector (row + 1)
  tried_more tried {place} h above =
      record {
        none_lower = below_more (λ i. row_at (length vector) rows i ≼ vector → ⊥) row tried.none_lower
            (λ below. omega (arith, ≼_entry below place, entry (length vector) rows row place h));
      }
