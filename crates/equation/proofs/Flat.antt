-- Laws of rows as bytes.
use Prim.Native.Nat.{ℕ, zero, suc, ◌+◌, ◌*◌, ◌≤◌, ◌<◌}
use native.Mathlib.Omega.{arith}
use native.Mathlib.Nat.{suc-mul, zero-mul}
use mathlib.Core.Path.{◌≡◌, refl, sym, ap, ap₂, ◌∙◌}
use mathlib.Core.List.{List, [], ◌∷◌, ◌++◌, append_assoc, Memᴰ}
use lib.ListN.{length, take, drop, length-drop, take-append-drop}
use lib.Seq.{drop-drop, take-append-le, drop-append-le, take_at, drop_at, length-take-le}
use Rattle.equation.specs.Flat.{rows_of}

-- the row at an index
abbrev pub row_at : ℕ → List ℕ → ℕ → List ℕ
row_at k bytes i = take k (drop (i * k) bytes)

first_row : (k : ℕ) (bytes : List ℕ) → row_at k bytes 0 ≡ take k bytes
first_row k bytes = ap (λ n. take k (drop n bytes)) (zero-mul k)

next_row : (k : ℕ) (bytes : List ℕ) (i : ℕ) → row_at k (drop k bytes) i ≡ row_at k bytes (suc i)
next_row k bytes i =
    ap (take k) (drop-drop (i * k) k bytes
    ∙ ap (λ n. drop n bytes) (let e : k + i * k ≡ suc i * k = omega (arith, suc-mul i k) in e))

-- n rows are n
pub length_rows : (k n : ℕ) (bytes : List ℕ) → length (rows_of k n bytes) ≡ n
length_rows k zero bytes = refl
length_rows k (suc n) bytes = ap suc (length_rows k n (drop k bytes))

-- a row that is found stands at an index below their number
pub record Index (k n : ℕ) (bytes row : List ℕ) : Type 0 where
  pub index : ℕ
  pub within : index < n
  pub same : row ≡ row_at k bytes index

-- it can be found from the front
pub index_of : (k n : ℕ) (bytes : List ℕ) {row : List ℕ} → Memᴰ row (rows_of k n bytes) → Index k n bytes row
index_of k zero bytes member = absurd (elim member [ ])
index_of k (suc n) bytes (Memᴰ.head e) =
    record { index = 0; within = omega arith; same = e ∙ sym (first_row k bytes) }
index_of k (suc n) bytes {row} (Memᴰ.tail member) = one_more (index_of k n (drop k bytes) member)
  where
    one_more : Index k n (drop k bytes) row → Index k (suc n) bytes row
    one_more x = record {
      index = suc x.index;
      within = omega (arith, x.within);
      same = x.same ∙ next_row k bytes x.index;
    }

-- the row at an index below their number is found
pub row_found : (k n : ℕ) (bytes : List ℕ) (i : ℕ) → i < n → Memᴰ (row_at k bytes i) (rows_of k n bytes)
row_found k zero bytes i within = absurd (omega arith)
row_found k (suc n) bytes zero within = Memᴰ.head (first_row k bytes)
row_found k (suc n) bytes (suc i) within =
    rw (← next_row k bytes i) (Memᴰ.tail (row_found k n (drop k bytes) i (let h : i < n = omega arith in h)))

-- one row more
pub rows_snoc : (k n : ℕ) (bytes : List ℕ) → rows_of k (suc n) bytes ≡ rows_of k n bytes ++ (row_at k bytes n ∷ [])
rows_snoc k zero bytes = ap {B = List (List ℕ)} (λ r. r ∷ []) (sym (first_row k bytes))
rows_snoc k (suc n) bytes =
    ap {B = List (List ℕ)} (λ rs. take k bytes ∷ rs)
    (rows_snoc k n (drop k bytes) ∙ ap {B = List (List ℕ)} (λ r. rows_of k n (drop k bytes) ++ (r ∷ []))
    (next_row k bytes n))

-- rows that stand in the first part of the bytes
rows_append : (k n : ℕ) (first others : List ℕ) → n * k ≤ length first
    → rows_of k n (first ++ others) ≡ rows_of k n first
rows_append k zero first others room = refl
rows_append k (suc n) first others room =
    ap₂ {C = List (List ℕ)} (λ r rs. r ∷ rs) (take-append-le k first others within)
    (ap (rows_of k n) (drop-append-le k first others within)
    ∙ rows_append k n (drop k first) others (let h : n * k ≤ length (drop k first) = later in h))
  where
    within : k ≤ length first
    within = omega (arith, suc-mul n k)

    later : n * k ≤ length (drop k first)
    later = omega (arith, suc-mul n k, length-drop k first)

-- one row more, put behind the others
pub rows_put : (k n : ℕ) (bytes row : List ℕ) → n * k ≤ length bytes → length row ≡ k
    → rows_of k (suc n) (take (n * k) bytes ++ row ++ drop (n * k + k) bytes) ≡ rows_of k n bytes ++ (row ∷ [])
rows_put k n bytes row room long =
    ap (rows_of k (suc n)) (append_assoc before row after)
    ∙ rows_snoc k n (before ++ (row ++ after))
    ∙ ap₂ {C = List (List ℕ)} (λ rs r. rs ++ (r ∷ [])) others
    (ap (take k) (drop_at before (row ++ after) (n * k) length_before) ∙ take_at row after k long)
  where
    before : List ℕ
    before = take (n * k) bytes

    after : List ℕ
    after = drop (n * k + k) bytes

    length_before : length before ≡ n * k
    length_before = length-take-le (n * k) bytes room

    others : rows_of k n (before ++ (row ++ after)) ≡ rows_of k n bytes
    others =
        rows_append k n before (row ++ after) (omega (arith, length_before))
        ∙ sym (rows_append k n before (drop (n * k) bytes) (omega (arith, length_before)))
        ∙ ap (rows_of k n) (take-append-drop (n * k) bytes)
