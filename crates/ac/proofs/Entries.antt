-- Rows by their entries: a row that is at or below another of its group in every place stands at the same index.
use Prim.Native.Nat.{ℕ, zero, suc, ◌<◌, ◌≤◌}
use mathlib.Core.Path.{◌≡◌, refl, sym, ap, ◌∙◌, subst}
use mathlib.Core.List.{List, [], ◌∷◌, Memᴰ}
use native.Mathlib.Omega.{arith}
use native.Mathlib.Decide.{dec_lt}
use lib.ListN.{length, get_or}
use Rattle.ac.specs.Lists.{sum, Ascending, none, next}
use Rattle.ac.specs.Rows.{◌≼◌, ◌≺◌, Least}
use Rattle.ac.proofs.Places.{get_or_member}
use Rattle.ac.proofs.Vectors.{≼_entries}
use Rattle.ac.proofs.Order.{≺_asymmetric}

-- a vector that is not all zero is above 0 in some place
pub positive_place : (v : List ℕ) → 0 < sum v → (i : ℕ) × (i < length v) × (0 < get_or v i 0)
positive_place [] h = absurd (omega arith)
positive_place (n ∷ v) h = by_first (dec_lt 0 n) (positive_place v)
  where
    by_first : Dec (0 < n) → (0 < sum v → (i : ℕ) × (i < length v) × (0 < get_or v i 0))
        → (i : ℕ) × (i < suc (length v)) × (0 < get_or (n ∷ v) i 0)
    by_first (yes p) rest = (0, omega arith, p)
    by_first (no p) rest =
        let r = rest (omega arith) in
        (suc r.0, omega (arith, r.1), r.2)

-- a row that stands before all others is none of them
first_once : {r : List ℕ} {rows : List (List ℕ)} → ((u : List ℕ) → Memᴰ u rows → r ≺ u) → (j : ℕ)
    → j < length rows → r ≡ get_or rows j [] → ⊥
first_once {r} {rows} before j h e =
    let l : r ≺ r = subst (λ (u : List ℕ). r ≺ u) (sym e) (before (get_or rows j []) (get_or_member rows j [] h)) in
    ≺_asymmetric l l

-- a row stands at one index of an ascending list only
ascending_once : {rows : List (List ℕ)} → Ascending ◌≺◌ rows → (i j : ℕ) → i < length rows → j < length rows
    → get_or rows i [] ≡ get_or rows j [] → i ≡ j
ascending_once none i j h k e = absurd (omega arith)
ascending_once (next before ascending) zero zero h k e = refl
ascending_once (next before ascending) zero (suc j) h k e = absurd (first_once before j (omega arith) e)
ascending_once (next before ascending) (suc i) zero h k e = absurd (first_once before i (omega arith) (sym e))
ascending_once (next before ascending) (suc i) (suc j) h k e =
    ap suc (ascending_once ascending i j (omega arith) (omega arith) e)

-- Of two rows of a group neither is at or below the other.
pub row_equal : {Has : List ℕ → Type 0} {rows : List (List ℕ)} (k : ℕ) → Ascending ◌≺◌ rows
    → ((v : List ℕ) → Memᴰ v rows → (length v ≡ k) × Least Has v) → (i j : ℕ) → i < length rows
    → j < length rows
    → ((p : ℕ) → p < k → get_or (get_or rows i []) p 0 ≤ get_or (get_or rows j []) p 0) → i ≡ j
row_equal {Has} {rows} k ascending only i j h h' lower =
    ascending_once ascending i j h h' (upper.1.no_other (get_or rows i []) below low.1.has)
  where
    low : (length (get_or rows i []) ≡ k) × Least Has (get_or rows i [])
    low = only (get_or rows i []) (get_or_member rows i [] h)

    upper : (length (get_or rows j []) ≡ k) × Least Has (get_or rows j [])
    upper = only (get_or rows j []) (get_or_member rows j [] h')

    below : get_or rows i [] ≼ get_or rows j []
    below = ≼_entries (get_or rows i []) (get_or rows j []) (low.0 ∙ sym upper.0)
        (λ p l. lower p (subst (λ n. p < n) upper.0 l))
