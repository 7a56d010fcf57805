-- Filling the new variables: each gets every atom as often as that atom's multiplicities say, and the rows
-- whose new variable gets one are taken.
use Prim.Native.Nat.{ℕ, zero, suc, ◌+◌, ◌*◌, ◌<◌, ◌≤◌}
use mathlib.Core.Path.{◌≡◌, refl, sym, ap, ap₂, ◌∙◌, subst}
use mathlib.Core.Bool.{Bool, true, false, ◌||◌, true≢false, and-eq-true_iff}
use mathlib.Core.List.{List, [], ◌∷◌, map, Memᴰ}
use native.Mathlib.Omega.{arith}
use lib.ListN.{length, get_or, replicate}
use lib.Dec.{ltb}
use borrow.Author.Tests.{ltb-true, ltb-false}
use Rattle.ac.specs.Lists.{from, flat_map, sum}
use Rattle.ac.specs.Pair.{same, count}
use Rattle.ac.specs.Equation.{combined}
use Rattle.ac.specs.Selection.{Taken, taken_balanced, all_taken}
use Rattle.ac.specs.Replacement.{Replacement}
use Rattle.ac.proofs.Places.{from_bounds}
use Rattle.ac.proofs.Counts.{same_self, same_other, count-append, count-replicate}
use Rattle.ac.proofs.Taken.{total, filled_count, filled_count_new}

-- each of the numbers from k on, as often as f says
abbrev pub spread : (ℕ → ℕ) → ℕ → ℕ → List ℕ
spread f k n = flat_map (λ b. replicate (f b) b) (from k n)

module _ (f : ℕ → ℕ) (b : ℕ) where
  count_spread_cons : (k n : ℕ) → count b (spread f k (suc n)) ≡ same b k * f k + count b (spread f (suc k) n)
  count_spread_cons k n =
      count-append b (replicate (f k) k) (spread f (suc k) n)
      ∙ ap (λ z. z + count b (spread f (suc k) n)) (count-replicate b (f k) k)

  -- a number that is not among them does not occur
  pub count_spread_none : (k n : ℕ) → (Memᴰ b (from k n) → ⊥) → count b (spread f k n) ≡ 0
  count_spread_none k zero absent = refl
  count_spread_none k (suc n) absent =
      count_spread_cons k n
      ∙ rw (same_other b k (λ (e : b ≡ k). absent (Memᴰ.head e)))
      (omega (arith, count_spread_none (suc k) n (λ (m : Memᴰ b (from (suc k) n)). absent (Memᴰ.tail m))))

  -- one that is among them occurs as often as f says
  pub count_spread : (k n : ℕ) → Memᴰ b (from k n) → count b (spread f k n) ≡ f b
  count_spread k zero x' = elim x' [ ]
  count_spread k (suc n) (Memᴰ.head e) =
      count_spread_cons k n
      ∙ rw (same_self b k e)
      (omega (
        arith,
        ap f e,
        count_spread_none (suc k) n
            (λ (m : Memᴰ b (from (suc k) n)). omega (arith, from_bounds (suc k) n b m)),
      ))
  count_spread k (suc n) (Memᴰ.tail m) =
      count_spread_cons k n
      ∙ rw (same_other b k (λ (e : b ≡ k). omega (arith, from_bounds (suc k) n b m)))
      (omega (arith, count_spread (suc k) n m))

-- no member of a list of numbers is above their sum
pub member_le_sum : (a : ℕ) (s : List ℕ) → Memᴰ a s → a ≤ sum s
member_le_sum a [] x' = elim x' [ ]
member_le_sum a (x ∷ s) (Memᴰ.head e) = omega arith
member_le_sum a (x ∷ s) (Memᴰ.tail m) = omega (arith, member_le_sum a s m)

-- Which balanced rows are taken: those whose new variable gets an atom, or all of them where a value may be empty.
module _ (empties : Bool) (fill : Replacement) where
  -- whether the row of a new variable is taken
  abbrev pub takes : ℕ → Bool
  takes m = empties || ltb 0 (length (fill m))

  -- so for k new variables from n on
  abbrev pub takes_from : ℕ → ℕ → List Bool
  takes_from n k = map takes (from n k)

  -- there is a truth value for each
  pub length_takes_from : (n k : ℕ) → length (takes_from n k) ≡ k
  length_takes_from n zero = refl
  length_takes_from n (suc k) = ap suc (length_takes_from (suc n) k)

  -- where a value may be empty, all are taken
  pub all_takes_from : empties ≡ true → (n k : ℕ) → all_taken (takes_from n k) ≡ true
  all_takes_from e n zero = refl
  all_takes_from e n (suc k) =
      (and-eq-true_iff (takes n) (all_taken (takes_from (suc n) k))).1
      (ap (λ (t : Bool). t || ltb 0 (length (fill n))) e, all_takes_from e (suc n) k)

  -- a taken one is filled, one that is not taken is left empty
  takes_filled : (n : ℕ) → empties ≡ false → takes n ≡ true → 0 < length (fill n)
  takes_filled n e h = ltb-true 0 (length (fill n)) (sym (ap (λ (t : Bool). t || ltb 0 (length (fill n))) e) ∙ h)

  takes_none : (b n : ℕ) → takes n ≡ false → count b (fill n) ≡ 0
  takes_none b n h = none (fill n) (ltb-false 0 (length (fill n)) (right empties (ltb 0 (length (fill n))) h))
    where
      right : (s t : Bool) → (s || t) ≡ false → t ≡ false
      right true t e = absurd (true≢false e)
      right false t e = e

      none : (s : List ℕ) → length s ≤ 0 → count b s ≡ 0
      none [] l = refl
      none (a ∷ s) l = absurd (omega arith)

  -- the new variables of the taken rows are filled
  pub taken_balanced_filled : empties ≡ false → (n : ℕ) (rows : List (List ℕ)) (t : Taken)
      → Memᴰ t (taken_balanced n rows (takes_from n (length rows)))
      → 0 < length (fill t.atom)
  taken_balanced_filled e n [] t m = elim m [ ]
  taken_balanced_filled e n (r ∷ rows) t m = by_first (takes n) refl m (taken_balanced_filled e (suc n) rows t)
    where
      by_first : (u : Bool) → takes n ≡ u
          → Memᴰ t (taken_balanced n (r ∷ rows) (u ∷ takes_from (suc n) (length rows)))
          → (Memᴰ t (taken_balanced (suc n) rows (takes_from (suc n) (length rows)))
          → 0 < length (fill t.atom)) → 0 < length (fill t.atom)
      by_first true h (Memᴰ.head q) rest =
          subst (λ (a : Taken). 0 < length (fill a.atom)) (sym q) (takes_filled n e h)
      by_first true h (Memᴰ.tail k) rest = rest k
      by_first false h k rest = rest k

  module _ (new : ℕ) (b i : ℕ) where
    -- what row r of new variable n gives, taken or not
    with_row : (n : ℕ) → new ≤ n → (r : List ℕ) (rows : List (List ℕ))
        → total i (filled_count new fill b) (taken_balanced n (r ∷ rows) (takes_from n (suc (length rows))))
        ≡ count b (fill n) * get_or r i 0 + total i (filled_count new fill b)
        (taken_balanced (suc n) rows (takes_from (suc n) (length rows)))
    with_row n h r rows = by_test (takes n) refl
      where
        by_test : (u : Bool) → takes n ≡ u
            → total i (filled_count new fill b) (taken_balanced n (r ∷ rows) (u ∷ takes_from (suc n) (length rows)))
            ≡ count b (fill n) * get_or r i 0 + total i (filled_count new fill b)
            (taken_balanced (suc n) rows (takes_from (suc n) (length rows)))
        by_test true e =
            ap
            (λ z. z * get_or r i 0 + total i (filled_count new fill b)
            (taken_balanced (suc n) rows (takes_from (suc n) (length rows))))
            (filled_count_new new fill b n h)
        by_test false e = rw (takes_none b n e) (omega arith)

    at_first : (n : ℕ) {m : ℕ} → count b (fill (n + 0)) ≡ m → count b (fill n) ≡ m
    at_first n e = ap (λ z. count b (fill z)) (let z : n ≡ n + 0 = omega arith in z) ∙ e

    at_later : (n j : ℕ) {m : ℕ} → count b (fill (n + suc j)) ≡ m → count b (fill (suc n + j)) ≡ m
    at_later n j e = ap (λ z. count b (fill z)) (let z : suc n + j ≡ n + suc j = omega arith in z) ∙ e

    -- the balanced rows, with their new variables filled, add up as the atom's multiplicities say
    pub filled_combined : (n : ℕ) → new ≤ n → (rows : List (List ℕ)) (times : List ℕ)
        → ((j : ℕ) → j < length rows → count b (fill (n + j)) ≡ get_or times j 0)
        → total i (filled_count new fill b) (taken_balanced n rows (takes_from n (length rows)))
        ≡ combined times rows i
    filled_combined n h [] [] counts = refl
    filled_combined n h [] (m ∷ times) counts = refl
    filled_combined n h (r ∷ rows) [] counts =
        with_row n h r rows
        ∙ ap₂
        (λ x y. x * get_or r i 0 + y)
        (at_first n (counts 0 (omega arith)))
        (filled_combined (suc n) (omega arith) rows [] (λ j l. at_later n j (counts (suc j) (omega arith))))
        ∙ omega arith
    filled_combined n h (r ∷ rows) (m ∷ times) counts =
        with_row n h r rows
        ∙ ap₂
        (λ x y. x * get_or r i 0 + y)
        (at_first n (counts 0 (omega arith)))
        (filled_combined (suc n) (omega arith) rows times (λ j l. at_later n j (counts (suc j) (omega arith))))
