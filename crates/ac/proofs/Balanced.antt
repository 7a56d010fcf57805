-- What taken balanced rows add up to: each counts with the weight of its new variable, which stands in no
-- other row.
use Prim.Native.Nat.{ℕ, zero, suc, ◌+◌, ◌*◌, ◌<◌, ◌≤◌}
use mathlib.Core.Path.{◌≡◌, refl, subst}
use mathlib.Core.Bool.{Bool, true, false, false≢true}
use mathlib.Core.List.{List, [], ◌∷◌}
use native.Mathlib.Omega.{arith}
use native.Mathlib.Nat.{mul-pos}
use native.Mathlib.Decide.{dec_lt}
use lib.ListN.{length, get_or}
use Rattle.ac.specs.Pair.{same}
use Rattle.ac.specs.Selection.{taken_balanced}
use Rattle.ac.proofs.Counts.{same_self, same_other}
use Rattle.ac.proofs.Taken.{total}

-- a taken balanced row whose atom weighs something
pub record Weighing (weigh : ℕ → ℕ) (n : ℕ) (rows : List (List ℕ)) (ts : List Bool) : Type 0 where
  pub at : ℕ
  pub within : at < length rows
  pub is_taken : get_or ts at false ≡ true
  pub weighs : 0 < weigh (n + at)

later_weighing : {weigh : ℕ → ℕ} {n : ℕ} {r : List ℕ} {rows : List (List ℕ)} {ts : List Bool} (t : Bool)
    → Weighing weigh (suc n) rows ts
    → Weighing weigh n (r ∷ rows) (t ∷ ts)
later_weighing {weigh} {n} t w =
    record {
      at = suc w.at;
      within = omega (arith, w.within);
      is_taken = w.is_taken;
      weighs = subst (λ m. 0 < weigh m) (let z : suc n + w.at ≡ n + suc w.at = omega arith in z) w.weighs;
    }

module _ (i : ℕ) where
  -- each taken row counts
  pub taken_balanced_each : (weigh : ℕ → ℕ) (n : ℕ) (rows : List (List ℕ)) (ts : List Bool) (a j : ℕ)
      → a ≡ n + j → j < length rows
      → get_or ts j false ≡ true → weigh a * get_or (get_or rows j []) i 0 ≤ total i weigh (taken_balanced n rows ts)
  taken_balanced_each weigh n [] ts a j e h t = absurd (omega arith)
  taken_balanced_each weigh n (r ∷ rows) [] a j e h t = absurd (false≢true t)
  taken_balanced_each weigh n (r ∷ rows) (true ∷ ts) a zero e h t =
      rw (let z : a ≡ n = omega arith in z) (omega arith)
  taken_balanced_each weigh n (r ∷ rows) (true ∷ ts) a (suc j) e h t =
      omega (arith, taken_balanced_each weigh (suc n) rows ts a j (omega arith) (omega arith) t)
  taken_balanced_each weigh n (r ∷ rows) (false ∷ ts) a zero e h t = absurd (false≢true t)
  taken_balanced_each weigh n (r ∷ rows) (false ∷ ts) a (suc j) e h t =
      taken_balanced_each weigh (suc n) rows ts a j (omega arith) (omega arith) t

  -- so the sum is above 0 where a taken row is above 0 and its atom weighs something
  pub taken_balanced_weighs : (weigh : ℕ → ℕ) (n : ℕ) (rows : List (List ℕ)) (ts : List Bool) (j : ℕ)
      → j < length rows → get_or ts j false ≡ true
      → 0 < weigh (n + j) → 0 < get_or (get_or rows j []) i 0 → 0 < total i weigh (taken_balanced n rows ts)
  taken_balanced_weighs weigh n rows ts j h is_taken weighs entry =
      omega (arith, mul-pos weighs entry, taken_balanced_each weigh n rows ts (n + j) j refl h is_taken)

  -- a sum above 0 has a taken row whose atom weighs something
  pub taken_balanced_some : (weigh : ℕ → ℕ) (n : ℕ) (rows : List (List ℕ)) (ts : List Bool)
      → 0 < total i weigh (taken_balanced n rows ts)
      → Weighing weigh n rows ts
  taken_balanced_some weigh n [] ts h = absurd (omega arith)
  taken_balanced_some weigh n (r ∷ rows) [] h = absurd (omega arith)
  taken_balanced_some weigh n (r ∷ rows) (true ∷ ts) h =
      by_weight (dec_lt 0 (weigh n)) (taken_balanced_some weigh (suc n) rows ts)
    where
      by_weight : Dec (0 < weigh n)
          → (0 < total i weigh (taken_balanced (suc n) rows ts) → Weighing weigh (suc n) rows ts)
          → Weighing weigh n (r ∷ rows) (true ∷ ts)
      by_weight (yes p) rest =
          record {
            at = 0;
            within = omega arith;
            is_taken = refl;
            weighs = subst (λ m. 0 < weigh m) (let z : n ≡ n + 0 = omega arith in z) p;
          }
      by_weight (no p) rest =
          let nothing : weigh n * get_or r i 0 ≡ 0 = rw (let z : weigh n ≡ 0 = omega arith in z) (omega arith) in
          later_weighing true (rest (omega arith))
  taken_balanced_some weigh n (r ∷ rows) (false ∷ ts) h =
      later_weighing false (taken_balanced_some weigh (suc n) rows ts h)

  -- an atom that is no new variable from n on is in none of the rows
  pub taken_balanced_none : (b n : ℕ) (rows : List (List ℕ)) (ts : List Bool) → b < n
      → total i (same b) (taken_balanced n rows ts) ≡ 0
  taken_balanced_none b n [] ts h = refl
  taken_balanced_none b n (r ∷ rows) [] h = refl
  taken_balanced_none b n (r ∷ rows) (true ∷ ts) h =
      rw (same_other b n (λ (e : b ≡ n). omega arith))
      (omega (arith, taken_balanced_none b (suc n) rows ts (omega arith)))
  taken_balanced_none b n (r ∷ rows) (false ∷ ts) h = taken_balanced_none b (suc n) rows ts (omega arith)

  -- a new variable stands in its own row only
  pub taken_balanced_own : (b j n : ℕ) (rows : List (List ℕ)) (ts : List Bool) → b ≡ n + j
      → total i (same b) (taken_balanced n rows ts) ≤ get_or (get_or rows j []) i 0
  taken_balanced_own b j n [] ts e = omega arith
  taken_balanced_own b j n (r ∷ rows) [] e = omega arith
  taken_balanced_own b zero n (r ∷ rows) (true ∷ ts) e =
      rw (same_self b n (omega arith)) (omega (arith, taken_balanced_none b (suc n) rows ts (omega arith)))
  taken_balanced_own b (suc j) n (r ∷ rows) (true ∷ ts) e =
      rw (same_other b n (λ (q : b ≡ n). omega arith))
      (omega (arith, taken_balanced_own b j (suc n) rows ts (omega arith)))
  taken_balanced_own b zero n (r ∷ rows) (false ∷ ts) e =
      omega (arith, taken_balanced_none b (suc n) rows ts (omega arith))
  taken_balanced_own b (suc j) n (r ∷ rows) (false ∷ ts) e = taken_balanced_own b j (suc n) rows ts (omega arith)
