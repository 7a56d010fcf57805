-- One unit more on the way from a vector up to another: a unit at a place that is wanted is left, or none is,
-- and then the two differ at other places only.
use Prim.Native.Nat.{ℕ, suc, ◌+◌, ◌*◌, ◌-◌, ◌≤◌, ◌<◌}
use native.Mathlib.Omega.{arith}
use native.Mathlib.Nat.{le_refl, mul-le-mul_right}
use native.Mathlib.Decide.{dec_lt}
use mathlib.Core.Path.{◌≡◌, refl, ap}
use mathlib.Core.Logic.{◌⊎◌, inl, inr}
use mathlib.Core.Bool.{Bool, true, false}
use mathlib.Core.List.{List, [], ◌∷◌}
use Rattle.ac.specs.Lists.{sum}
use Rattle.ac.specs.Rows.{◌≼◌, ◌≼◌.none, ◌≼◌.place}
use Rattle.ac.specs.Equation.{weighted}
use Rattle.ac.proofs.Vectors.{≼_refl}

-- Sums over the entries.

-- the sum is that with the coefficient 1 at each place; with one more at each place it is added; of an
-- all-zero vector every sum is 0
sum-weighted : (v : List ℕ) → sum v ≡ weighted (λ i. 1) v
sum-weighted [] = refl
sum-weighted (x ∷ v) = omega (arith, sum-weighted v)

-- one more at each place adds the sum of the entries
pub weighted_suc : (p : ℕ → ℕ) (v : List ℕ) → weighted (λ i. suc (p i)) v ≡ weighted p v + sum v
weighted_suc p [] = refl
weighted_suc p (x ∷ v) = omega (arith, weighted_suc (λ i. p (suc i)) v)

-- of a vector that is all zero every such sum is 0
pub weighted_zero : (p : ℕ → ℕ) (v : List ℕ) → sum v ≤ 0 → weighted p v ≡ 0
weighted_zero p [] small = refl
weighted_zero p (x ∷ v) small =
    let e : x ≡ 0 = omega arith in omega
    (arith, ap (λ z. p 0 * z) e, weighted_zero (λ i. p (suc i)) v (let h : sum v ≤ 0 = omega arith in h))

-- below every vector stands the one that is all zero
pub record Zero (v : List ℕ) : Type 0 where
  pub zeros : List ℕ
  pub below : zeros ≼ v
  pub empty : sum zeros ≡ 0

-- it has the entry 0 at each place
pub zero_below : (v : List ℕ) → Zero v
zero_below [] = record { zeros = []; below = none; empty = refl }
zero_below (x ∷ v) = let z : Zero v = zero_below v in
    record {
      zeros = 0 ∷ z.zeros;
      below = place (let h : 0 ≤ x = omega arith in h) z.below;
      empty = omega (arith, z.empty);
    }

-- One unit more, at a place that is wanted.
pub record UnitLeft (wanted : ℕ → Bool) (u v : List ℕ) : Type 0 where
  pub at : ℕ
  pub is_wanted : wanted at ≡ true
  pub next : List ℕ
  pub above : u ≼ next
  pub below : next ≼ v
  pub adds : (f : ℕ → ℕ) → weighted f next ≡ weighted f u + f at

-- one unit is one more in the sum
pub longer : {wanted : ℕ → Bool} {u v : List ℕ} (unit : UnitLeft wanted u v) → sum unit.next ≡ suc (sum u)
longer {u = u} unit = omega (arith, sum-weighted unit.next, sum-weighted u, unit.adds (λ i. 1))

-- no such unit is left: where f is at most g at the other places, v − u weighs no more by f than by g
abbrev pub NoneLeft : (ℕ → Bool) → List ℕ → List ℕ → Type 0
NoneLeft wanted u v = (f g : ℕ → ℕ) → ((i : ℕ) → wanted i ≡ false → f i ≤ g i)
    → weighted g u + weighted f v ≤ weighted f u + weighted g v

-- the larger product goes with the larger factor
rearranged : (a b m n : ℕ) → a ≤ b → m ≤ n → b * m + a * n ≤ a * m + b * n
rearranged a b m n h le =
    let e : n ≡ m + (n - m) = omega arith in
    omega (arith, mul-le-mul_right (n - m) h, ap (λ z. a * z) e, ap (λ z. b * z) e)

module _ (wanted : ℕ → Bool) {m n : ℕ} {u v : List ℕ} (le : m ≤ n) (below : u ≼ v) where
  unit_here : m < n → wanted 0 ≡ true → UnitLeft wanted (m ∷ u) (n ∷ v)
  unit_here less is =
      record {
        at = 0;
        is_wanted = is;
        next = suc m ∷ u;
        above = place (let h : m ≤ suc m = omega arith in h) (≼_refl u);
        below = place less below;
        adds = λ f. omega arith;
      }

  unit_later : UnitLeft (λ i. wanted (suc i)) u v → UnitLeft wanted (m ∷ u) (n ∷ v)
  unit_later unit =
      record {
        at = suc unit.at;
        is_wanted = unit.is_wanted;
        next = m ∷ unit.next;
        above = place (le_refl m) unit.above;
        below = place le unit.below;
        adds = λ f. omega (arith, unit.adds (λ i. f (suc i)));
      }

  none_here : (m ≡ n) ⊎ (wanted 0 ≡ false) → NoneLeft (λ i. wanted (suc i)) u v → NoneLeft wanted (m ∷ u) (n ∷ v)
  none_here (inl e) nothing f g h =
      omega (
        arith,
        nothing (λ i. f (suc i)) (λ i. g (suc i)) (λ i. h (suc i)),
        ap (λ z. f 0 * z) e,
        ap (λ z. g 0 * z) e,
      )
  none_here (inr other) nothing f g h =
      omega (
        arith,
        nothing (λ i. f (suc i)) (λ i. g (suc i)) (λ i. h (suc i)),
        rearranged (f 0) (g 0) m n (h 0 other) le,
      )

-- a wanted unit is left, or none is
pub unit_or_none : (wanted : ℕ → Bool) {u v : List ℕ} → u ≼ v → UnitLeft wanted u v ⊎ NoneLeft wanted u v
unit_or_none wanted none = inr (λ f g h. le_refl 0)
unit_or_none wanted (place {m = m} {n = n} {u = u} {v = v} le below) =
    by_rest (unit_or_none (λ i. wanted (suc i)) below)
  where
    by_first : (b : Bool) → wanted 0 ≡ b → Dec (m < n) → NoneLeft (λ i. wanted (suc i)) u v
        → UnitLeft wanted (m ∷ u) (n ∷ v) ⊎ NoneLeft wanted (m ∷ u) (n ∷ v)
    by_first false e d nothing = inr (none_here wanted le below (inr e) nothing)
    by_first true e (yes less) nothing = inl (unit_here wanted le below less e)
    by_first true e (no not_less) nothing =
        inr (none_here wanted le below (inl (let h : m ≡ n = omega arith in h)) nothing)

    by_rest : UnitLeft (λ i. wanted (suc i)) u v ⊎ NoneLeft (λ i. wanted (suc i)) u v
        → UnitLeft wanted (m ∷ u) (n ∷ v) ⊎ NoneLeft wanted (m ∷ u) (n ∷ v)
    by_rest (inl unit) = inl (unit_later wanted le below unit)
    by_rest (inr nothing) = by_first (wanted 0) refl (dec_lt m n) nothing
