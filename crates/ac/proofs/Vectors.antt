-- Laws of vectors: at or below in every place, the sum of the entries, before at the first place that differs.
use Prim.Native.Nat.{ℕ, zero, suc, ◌+◌, ◌*◌, ◌-◌, ◌≤◌, ◌<◌}
use native.Mathlib.Omega.{arith}
use native.Mathlib.Nat.{le_refl, le_trans}
use native.Mathlib.Decide.{dec_le}
use mathlib.Core.Path.{◌≡◌, refl, sym, ap, ap₂}
use mathlib.Core.Logic.{◌↔◌}
use mathlib.Core.List.{List, [], ◌∷◌}
use lib.ListN.{length, get_or}
use Rattle.ac.specs.Lists.{sum}
use Rattle.ac.specs.Equation.{dot, weighted, coefficient}
use Rattle.ac.specs.Rows.{Least, Exactly, ◌≼◌, ◌≼◌.none, ◌≼◌.place}

-- A vector that is at or below another has as many places.
pub same_length : {u v : List ℕ} → u ≼ v → length u ≡ length v
same_length none = refl
same_length (place h below) = ap suc (same_length below)

-- a vector is at or below itself
pub ≼_refl : (v : List ℕ) → v ≼ v
≼_refl [] = none
≼_refl (n ∷ v) = place (le_refl n) (≼_refl v)

-- what is at or below a vector is at or below all that this one is at or below
pub ≼_trans : {u v w : List ℕ} → u ≼ v → v ≼ w → u ≼ w
≼_trans none none = none
≼_trans (place h below) (place h' below') = place (le_trans h h') (≼_trans below below')

-- a vector that is at or below another has no larger sum
pub sum_mono : {u v : List ℕ} → u ≼ v → sum u ≤ sum v
sum_mono none = le_refl 0
sum_mono (place h below) = omega (arith, sum_mono below)

-- a vector at or below another, and not smaller in sum, is that other
pub ≼_equal : {u v : List ℕ} → u ≼ v → sum v ≤ sum u → u ≡ v
≼_equal none le = refl
≼_equal (place {m = m} {n = n} {u = u} {v = v} h below) le =
    ap₂ {C = List ℕ} (λ a w. a ∷ w) (let e : m ≡ n = omega (arith, sum_mono below) in e)
    (≼_equal below (let h' : sum v ≤ sum u = omega arith in h'))

-- at or below, entry by entry
pub ≼_entry : {u v : List ℕ} → u ≼ v → (i : ℕ) → get_or u i 0 ≤ get_or v i 0
≼_entry none i = le_refl 0
≼_entry (place h below) zero = h
≼_entry (place h below) (suc i) = ≼_entry below i

-- and the other way round
pub ≼_entries : (u v : List ℕ) → length u ≡ length v → ((i : ℕ) → i < length v → get_or u i 0 ≤ get_or v i 0) → u ≼ v
≼_entries [] [] same each = none
≼_entries [] (n ∷ v) same each = absurd (omega arith)
≼_entries (m ∷ u) [] same each = absurd (omega arith)
≼_entries (m ∷ u) (n ∷ v) same each =
    place (each 0 (omega arith)) (≼_entries u v (omega arith) (λ i h. each (suc i) (omega arith)))

-- what is least for one property is least for another that holds of the same vectors
pub least_same : {Has Has' : List ℕ → Type 0} {v : List ℕ}
    → ((u : List ℕ) → u ≼ v → Has u ↔ Has' u) → Least Has v → Least Has' v
least_same {v} same l =
    record { has = (same v (≼_refl v)).0 l.has; no_other = λ u below h. l.no_other u below ((same u below).1 h) }

≼_place : {m n : ℕ} {u v : List ℕ} → (m ∷ u) ≼ (n ∷ v) → (m ≤ n) × (u ≼ v)
≼_place (place h below) = (h, below)

-- whether a vector is at or below another is decidable
pub decide_≼ : (u v : List ℕ) → Dec (u ≼ v)
decide_≼ [] [] = yes none
decide_≼ [] (n ∷ v) = no (λ h. elim h [ ])
decide_≼ (m ∷ u) [] = no (λ h. elim h [ ])
decide_≼ (m ∷ u) (n ∷ v) = both (dec_le m n) (decide_≼ u v)
  where
    both : Dec (m ≤ n) → Dec (u ≼ v) → Dec ((m ∷ u) ≼ (n ∷ v))
    both (yes h) (yes below) = yes (place h below)
    both (yes h) (no not) = no (λ p. not (≼_place p).1)
    both (no not) d = no (λ p. not (≼_place p).0)

-- A vector with the property, below which no smaller one has it, is least.
pub least_unless : {Has : List ℕ → Type 0} {v : List ℕ} → Has v
    → ((u : List ℕ) → u ≼ v → sum u < sum v → Has u → ⊥) → Least Has v
least_unless {Has} {v} has smaller =
    record { has = has; no_other = λ u below h. by_sum u below h (dec_le (sum v) (sum u)) }
  where
    by_sum : (u : List ℕ) → u ≼ v → Has u → Dec (sum v ≤ sum u) → u ≡ v
    by_sum u below h (yes le) = ≼_equal below le
    by_sum u below h (no gt) = absurd (smaller u below (omega arith) h)

-- with no coefficients the sum is 0
weighted_none : (v : List ℕ) → weighted (λ i. 0) v ≡ 0
weighted_none [] = refl
weighted_none (x ∷ v) = omega (arith, weighted_none v)

-- the product with a list is the sum with its coefficients
pub dot-weighted : (l v : List ℕ) → dot l v ≡ weighted (coefficient l) v
dot-weighted [] v = sym (weighted_none v)
dot-weighted (c ∷ l) [] = refl
dot-weighted (c ∷ l) (x ∷ v) = ap (λ z. c * x + z) (dot-weighted l v)

-- Where u is at or below v, v is u and a rest, place by place and so in every sum.
pub record Rest (u v : List ℕ) : Type 0 where
  pub rest : List ℕ
  pub below : rest ≼ v
  pub entries : (i : ℕ) → get_or v i 0 ≡ get_or u i 0 + get_or rest i 0
  pub sums : sum v ≡ sum u + sum rest
  pub products : (p : ℕ → ℕ) → weighted p v ≡ weighted p u + weighted p rest

-- the rest is the difference, place by place
pub rest_of : {u v : List ℕ} → u ≼ v → Rest u v
rest_of none = record { rest = []; below = none; entries = λ i. refl; sums = refl; products = λ p. refl }
rest_of (place {m = m} {n = n} {u = u} {v = v} h below) = with_rest (rest_of below)
  where
    with_rest : Rest u v → Rest (m ∷ u) (n ∷ v)
    with_rest r =
        record {
          rest = (n - m) ∷ r.rest;
          below = place (let h : n - m ≤ n = omega arith in h) r.below;
          entries = λ i. entry i;
          sums = omega (arith, r.sums);
          products = λ p. omega (arith, r.products (λ i. p (suc i)), ap (λ z. p 0 * z) split);
        }
      where
        split : n ≡ m + (n - m)
        split = omega arith

        entry : (i : ℕ) → get_or (n ∷ v) i 0 ≡ get_or (m ∷ u) i 0 + get_or ((n - m) ∷ r.rest) i 0
        entry zero = split
        entry (suc i) = r.entries i

-- a list that is exactly the rows of one kind is exactly those of another kind that has the same members
pub exactly_same : {Row Row' : List ℕ → Type 0} {rows : List (List ℕ)} → ((v : List ℕ) → Row v ↔ Row' v)
    → Exactly Row rows → Exactly Row' rows
exactly_same same e =
    record { ascending = e.ascending; only = λ v m. (same v).0 (e.only v m); all = λ v r. e.all v ((same v).1 r) }
