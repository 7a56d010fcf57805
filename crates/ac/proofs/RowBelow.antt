-- Below every solution stands a row: a solution that has no row below it has no smaller solution below it, so
-- it is a row itself.
use Prim.Native.Nat.{ℕ, zero, suc, ◌<◌}
use native.Mathlib.Omega.{arith}
use mathlib.Core.Path.{◌≡◌, subst, ◌∙◌}
use mathlib.Core.List.{List, [], ◌∷◌, Memᴰ}
use lib.ListN.{length, get_or}
use Rattle.ac.specs.Lists.{sum}
use Rattle.ac.specs.Rows.{Least, ◌≼◌, Exactly}
use Rattle.ac.specs.Equation.{Equation, Solves, Minimal}
use Rattle.ac.proofs.Vectors.{same_length, ≼_refl, ≼_trans, decide_≼, least_unless}

-- a row of the list, by its index, that is at or below v
pub record RowBelow (rows : List (List ℕ)) (v : List ℕ) : Type 0 where
  pub index : ℕ
  pub within : index < length rows
  pub below : get_or rows index [] ≼ v

first_below : {r : List ℕ} {rows : List (List ℕ)} {v : List ℕ} → r ≼ v → RowBelow (r ∷ rows) v
first_below h = record { index = 0; within = omega arith; below = h }

later_below : {r : List ℕ} {rows : List (List ℕ)} {v : List ℕ} → RowBelow rows v → RowBelow (r ∷ rows) v
later_below b = record { index = suc b.index; within = omega (arith, b.within); below = b.below }

member_below : {r v : List ℕ} {rows : List (List ℕ)} → Memᴰ r rows → r ≼ v → RowBelow rows v
member_below {v = v} (Memᴰ.head {x = x} e) h = first_below (subst (λ w. w ≼ v) e h)
member_below (Memᴰ.tail m) h = later_below (member_below m h)

decide_row_below : (rows : List (List ℕ)) (v : List ℕ) → Dec (RowBelow rows v)
decide_row_below [] v = no (λ b. absurd (nothing b.within))
  where
    nothing : {i : ℕ} → i < 0 → ⊥
    nothing h = omega arith
decide_row_below (r ∷ rows) v = either (decide_≼ r v) (decide_row_below rows v)
  where
    neither : (r ≼ v → ⊥) → (RowBelow rows v → ⊥) → (i : ℕ) → i < length (r ∷ rows) → get_or (r ∷ rows) i [] ≼ v → ⊥
    neither not none zero within below = not below
    neither not none (suc i) within below = none (record { index = i; within = omega arith; below = below })

    either : Dec (r ≼ v) → Dec (RowBelow rows v) → Dec (RowBelow (r ∷ rows) v)
    either (yes h) d = yes (first_below h)
    either (no not) (yes b) = yes (later_below b)
    either (no not) (no none) = no (λ b. neither not none b.index b.within b.below)

-- Below a vector with the property there is a row, where the rows hold every vector of that length that is
-- least with the property: by induction on the sum, since a vector with no row below is itself least.
module _ {Has : List ℕ → Type 0} {k : ℕ} (rows : List (List ℕ))
    (all : (v : List ℕ) → length v ≡ k → Least Has v → Memᴰ v rows) where
  row_below_sum : (n : ℕ) (v : List ℕ) → sum v < n → length v ≡ k → Has v → RowBelow rows v
  row_below_sum zero v small vector has = absurd (omega arith)
  row_below_sum (suc n) v small vector has =
      decided (decide_row_below rows v) (λ u less. row_below_sum n u (let h : sum u < n = omega arith in h))
    where
      decided : Dec (RowBelow rows v)
          → ((u : List ℕ) → sum u < sum v → length u ≡ k → Has u → RowBelow rows u) → RowBelow rows v
      decided (yes b) smaller = b
      decided (no none) smaller = absurd (none (member_below (all v vector (least_unless has reach)) (≼_refl v)))
        where
          reach : (u : List ℕ) → u ≼ v → sum u < sum v → Has u → ⊥
          reach u below less h =
              let b : RowBelow rows u = smaller u less (same_length below ∙ vector) h in
              none (record { index = b.index; within = b.within; below = ≼_trans b.below below })

  -- Below every vector with the property there is a row.
  pub row_below : (v : List ℕ) → length v ≡ k → Has v → RowBelow rows v
  row_below v = row_below_sum (suc (sum v)) v (omega arith)

-- below a solution there is a minimal one
pub minimal_below : (E : Equation) {rows : List (List ℕ)} → Exactly (Minimal E) rows → (v : List ℕ)
    → length v ≡ length E.left → Solves E v → RowBelow rows v
minimal_below E {rows} exact =
    row_below rows (λ v vector least. exact.all v (record { vector = vector; least = least }))
