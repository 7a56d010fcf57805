-- How far a minimal solution can go: Huet's bound on its entries (1978) and Lambert's on their two sums (1987).
--
-- A solution of an equation without offsets is a smallest one, and the walk bounds it. For an equation with
-- offsets these get a place of their own: a minimal solution with the entry 1 at that place is a smallest
-- solution of the equation without offsets.
use Prim.Native.Nat.{ℕ, zero, suc, ◌+◌, ◌*◌, ◌≤◌, ◌<◌}
use native.Mathlib.Omega.{arith}
use native.Mathlib.Decide.{dec_le, ℕ_discrete}
use mathlib.Core.Path.{◌≡◌, refl, sym, ap, ◌∙◌}
use mathlib.Core.Bool.{Bool, true, false, cond, true≢false}
use mathlib.Core.List.{List, [], ◌∷◌}
use lib.ListN.{get_or}
use Rattle.ac.specs.Lists.{sum}
use Rattle.ac.specs.Rows.{◌≼◌, ◌≼◌.place}
use Rattle.ac.specs.Equation.{dot, weighted, coefficient, Equation, Solves, Minimal}
use Rattle.ac.specs.Budgets.{is_up, up, down, up_sum, down_sum, Enough}
use Rattle.ac.proofs.Vectors.{dot-weighted, Rest, rest_of}
use Rattle.ac.proofs.Units.{weighted_zero}
use Rattle.ac.proofs.Walk.{Smallest, lambert}

entry_weighted : (f : ℕ → ℕ) (v : List ℕ) (i : ℕ) → f i * get_or v i 0 ≤ weighted f v
entry_weighted f [] i = omega arith
entry_weighted f (x ∷ v) zero = omega arith
entry_weighted f (x ∷ v) (suc i) = omega (arith, entry_weighted (λ j. f (suc j)) v i)

module _ (E : Equation) {v : List ℕ} (minimal : Minimal E v) where
  abbrev p : ℕ → ℕ
  p = coefficient E.left

  abbrev n : ℕ → ℕ
  n = coefficient E.right

  abbrev equal_weighted : (u : List ℕ) → dot E.left u + E.left_offset ≡ dot E.right u + E.right_offset
      → weighted p u + E.left_offset ≡ weighted n u + E.right_offset
  equal_weighted u e = omega (arith, dot-weighted E.left u, dot-weighted E.right u)

  smallest_balanced : E.homogeneous ≡ true → E.left_offset ≡ E.right_offset → Smallest p n v
  smallest_balanced homogeneous same =
      record {
        equal = omega (arith, equal_weighted v minimal.least.has.equal);
        no_smaller = λ d le e positive.
            let solves : Solves E d = record {
              equal = omega (arith, dot-weighted E.left d, dot-weighted E.right d);
              not_all_zero =
                  λ t. positive;
            } in
            omega (arith, ap sum (minimal.least.no_other d le solves));
      }

  -- the offsets' place in front, with the entry 1
  abbrev p₁ : ℕ → ℕ
  p₁ = coefficient (E.left_offset ∷ E.left)

  abbrev n₁ : ℕ → ℕ
  n₁ = coefficient (E.right_offset ∷ E.right)

  module _ (apart : E.homogeneous ≡ true → E.left_offset ≡ E.right_offset → ⊥) where
    -- where the equation asks for a vector that is not all zero, its sums give one
    solves_weighted : (u : List ℕ) → weighted p u + E.left_offset ≡ weighted n u + E.right_offset → Solves E u
    solves_weighted u e =
        record {
          equal = omega (arith, dot-weighted E.left u, dot-weighted E.right u);
          not_all_zero = λ t. by_size t (dec_le (sum u) 0);
        }
      where
        by_size : E.homogeneous ≡ true → Dec (sum u ≤ 0) → 0 < sum u
        by_size t (no positive) = omega arith
        by_size t (yes empty) =
            absurd (apart t (let h : E.left_offset
            ≡ E.right_offset = omega (arith, weighted_zero p u empty, weighted_zero n u empty) in h))

    -- a solution with entry 1 in front is a solution of the equation; one with entry 0 can be taken off v,
    -- and what is left solves the equation
    no_smaller_extended : (e : ℕ) (u : List ℕ) → e ≤ 1 → u ≼ v → weighted p₁ (e ∷ u) ≡ weighted n₁ (e ∷ u)
        → 0 < sum (e ∷ u) → sum (1 ∷ v) ≤ sum (e ∷ u)
    no_smaller_extended zero u small le equal positive =
        let r : Rest u v = rest_of le in
        let solves : Solves E r.rest = solves_weighted r.rest
        (let h : weighted p r.rest + E.left_offset ≡ weighted n r.rest + E.right_offset =
        omega (arith, equal_weighted v minimal.least.has.equal, r.products p, r.products n) in h) in
        absurd (omega (arith, r.sums, ap sum (minimal.least.no_other r.rest r.below solves)))
    no_smaller_extended (suc zero) u small le equal positive =
        let solves : Solves E u = solves_weighted u
        (let h : weighted p u + E.left_offset ≡ weighted n u + E.right_offset = omega arith in h) in
        omega (arith, ap sum (minimal.least.no_other u le solves))
    no_smaller_extended (suc (suc e)) u small le equal positive = absurd (omega arith)

    smallest_extended : Smallest p₁ n₁ (1 ∷ v)
    smallest_extended =
        record { equal = omega (arith, equal_weighted v minimal.least.has.equal); no_smaller = no_smaller }
      where
        no_smaller : (d : List ℕ) → d ≼ (1 ∷ v) → weighted p₁ d ≡ weighted n₁ d → 0 < sum d → sum (1 ∷ v) ≤ sum d
        no_smaller d (place {m = e} {u = u} small le) = no_smaller_extended e u small le

  module _ {up' down' : ℕ} (enough : Enough E up' down') where
    bounded_extended : (i : ℕ) → (p₁ i ≤ n₁ i + down') × (n₁ i ≤ p₁ i + up')
    bounded_extended zero = enough.offsets
    bounded_extended (suc i) = enough.places i

    -- Lambert's bound: the entries at places where left is at least right sum to at most the one budget, the
    -- others to at most the other.
    pub lambert_bound : (up_sum E.left E.right v ≤ up') × (down_sum E.left E.right v ≤ down')
    lambert_bound = by_kind E.homogeneous refl (ℕ_discrete E.left_offset E.right_offset)
      where
        extended : (E.homogeneous ≡ true → E.left_offset ≡ E.right_offset → ⊥)
            → (up_sum E.left E.right v ≤ up') × (down_sum E.left E.right v ≤ down')
        extended apart = omega (
          arith,
          lambert p₁ n₁ (1 ∷ v) (smallest_extended apart) down' up' enough.some bounded_extended,
        )

        by_kind : (b : Bool) → E.homogeneous ≡ b → Dec (E.left_offset ≡ E.right_offset)
            → (up_sum E.left E.right v ≤ up') × (down_sum E.left E.right v ≤ down')
        by_kind true t (yes same) =
            lambert p n v (smallest_balanced t same) down' up' enough.some enough.places
        by_kind true t (no other) = extended (λ t same. other same)
        by_kind false t d = extended (λ t' same. true≢false (sym t' ∙ t))

  -- Huet's bound: every entry is at most every bound B that is at least 1 and at least every distance of left
  -- and right, the offsets' among them.
  pub huet_bound : {B : ℕ} → Enough E B B → (i : ℕ) → get_or v i 0 ≤ B
  huet_bound {B} enough i = by_kind (is_up p n i) refl
    where
      by_kind : (b : Bool) → is_up p n i ≡ b → get_or v i 0 ≤ B
      by_kind true t = omega (
        arith,
        entry_weighted (up p n) v i,
        ap (λ b. cond {A = ℕ} b 1 0 * get_or v i 0) t,
        lambert_bound enough,
      )
      by_kind false t = omega (
        arith,
        entry_weighted (down p n) v i,
        ap (λ b. cond {A = ℕ} b 0 1 * get_or v i 0) t,
        lambert_bound enough,
      )
