-- Only the differences of the coefficients count: two equations whose differences agree, place by place and
-- in the offsets, have the same minimal solutions.
use Prim.Native.Nat.{ℕ, zero, suc, ◌+◌, ◌*◌, ◌-◌, ◌<◌}
use native.Mathlib.Omega.{arith}
use mathlib.Core.Path.{◌≡◌, refl, sym, ap, ◌∙◌}
use mathlib.Core.Logic.{◌↔◌}
use mathlib.Core.List.{List, [], ◌∷◌}
use lib.ListN.{length, get_or}
use Rattle.ac.specs.Equation.{weighted, coefficient, Equation, Solves, Minimal, beyond, netted}
use Rattle.ac.proofs.Vectors.{same_length, least_same, dot-weighted}

-- the differences of the two equations agree
pub record SameNets (E F : Equation) : Type 0 where
  pub homogeneous : E.homogeneous ≡ F.homogeneous
  pub lengths : length E.left ≡ length F.left
  pub places : (i : ℕ) → i < length E.left
      → get_or E.left i 0 + get_or F.right i 0 ≡ get_or F.left i 0 + get_or E.right i 0
  pub offsets : E.left_offset + F.right_offset ≡ F.left_offset + E.right_offset

-- where the differences of p and q and of r and s agree, so do those of the sums
weighted_differences : (p q r s : ℕ → ℕ) (v : List ℕ) → ((i : ℕ) → i < length v → p i + s i ≡ r i + q i)
    → weighted p v + weighted s v ≡ weighted r v + weighted q v
weighted_differences p q r s [] same = refl
weighted_differences p q r s (x ∷ v) same =
    omega (
      arith,
      ap (λ z. z * x) (same 0 (omega arith)),
      weighted_differences (λ i. p (suc i)) (λ i. q (suc i)) (λ i. r (suc i)) (λ i. s (suc i)) v
          (λ i h. same (suc i) (omega arith)),
    )

module _ {E F : Equation} (same : SameNets E F) where
  same_nets_symmetric : SameNets F E
  same_nets_symmetric =
      record {
        homogeneous = sym same.homogeneous;
        lengths = sym same.lengths;
        places = λ i h. sym (same.places i (let k : i < length E.left = omega (arith, same.lengths) in k));
        offsets = sym same.offsets;
      }

  solves_nets : (v : List ℕ) → length v ≡ length E.left → Solves E v → Solves F v
  solves_nets v vector s =
      record {
        equal =
            omega (
              arith,
              s.equal,
              same.offsets,
              weighted_differences (coefficient E.left) (coefficient E.right) (coefficient F.left)
                  (coefficient F.right) v (λ i h. same.places i
                  (let k : i < length E.left = omega arith in k)),
              dot-weighted E.left v,
              dot-weighted E.right v,
              dot-weighted F.left v,
              dot-weighted F.right v,
            );
        not_all_zero = λ t. s.not_all_zero (same.homogeneous ∙ t);
      }

-- Two such equations have the same minimal solutions.
pub same_nets_minimal : {E F : Equation} → SameNets E F → (v : List ℕ) → Minimal E v ↔ Minimal F v
same_nets_minimal {E} {F} same v = (one_way same, one_way (same_nets_symmetric same))
  where
    one_way : {E F : Equation} → SameNets E F → Minimal E v → Minimal F v
    one_way {E} {F} same m =
        record {
          vector = m.vector ∙ same.lengths;
          least = least_same
              (λ u below. let vector : length u ≡ length E.left = same_length below ∙ m.vector in
              (solves_nets same u vector, solves_nets (same_nets_symmetric same) u (vector ∙ same.lengths)))
              m.least;
        }

-- Net parts.

-- the excess at a place
beyond_entry : (ns ms : List ℕ) (i : ℕ) → get_or (beyond ns ms) i 0 ≡ get_or ns i 0 - get_or ms i 0
beyond_entry [] ms i = omega arith
beyond_entry (n ∷ ns) [] zero = omega arith
beyond_entry (n ∷ ns) [] (suc i) = beyond_entry ns [] i
beyond_entry (n ∷ ns) (m ∷ ms) zero = refl
beyond_entry (n ∷ ns) (m ∷ ms) (suc i) = beyond_entry ns ms i

-- there is one for each place
pub length-beyond : (ns ms : List ℕ) → length (beyond ns ms) ≡ length ns
length-beyond [] ms = refl
length-beyond (n ∷ ns) [] = ap suc (length-beyond ns [])
length-beyond (n ∷ ns) (m ∷ ms) = ap suc (length-beyond ns ms)

-- An equation has the minimal solutions of its net parts.
pub netted_minimal : (E : Equation) (v : List ℕ) → Minimal (netted E) v ↔ Minimal E v
netted_minimal E = same_nets_minimal
    (record {
      homogeneous = refl;
      lengths = length-beyond E.left E.right;
      places = λ i h. omega (arith, beyond_entry E.left E.right i, beyond_entry E.right E.left i);
      offsets = omega arith;
    })
