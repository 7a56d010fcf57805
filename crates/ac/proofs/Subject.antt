-- What matching against a fixed subject has no use for (document 02, R-4): where no variable stands on both sides there is
-- no balanced row, and so no new variable in a value.
use Prim.Native.Nat.{ℕ, ◌*◌, ◌<◌, ◌≤◌}
use native.Mathlib.Omega.{arith}
use native.Mathlib.Nat.{mul-le-mul_right}
use mathlib.Core.Path.{◌≡◌, refl, sym, ap, ◌∙◌}
use mathlib.Core.Logic.{◌↔◌, ⊎_elim}
use mathlib.Core.List.{List, [], ◌∷◌, map, Memᴰ}
use borrow.Author.Tests.{lt-leb}
use lib.ListN.{length}
use Rattle.ac.specs.Lists.{sum}
use Rattle.ac.specs.Pair.{IsSide, matching, count, variables, unbalanced}
use Rattle.ac.specs.Rows.{BalancedRow, Groups, GroupsOf}
use Rattle.ac.specs.Equation.{dot}
use Rattle.ac.specs.Selection.{Selection, SelectionOf, value}
use Rattle.ac.specs.Replacement.{Replacement, put, is_new, ComesFrom}
use Rattle.ac.specs.Match.{LeftVariable, Match, Separate, SameMatch}
use Rattle.ac.proofs.Atoms.{value_atoms}
use Rattle.ac.proofs.Bridge.{weight_zero}
use Rattle.ac.proofs.Counts.{count_some}
use Rattle.ac.proofs.Filled.{same_comes}
use Rattle.ac.proofs.Pattern.{put_unmoved, value_on_right, left_variables, not_on_right}

-- a list without members is empty
pub no_members : {A : Type 0} (xs : List A) → ((a : A) → Memᴰ a xs → ⊥) → xs ≡ []
no_members [] none = refl
no_members (a ∷ xs) none = absurd (none a (Memᴰ.head refl))

-- the product with coefficients that are all above 0 is at least the sum of the entries
sum-below-dot : (f : ℕ → ℕ) (xs v : List ℕ) → ((x : ℕ) → Memᴰ x xs → 0 < f x) → length v ≡ length xs
    → sum v ≤ dot (map f xs) v
sum-below-dot f [] [] above vector = omega arith
sum-below-dot f [] (n ∷ v) above vector = absurd (omega arith)
sum-below-dot f (x ∷ xs) [] above vector = absurd (omega arith)
sum-below-dot f (x ∷ xs) (n ∷ v) above vector =
    omega (
      arith,
      mul-le-mul_right n (above x (Memᴰ.head refl)),
      sum-below-dot f xs v (λ y m. above y (Memᴰ.tail m)) (omega arith),
    )

-- and with coefficients that are all 0 it is 0
dot-all_zero : (f : ℕ → ℕ) (xs v : List ℕ) → ((x : ℕ) → Memᴰ x xs → f x ≡ 0) → dot (map f xs) v ≡ 0
dot-all_zero f [] v zero = refl
dot-all_zero f (x ∷ xs) [] zero = refl
dot-all_zero f (x ∷ xs) (n ∷ v) zero =
    omega (
      arith,
      ap (λ z. z * n) (zero x (Memᴰ.head refl)),
      dot-all_zero f xs v (λ y m. zero y (Memᴰ.tail m)),
    )

module _ {L R : List ℕ} (separate : Separate L R) where
  -- The variables stand on the left alone, so their net counts are above 0, and only the vector that is all zero has
  -- the weight 0.
  not_balanced : {v : List ℕ} → BalancedRow (matching L) L R v → ⊥
  not_balanced {v} row =
      omega (
        arith,
        row.least.has.0,
        sum-below-dot (λ x. count x L) (variables (matching L) L R) v
            (λ x m. count_some x L ((left_variables L R).0 m).on_left) row.vector,
        (weight_zero (matching L) L R v).0 row.least.has.1,
        dot-all_zero (λ x. count x R) (variables (matching L) L R) v
            (λ x m. not_on_right L R separate ((left_variables L R).0 m)),
      )

  module _ {G : Groups} (groups : GroupsOf (matching L) L R G) where
    -- There is no balanced row.
    pub no_balanced : G.balanced ≡ []
    no_balanced = no_members G.balanced (λ v m. not_balanced (groups.balanced_rows.only v m))

    -- So every atom of a value is an unbalanced constant: none is a new variable.
    pub values_of_constants : (new : ℕ) {s : Selection} → SelectionOf G s → (x : ℕ) {a : ℕ}
        → Memᴰ a (value (matching L) new L R G s x) → Memᴰ a (unbalanced (matching L) L R)
    values_of_constants new selection x m =
        ⊎_elim (λ constant. constant) (λ fresh. absurd (omega (arith, fresh, ap length no_balanced)))
        (value_atoms (matching L) new L R groups selection x m)

-- The values of a match hold atoms of the subject alone, so no new variable is there to be filled.
module _ {L R : List ℕ} (right : IsSide R) {new : ℕ} (above : 128 ≤ new) {σ : Replacement} (match : Match L R σ) where
  nothing_filled : (fill : Replacement) (x : ℕ) → LeftVariable L x → put (is_new new) fill (σ x) ≡ σ x
  nothing_filled fill x left =
      put_unmoved (is_new new) fill (σ x)
      (λ a m. lt-leb new a (omega (arith, right a (value_on_right match left m))))

  -- What comes from a match is that match, sum for sum.
  pub comes_from_same : {θ : Replacement} → ComesFrom (matching L) new L R σ θ ↔ SameMatch L θ σ
  comes_from_same = (
    λ comes x left b.
        comes.agrees x ((left_variables L R).1 left) b ∙ ap (count b) (nothing_filled comes.fill x left),
    λ same. same_comes (matching L) new L R (λ x m b. sym (same x ((left_variables L R).0 m) b)),
  )
