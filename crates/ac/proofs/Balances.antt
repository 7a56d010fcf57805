-- Whatever replacement makes the sides equal is made of rows, whether or not it leaves a variable empty.
use Prim.Native.Nat.{ℕ, ◌+◌}
use mathlib.Core.Path.{◌≡◌, sym, ◌∙◌}
use mathlib.Core.List.{List, Memᴰ}
use native.Mathlib.Omega.{arith}
use lib.ListN.{length-map}
use Rattle.ac.specs.Pair.{Mode, IsSide, count, variables, unbalanced}
use Rattle.ac.specs.Rows.{Group, Groups, GroupsOf, IsVector}
use Rattle.ac.specs.Equation.{dot, on_left, on_right, SumOf, RowAndSum}
use Rattle.ac.specs.Replacement.{Replacement, put, SameSum, occurrences, Balances}
use Rattle.ac.proofs.Counts.{staying}
use Rattle.ac.proofs.Constants.{constant_member, constant_unbalanced}
use Rattle.ac.proofs.Bridge.{weight_zero, weight_of_constant}
use Rattle.ac.proofs.Sums.{balanced_sum, unbalanced_sum}
use Rattle.ac.proofs.Replaced.{Kind, constant, other, kind_of, count_left, count_right}

module _ (M : Mode) (L R : List ℕ) (left : IsSide L) (right : IsSide R) {G : Groups}
    (groups : GroupsOf M L R G) where
  module _ (θ : Replacement) (same : SameSum (put M.moves θ L) (put M.moves θ R)) where
    -- b's occurrences in the values
    abbrev its : ℕ → List ℕ
    its b = occurrences θ (variables M L R) b

    vector : (b : ℕ) → IsVector (variables M L R) (its b)
    vector b = length-map (variables M L R) (λ x. count b (θ x))

    -- they solve b's equation
    solves : (b : ℕ)
        → dot (on_left M L R) (its b) + staying M.moves b L ≡ dot (on_right M L R) (its b) + staying M.moves b R
    solves b = sym (count_left M L R left right θ b) ∙ same b ∙ count_right M L R left right θ b

    constant_rows : (g : Group) → Memᴰ g G.constants → RowAndSum g.rows G.balanced (its g.constant)
    constant_rows g m = by_kind (kind_of M L R left right g.constant)
      where
        by_kind : Kind M L R g.constant → RowAndSum g.rows G.balanced (its g.constant)
        by_kind (constant n l r) =
            unbalanced_sum M L R groups m (its g.constant) (vector g.constant)
            ((weight_of_constant M L R g.constant (its g.constant)).1 (omega (arith, solves g.constant)))
        by_kind (other n e) = absurd (n (constant_unbalanced M L R groups g.constant (constant_member m)))

    other_sums : (b : ℕ) → (Memᴰ b (unbalanced M L R) → ⊥) → SumOf G.balanced (its b)
    other_sums b n = by_kind (kind_of M L R left right b)
      where
        by_kind : Kind M L R b → SumOf G.balanced (its b)
        by_kind (constant m l r) = absurd (n m)
        by_kind (other n e) = balanced_sum M L R groups (its b) (vector b)
            ((weight_zero M L R (its b)).1 (omega (arith, solves b)))

    -- The two together: what makes the sides equal is made of rows.
    pub made_of_rows : Balances M L R G θ
    made_of_rows = record { constants = constant_rows; others = other_sums }
