-- Laws of pairs that are alike: the relation can be turned round and joined, and their net counts are equally far
-- from 0, so the atom that 10 names is the same.
use Prim.Native.Nat.{ℕ, ◌<◌}
use mathlib.Core.Path.{◌≡◌, sym, ap, subst, ◌∙◌}
use mathlib.Core.Logic.Iff
use mathlib.Core.Logic.{◌↔◌}
use mathlib.Core.List.{List}
use lib.IntN.{neg_ℤ, nat_abs, neg_ℤ-neg_ℤ}
use Rattle.ac.specs.Limits.{Limits}
use Rattle.ac.specs.Pair.{Mode, net}
use Rattle.ac.proofs.Negated.{nat_abs_negated}
use Rattle.pair.specs.Given.{Far, LowestFar}
use Rattle.whole.specs.Alike.{NetsAlike, equal, opposite, Alike}

-- net counts that are alike are so the other way round
nets_symmetric : {L R L' R' : List ℕ} → NetsAlike L R L' R' → NetsAlike L' R' L R
nets_symmetric (equal nets) = equal (λ a. sym (nets a))
nets_symmetric {L' = L'} {R'} (opposite nets) =
    opposite (λ a. sym (ap neg_ℤ (nets a) ∙ neg_ℤ-neg_ℤ (net L' R' a)))

-- and from one pair to the next
nets_transitive : {L R L' R' L'' R'' : List ℕ} → NetsAlike L R L' R' → NetsAlike L' R' L'' R'' → NetsAlike L R L'' R''
nets_transitive (equal nets) (equal nets') = equal (λ a. nets a ∙ nets' a)
nets_transitive (equal nets) (opposite nets') = opposite (λ a. nets a ∙ nets' a)
nets_transitive (opposite nets) (equal nets') = opposite (λ a. nets a ∙ ap neg_ℤ (nets' a))
nets_transitive {L'' = L''} {R''} (opposite nets) (opposite nets') =
    equal (λ a. nets a ∙ ap neg_ℤ (nets' a) ∙ neg_ℤ-neg_ℤ (net L'' R'' a))

module _ {limits : Limits} {M M' : Mode} {L R L' R' : List ℕ} (alike : Alike limits M L R M' L' R') where
  -- what is alike is so the other way round
  pub alike_symmetric : Alike limits M' L' R' M L R
  alike_symmetric =
      record {
        same_emptying = sym alike.same_emptying;
        same_variables = sym alike.same_variables;
        same_constants = sym alike.same_constants;
        nets_alike = nets_symmetric alike.nets_alike;
        same_uncounted = λ n m. Iff.symm (alike.same_uncounted n m);
        same_shared = Iff.symm alike.same_shared;
      }

  -- and alike to what the second is alike to
  pub alike_transitive : {M'' : Mode} {L'' R'' : List ℕ} → Alike limits M' L' R' M'' L'' R'' → Alike limits M L R M'' L'' R''
  alike_transitive next =
      record {
        same_emptying = alike.same_emptying ∙ next.same_emptying;
        same_variables = alike.same_variables ∙ next.same_variables;
        same_constants = alike.same_constants ∙ next.same_constants;
        nets_alike = nets_transitive alike.nets_alike next.nets_alike;
        same_uncounted = λ n m. Iff.trans (alike.same_uncounted n m) (next.same_uncounted n m);
        same_shared = Iff.trans alike.same_shared next.same_shared;
      }

-- net counts that are alike are equally far from 0
equally_far : {L R L' R' : List ℕ} → NetsAlike L R L' R' → (a : ℕ) → nat_abs (net L R a) ≡ nat_abs (net L' R' a)
equally_far (equal nets) a = ap nat_abs (nets a)
equally_far {L' = L'} {R'} (opposite nets) a = ap nat_abs (nets a) ∙ nat_abs_negated (net L' R' a)

-- so an atom that is too far from 0 in the one pair is too far in the other, ..
pub far_carried : (limits : Limits) {L R L' R' : List ℕ} → NetsAlike L R L' R' → (a : ℕ) → Far limits L R a
    → Far limits L' R' a
far_carried limits nets a far = subst (λ distance. limits.net_count < distance) (equally_far nets a) far

-- .. and the lowest one of the one pair is that of the other.
lowest_carried : {limits : Limits} {L R L' R' : List ℕ} → NetsAlike L R L' R' → (a : ℕ) → LowestFar limits L R a
    → LowestFar limits L' R' a
lowest_carried {limits} nets a lowest =
    record {
      far = far_carried limits nets a lowest.far;
      lowest = λ lower below far. lowest.lowest lower below
          (far_carried limits (nets_symmetric nets) lower far);
    }

-- So 10 names the same atom.
pub lowest_alike : {limits : Limits} {L R L' R' : List ℕ} → NetsAlike L R L' R' → (a : ℕ)
    → LowestFar limits L R a ↔ LowestFar limits L' R' a
lowest_alike nets a = (lowest_carried nets a, lowest_carried (nets_symmetric nets) a)
