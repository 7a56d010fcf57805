-- Which net counts are too far from 0, by the two tables, and the lowest atom that has one.
use mathlib.Core.Path.{◌≡◌, refl, sym, subst, ◌∙◌}
use mathlib.Core.Bool.{Bool, true, false}
use mathlib.Core.Logic.{◌⊎◌, inl, inr}
use mathlib.Core.List.{List, Memᴰ}
use Prim.Native.Nat.{ℕ, zero, suc, ◌+◌, ◌-◌, ◌≤◌, ◌<◌}
use native.Mathlib.Decide.{ℕ_discrete, dec_lt}
use native.Mathlib.Omega.{arith}
use lib.ListN.{get_or, get_or-eq_default}
use lib.IntN.{nat_abs, pos, ◌-ℤ◌}
use lib.Dec.{ltb}
use borrow.Author.Tests.{ltb-true, ltb-false}
use Rattle.ac.specs.Pair.{Mode, count, net}
use Rattle.ac.proofs.Counts.{count_member}
use Rattle.ac.specs.Limits.{Limits, limits}
use Rattle.pair.specs.Given.{Far, LowestFar, PairGiven, far_net_count}
use Rattle.pair.specs.Counts.{CountsOf}
use Rattle.pair.specs.declared.counting.AtomCounts.{AtomCounts}

-- the distance of a difference from 0, by the two differences of naturals
pub nat_abs_difference : (m n : ℕ) → nat_abs (pos m -ℤ pos n) ≡ (m - n) + (n - m)
nat_abs_difference m zero = omega arith
nat_abs_difference m (suc k) = go (ltb m (suc k)) refl
  where
    go : (t : Bool) → ltb m (suc k) ≡ t → nat_abs (pos m -ℤ pos (suc k)) ≡ (m - suc k) + (suc k - m)
    go true e = rw e (omega (arith, ltb-true m (suc k) e))
    go false e = rw e (omega (arith, ltb-false m (suc k) e))

-- how far the two tables are apart at an atom
abbrev pub apart : AtomCounts → ℕ → ℕ
apart counts atom = get_or counts.left atom 0 - get_or counts.right atom 0 +
    (get_or counts.right atom 0 - get_or counts.left atom 0)

module _ {M : Mode} {L R : List ℕ} {counts : AtomCounts} (counted : CountsOf M L R counts) where
  -- a net count is as far from 0 as the two counts are apart
  net_apart : (atom : ℕ) → nat_abs (net L R atom) ≡ apart counts atom
  net_apart atom = nat_abs_difference (count atom L) (count atom R)
      ∙ sym (rw (counted.on_left.entries atom, counted.on_right.entries atom))

  -- past the end the tables are not apart
  apart_beyond : (atom : ℕ) → 128 ≤ atom → apart counts atom ≡ 0
  apart_beyond atom beyond =
      let left : get_or counts.left atom 0 ≡ 0 =
      get_or-eq_default counts.left 0 (omega (arith, counted.on_left.places)) in
      let right : get_or counts.right atom 0 ≡ 0 =
      get_or-eq_default counts.right 0 (omega (arith, counted.on_right.places)) in
      omega (arith, left, right)

  -- where the counts are more than 8 apart at an atom and at none below it, it is the lowest
  pub far_lowest : (atom : ℕ) → 8 < apart counts atom → ((k : ℕ) → k < atom → apart counts k ≤ 8)
      → LowestFar limits L R atom
  far_lowest atom far near =
      record {
        far = omega (arith, net_apart atom);
        lowest = λ lower below its_far. omega (arith, its_far, net_apart lower, near lower below);
      }

  -- and where they are nowhere, 10 is not given
  pub near_not_given : ((atom : ℕ) → atom < 128 → apart counts atom ≤ 8) → PairGiven limits M L R 10 → ⊥
  near_not_given near (far_net_count atom far) = go (dec_lt atom 128)
    where
      go : Dec (atom < 128) → ⊥
      go (yes within) = omega (arith, net_apart atom, near atom within)
      go (no beyond) = omega (arith, net_apart atom, apart_beyond atom (omega arith))

-- two lowest atoms are one
pub lowest_unique : {limits : Limits} {L R : List ℕ} (a b : ℕ) → LowestFar limits L R a → LowestFar limits L R b
    → a ≡ b
lowest_unique a b of_a of_b = by_order (dec_lt a b) (dec_lt b a)
  where
    by_order : Dec (a < b) → Dec (b < a) → a ≡ b
    by_order (yes less) other = absurd (of_b.lowest a less of_a.far)
    by_order (no above) (yes less) = absurd (of_a.lowest b less of_b.far)
    by_order (no above) (no below) = omega arith

-- it stands on a side
pub lowest_stands : {limits : Limits} {L R : List ℕ} {a : ℕ} → LowestFar limits L R a → Memᴰ a L ⊎ Memᴰ a R
lowest_stands {L = L} {R} {a} lowest = by_count (dec_lt 0 (count a L))
  where
    by_count : Dec (0 < count a L) → Memᴰ a L ⊎ Memᴰ a R
    by_count (yes some) = inl (count_member a L some)
    by_count (no none) =
        inr (count_member a R (omega (arith, none, lowest.far, nat_abs_difference (count a L) (count a R))))

-- where some atom at or above a place is far and none below it is, there is a lowest one
lowest_from : {limits : Limits} {L R : List ℕ} (passed left : ℕ) → Far limits L R (passed + left)
    → ((k : ℕ) → k < passed → Far limits L R k → ⊥) → (atom : ℕ) × LowestFar limits L R atom
lowest_from {limits} {L} {R} passed zero far near =
    (passed, record { far = subst (Far limits L R) (omega arith) far; lowest = near })
lowest_from {limits} {L} {R} passed (suc left) far near =
    by_test (dec_lt limits.net_count (nat_abs (net L R passed)))
    (lowest_from (passed + 1) left (subst (Far limits L R) (omega arith) far))
  where
    by_place : (Far limits L R passed → ⊥) → (k : ℕ) → k < passed + 1 → Dec (k ≡ passed) → Far limits L R k → ⊥
    by_place its k below (yes same) = subst (λ j. Far limits L R j → ⊥) (sym same) its
    by_place its k below (no other) = near k (omega arith)

    by_test : Dec (Far limits L R passed)
        → (((k : ℕ) → k < passed + 1 → Far limits L R k → ⊥) → (atom : ℕ) × LowestFar limits L R atom)
        → (atom : ℕ) × LowestFar limits L R atom
    by_test (yes its) further = (passed, record { far = its; lowest = near })
    by_test (no its) further = further (λ k below. by_place its k below (ℕ_discrete k passed))

-- so there is one where 10 is given
pub lowest_exists : {limits : Limits} {M : Mode} {L R : List ℕ} → PairGiven limits M L R 10
    → (atom : ℕ) × LowestFar limits L R atom
lowest_exists {limits} {M} {L} {R} (far_net_count atom far) =
    lowest_from 0 atom (subst (Far limits L R) (omega arith) far) (λ k below. absurd (omega arith))
