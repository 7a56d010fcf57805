-- What stands on a side after a replacement: each atom as often as the variables that stand there hold it,
-- and where it stays.
use Prim.Native.Nat.{ℕ, ◌+◌, ◌<◌}
use mathlib.Core.Path.{◌≡◌, refl, sym, ap, ◌∙◌}
use mathlib.Core.Bool.{Bool, true, false, not, cond, ◌&&◌, true≢false, and-eq-true_iff}
use mathlib.Core.List.{List, Memᴰ}
use native.Mathlib.Omega.{arith}
use native.Mathlib.Decide.{ℕ_discrete, dec_lt}
use lib.Dec.{eqb}
use borrow.Author.Tests.{eqb-false, not-true, ne_eqb, lt-ltb}
use Rattle.ac.specs.Lists.{Ascending}
use Rattle.ac.specs.Pair.{Mode, IsSide, count, occurs, atoms, variables, unbalanced}
use Rattle.ac.specs.Equation.{dot, on_left, on_right}
use Rattle.ac.specs.Replacement.{Replacement, put, occurrences}
use Rattle.ac.proofs.Order.{filter_member, member_filter, filter_ascending}
use Rattle.ac.proofs.Places.{from_bounds, from_member, from_ascending}
use Rattle.ac.proofs.Counts.{count_some, count_member, staying, count_put}

-- Each atom is an unbalanced constant, all of which stay, or as many of it stay on the left as on the right.
pub data Kind (M : Mode) (L R : List ℕ) (b : ℕ) : Type 0 where
  constant : Memᴰ b (unbalanced M L R) → staying M.moves b L ≡ count b L
      → staying M.moves b R ≡ count b R → Kind M L R b
  other : (Memᴰ b (unbalanced M L R) → ⊥) → staying M.moves b L ≡ staying M.moves b R → Kind M L R b

module _ (M : Mode) (L R : List ℕ) where
  -- what makes an atom a variable, and what an unbalanced constant
  abbrev is_variable : ℕ → Bool
  is_variable a = M.moves a && occurs L R a

  abbrev is_unbalanced : ℕ → Bool
  is_unbalanced a = not (M.moves a) && not (eqb (count a L) (count a R))

  -- the variables ascend
  pub variables_ascending : Ascending ◌<◌ (variables M L R)
  variables_ascending = filter_ascending is_variable (from_ascending 0 128)

  -- and so do the unbalanced constants
  pub unbalanced_ascending : Ascending ◌<◌ (unbalanced M L R)
  unbalanced_ascending = filter_ascending is_unbalanced (from_ascending 0 128)

  -- a variable moves
  pub variables_move : (x : ℕ) → Memᴰ x (variables M L R) → M.moves x ≡ true
  variables_move x m = ((and-eq-true_iff (M.moves x) (occurs L R x)).0 (filter_member is_variable atoms m).1).0

  -- an atom of a side that moves is a variable
  pub moving_variable : (a : ℕ) → a < 128 → 0 < count a L + count a R → M.moves a ≡ true
      → Memᴰ a (variables M L R)
  moving_variable a small stands moves =
      member_filter is_variable (from_member 0 128 a (omega arith) (omega arith))
      ((and-eq-true_iff (M.moves a) (occurs L R a)).1 (moves, lt-ltb 0 (count a L + count a R) stands))

  -- an atom that does not move and whose counts differ is an unbalanced constant
  pub unbalanced_member : (c : ℕ) → c < 128 → M.moves c ≡ false → (count c L ≡ count c R → ⊥)
      → Memᴰ c (unbalanced M L R)
  unbalanced_member c small moves differ =
      member_filter is_unbalanced (from_member 0 128 c (omega arith) (omega arith))
      ((and-eq-true_iff (not (M.moves c)) (not (eqb (count c L) (count c R)))).1
      (ap not moves, ap not (ne_eqb (count c L) (count c R) differ)))

  -- and every unbalanced constant is such an atom
  pub unbalanced_cases : (c : ℕ) → Memᴰ c (unbalanced M L R)
      → (c < 128) × (M.moves c ≡ false) × (count c L ≡ count c R → ⊥)
  unbalanced_cases c m =
      let both = filter_member is_unbalanced atoms m in
      let tests = (and-eq-true_iff (not (M.moves c)) (not (eqb (count c L) (count c R)))).0 both.1 in
      let differ = eqb-false (count c L) (count c R) (not-true (eqb (count c L) (count c R)) tests.1) in
      ((from_bounds 0 128 c both.0).1, not-true (M.moves c) tests.0, differ)

  module _ (left : IsSide L) (right : IsSide R) where
    -- an atom whose counts differ stands on a side
    differ_small : (b : ℕ) → (count b L ≡ count b R → ⊥) → b < 128
    differ_small b differ = by_side (dec_lt 0 (count b L)) (dec_lt 0 (count b R))
      where
        by_side : Dec (0 < count b L) → Dec (0 < count b R) → b < 128
        by_side (yes l) r = left b (count_member b L l)
        by_side (no n) (yes r) = right b (count_member b R r)
        by_side (no n) (no n') = absurd (differ (omega arith))

    -- every atom is of one of the two kinds
    pub kind_of : (b : ℕ) → Kind M L R b
    kind_of b = by_counts (M.moves b) refl (ℕ_discrete (count b L) (count b R))
      where
        stay : (t : Bool) → M.moves b ≡ t → (side : List ℕ) → staying M.moves b side ≡ cond t 0 (count b side)
        stay t e side = ap (λ (u : Bool). cond u 0 (count b side)) e

        by_counts : (t : Bool) → M.moves b ≡ t → Dec (count b L ≡ count b R) → Kind M L R b
        by_counts true e d =
            other
            (λ (m : Memᴰ b (unbalanced M L R)). true≢false (sym e ∙ (unbalanced_cases b m).1))
            (stay true e L ∙ sym (stay true e R))
        by_counts false e (yes q) =
            other
            (λ (m : Memᴰ b (unbalanced M L R)). (unbalanced_cases b m).2 q)
            (stay false e L ∙ q ∙ sym (stay false e R))
        by_counts false e (no differ) =
            constant (unbalanced_member b (differ_small b differ) e differ) (stay false e L) (stay false e R)

    module _ (θ : Replacement) (b : ℕ) where
      -- how often b stands on the left
      pub count_left : count b (put M.moves θ L)
          ≡ dot (on_left M L R) (occurrences θ (variables M L R) b) + staying M.moves b L
      count_left =
          count_put M.moves θ b variables_ascending variables_move L
          (λ a m moves. moving_variable a (left a m) (omega (arith, count_some a L m)) moves)

      -- and on the right
      pub count_right : count b (put M.moves θ R)
          ≡ dot (on_right M L R) (occurrences θ (variables M L R) b) + staying M.moves b R
      count_right =
          count_put M.moves θ b variables_ascending variables_move R
          (λ a m moves. moving_variable a (right a m) (omega (arith, count_some a R m)) moves)
