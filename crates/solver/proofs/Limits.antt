-- What it means that the sides give none of the numbers 7 to 12 and 19: they hold atoms, the groups' rows fit a key, and
-- no variable stands on both where none may.
use Prim.Native.Nat.{ℕ, ◌<◌, ◌≤◌}
use native.Mathlib.Omega.{arith}
use native.Mathlib.Decide.{dec_lt}
use mathlib.Core.Path.{◌≡◌, refl, ap}
use mathlib.Core.Bool.{true}
use mathlib.Core.List.{List}
use lib.ListN.{length, length-map}
use Rattle.ac.specs.Pair.{Mode, IsSide, unbalanced}
use Rattle.ac.specs.Rows.{Group, Groups, GroupsOf}
use Rattle.ac.specs.Keys.{layout, Fits}
use Rattle.numbers.specs.First.{NoneOf, also}
use Rattle.numbers.specs.Order.{sides_numbers, rows_numbers}
use Rattle.numbers.proofs.Carried.{none_carried, none_given, its_member}
use Rattle.ac.specs.Limits.{limits}
use Rattle.pair.specs.Given.{PairGiven, SideOf, OnBothSides, left, right, no_atom, on_both_sides, many_constants, many_rows, balanced, of_a_constant}

-- a bound that cannot be passed is kept
kept : (a b : ℕ) → (a < b → ⊥) → b ≤ a
kept a b h = go (dec_lt a b)
  where
    go : Dec (a < b) → b ≤ a
    go (yes passed) = absurd (h passed)
    go (no within) = omega arith

pub record WithinLimits (M : Mode) (L R : List ℕ) : Type 0 where
  pub left_side : IsSide L
  pub right_side : IsSide R
  pub groups_fit : (G : Groups) → GroupsOf M L R G → Fits layout G
  pub sides_separate : M.separate ≡ true → OnBothSides L R → ⊥

module _ {M : Mode} {L R : List ℕ} where
  -- where a question on two sides gives no number up to 12, the sides give none
  pub sides_give_none : {Given : ℕ → Type 0} → ((n : ℕ) → PairGiven limits M L R n → Given n)
      → NoneOf Given rows_numbers → NoneOf (PairGiven limits M L R) sides_numbers
  sides_give_none carried (also no-16 none) = none_carried (λ n m number. carried n number) none

  -- where 8 is not given, a side holds atoms only
  pub atoms_only : {side : List ℕ} → (PairGiven limits M L R 8 → ⊥) → SideOf L R side → IsSide side
  atoms_only no-8 side a m =
      let low : a ≤ limits.highest_atom =
      kept limits.highest_atom a (λ above. no-8 (no_atom side (record { byte = a; held = m; above = above }))) in
      omega arith

  pub within_limits : NoneOf (PairGiven limits M L R) sides_numbers → WithinLimits M L R
  within_limits none =
      record {
        left_side = atoms_only (none_given none (its_member sides_numbers refl)) left;
        right_side = atoms_only (none_given none (its_member sides_numbers refl)) right;
        groups_fit = fit;
        sides_separate = λ separate both. none_given none (its_member sides_numbers refl) (on_both_sides separate both);
      }
    where
      no_11 : PairGiven limits M L R 11 → ⊥
      no_11 = none_given none (its_member sides_numbers refl)

      no_12 : PairGiven limits M L R 12 → ⊥
      no_12 = none_given none (its_member sides_numbers refl)

      fit : (G : Groups) → GroupsOf M L R G → Fits layout G
      fit G groups =
          record {
            few_constants =
                omega (
                  arith,
                  kept limits.constants (length (unbalanced M L R)) (λ many. no_11 (many_constants many)),
                  ap length groups.the_constants,
                  length-map G.constants (λ (g : Group). g.constant),
                );
            few_rows = λ g m. kept limits.constant_rows (length g.rows)
                (λ many. no_12 (many_rows groups (of_a_constant m many)));
            few_balanced = kept limits.balanced_rows (length G.balanced)
                (λ many. no_12 (many_rows groups (balanced many)));
          }
