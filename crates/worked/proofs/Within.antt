-- A test that two sides keep the limits. It computes, and where it passes none of the numbers 7 to 12 is given.
use Prim.Native.Nat.{ℕ, zero, suc, ◌≤◌, ◌<◌}
use native.Mathlib.Omega.{arith}
use native.Mathlib.Decide.{dec_lt}
use mathlib.Core.Path.{◌≡◌, refl, subst}
use mathlib.Core.Bool.{Bool, true, not, ◌&&◌}
use mathlib.Core.Logic.{inl, inr}
use mathlib.Core.List.{List, [], ◌∷◌, ◌++◌, Memᴰ}
use borrow.Author.Tests.{leb-true, lt-ltb}
use lib.Dec.{leb, ltb}
use lib.IntN.{nat_abs}
use lib.ListN.{length, get_or}
use Rattle.ac.specs.Pair.{Mode, is_variable, count, net, variables, unbalanced}
use Rattle.ac.specs.Rows.{Group, Groups}
use Rattle.ac.specs.Lists.{every}
use Rattle.ac.specs.Search.{groups}
use Rattle.ac.proofs.Counts.{count-append, count_some, count_member}
use Rattle.ac.proofs.Groups.{groups_exist, groups_unique}
use Rattle.ac.proofs.Tests.{both, every_member}
use Rattle.ac.specs.Limits.{limits}
use Rattle.pair.specs.Given.{SideOf, left, right, least_atoms, WrongLength, OnBothSides, ManyRows, balanced, of_a_constant, PairGiven, side_length, no_atom, on_both_sides, many_variables, far_net_count, many_constants, many_rows}
use Rattle.pair.proofs.NetCounts.{nat_abs_difference}

-- all of some tests pass
abbrev pub all : List Bool → Bool
all = every (λ passed. passed)

-- then each passes, by its place
pub each : (tests : List Bool) → all tests ≡ true → (place : ℕ) → get_or tests place true ≡ true
each [] passes place = refl
each (test ∷ tests) passes zero = (both test (all tests) passes).0
each (test ∷ tests) passes (suc place) = each tests (both test (all tests) passes).1 place

-- a side has at least so many and at most 64 atoms, and none of them is above 127
abbrev pub side_tests : ℕ → List ℕ → List Bool
side_tests least side = leb least (length side) ∷ leb (length side) limits.most_atoms ∷ every (λ a. leb a limits.highest_atom) side ∷ []

-- at most 16 balanced rows, and at most 16 for each constant
abbrev row_tests : Groups → List Bool
row_tests G = leb (length G.balanced) limits.balanced_rows ∷ every (λ g. leb (length g.rows) limits.constant_rows) G.constants ∷ []

-- so each side and the rows; at most 6 variables; no atom with a net count further than 8 from 0; at most 4
-- unbalanced constants; and where the mode asks for it, no variable of the left side on the right
abbrev pair_tests : Mode → List ℕ → List ℕ → List Bool
pair_tests M L R =
    all (side_tests (least_atoms limits M) L)
    ∷ all (side_tests (least_atoms limits M) R)
    ∷ leb (length (variables M L R)) limits.variables
    ∷ every (λ a. leb (nat_abs (net L R a)) limits.net_count) (L ++ R)
    ∷ leb (length (unbalanced M L R)) limits.constants
    ∷ all (row_tests (groups M L R))
    ∷ every (λ a. not (M.separate && is_variable a && ltb 0 (count a R))) L
    ∷ []

-- all of them together
abbrev pub within : Mode → List ℕ → List ℕ → Bool
within M L R = all (pair_tests M L R)

module _ (least : ℕ) (side : List ℕ) (passes : all (side_tests least side) ≡ true) where
  pub length_within : WrongLength limits least side → ⊥
  length_within (inl few) = omega (arith, leb-true least (length side) (each (side_tests least side) passes 0))
  length_within (inr many) =
      omega (arith, leb-true (length side) limits.most_atoms (each (side_tests least side) passes 1))

  -- every byte of a side that passes is at most 127
  pub byte_within : {byte : ℕ} → Memᴰ byte side → byte ≤ limits.highest_atom
  byte_within {byte} m = leb-true byte limits.highest_atom (every_member (λ a. leb a limits.highest_atom) (each (side_tests least side) passes 2) m)

-- groups that pass have not too many rows
rows_within : {G : Groups} → all (row_tests G) ≡ true → ManyRows limits G → ⊥
rows_within {G} passes (balanced many) =
    omega (arith, leb-true (length G.balanced) limits.balanced_rows (each (row_tests G) passes 0))
rows_within {G} passes (of_a_constant {g = g} m many) =
    omega (
      arith,
      leb-true (length g.rows) limits.constant_rows
          (every_member (λ (h : Group). leb (length h.rows) limits.constant_rows) (each (row_tests G) passes 1) m),
    )

-- an atom that stands on neither side has net count 0
near_zero : (L R : List ℕ) → every (λ a. leb (nat_abs (net L R a)) limits.net_count) (L ++ R) ≡ true → (atom : ℕ)
    → nat_abs (net L R atom) ≤ limits.net_count
near_zero L R passes atom = go (dec_lt 0 (count atom (L ++ R)))
  where
    go : Dec (0 < count atom (L ++ R)) → nat_abs (net L R atom) ≤ limits.net_count
    go (yes stands) =
        leb-true (nat_abs (net L R atom)) limits.net_count
        (every_member (λ a. leb (nat_abs (net L R a)) limits.net_count) passes (count_member atom (L ++ R) stands))
    go (no absent) = omega (arith, count-append atom L R, nat_abs_difference (count atom L) (count atom R))

module _ (M : Mode) (L R : List ℕ) (passes : within M L R ≡ true) where
  passed : (place : ℕ) → get_or (pair_tests M L R) place true ≡ true
  passed = each (pair_tests M L R) passes

  -- each of the two sides passes
  side_within : {side : List ℕ} → SideOf L R side → all (side_tests (least_atoms limits M) side) ≡ true
  side_within left = passed 0
  side_within right = passed 1

  -- no variable stands on both sides where none may
  none_shared : M.separate ≡ true → OnBothSides L R → ⊥
  none_shared asked shared =
      let a = shared.variable in
      let test = every_member (λ a. not (M.separate && is_variable a && ltb 0 (count a R))) (passed 6) shared.on_left in
      let there = lt-ltb 0 (count a R) (count_some a R shared.on_right) in
      refuted asked shared.is_variable there test
    where
      refuted : {s v t : Bool} → s ≡ true → v ≡ true → t ≡ true → not (s && v && t) ≡ true → ⊥
      refuted is_s is_v is_t e = cc (rw (is_s, is_v, is_t) at e)

  -- no row of the table is given
  pub never_given : {n : ℕ} → PairGiven limits M L R n → ⊥
  never_given (side_length {side} one wrong) = length_within (least_atoms limits M) side (side_within one) wrong
  never_given (no_atom {side} one wrong) =
      omega (arith, wrong.above, byte_within (least_atoms limits M) side (side_within one) wrong.held)
  never_given (on_both_sides asked shared) = none_shared asked shared
  never_given (many_variables many) = omega (arith, leb-true (length (variables M L R)) limits.variables (passed 2))
  never_given (far_net_count atom far) = omega (arith, near_zero L R (passed 3) atom)
  never_given (many_constants many) = omega (arith, leb-true (length (unbalanced M L R)) limits.constants (passed 4))
  never_given (many_rows groups_of many) =
      rows_within (passed 5) (subst (ManyRows limits) (groups_unique M L R groups_of (groups_exist M L R)) many)
