-- The ways out of taking a pair apart, each from the facts that its test leaves.
use mathlib.Core.Path.{◌≡◌, subst}
use mathlib.Core.Bool.{Bool, ◌||◌}
use mathlib.Core.Logic.{◌⊎◌, inl, inr, ⊎_elim}
use mathlib.Core.List.{List}
use Prim.Native.Nat.{ℕ, ◌≤◌, ◌<◌}
use native.Mathlib.Omega.{arith}
use lib.Dec.{ltb}
use lib.ListN.{length}
use Rattle.ac.specs.Pair.{Mode, variables, unbalanced}
use Rattle.ac.specs.Limits.{limits}
use Rattle.pair.specs.Given.{SideOf, left, right, least_atoms, WrongLength, WrongByte, LowestFar, PairGiven, side_length, no_atom, many_variables, many_constants}
use Rattle.numbers.specs.Tells.{Tells}
use Rattle.pair.specs.Counts.{SettlesTen, a_far_one, all_near}
use Rattle.pair.specs.Gathered.{HeldIfRoom}
use Rattle.pair.specs.Parted.{PairOf}
use Rattle.pair.specs.declared.Pair.{Pair}
use Rattle.std.specs.Prelude.{Option, Some, None}
use Rattle.pair.proofs.Telling.{tells_less, tells_either, tells_same, at_most}

-- a number that is given where a side is wrong, by a test of each side
pub tells_sides : {Wrong : List ℕ → Type 0} {Given : Type 0} {L R : List ℕ} {first second : Bool}
    → ((side : List ℕ) → SideOf L R side → Wrong side → Given)
    → (Given → Wrong L ⊎ Wrong R) → Tells (Wrong L) first → Tells (Wrong R) second → Tells Given (first || second)
tells_sides {L = L} {R = R} {first = first} {second = second} given either of_left of_right =
    tells_same (⊎_elim (given L left) (given R right)) either (tells_either first second of_left of_right)

-- a number that is given where more are found than the limit, by how many they are
tells_many : {Given : Type 0} {limit number : ℕ} (found : List ℕ) → (limit < length found → Given)
    → (Given → limit < length found)
    → number ≡ length found → Tells Given (ltb limit number)
tells_many {limit = limit} {number = number} found given many how_many =
    tells_same (λ above. given (rw how_many at above)) (λ is_given. rw how_many (many is_given))
    (tells_less limit number)

-- what tells of each number
module _ {M : Mode} {L R : List ℕ} where
  -- what each number says
  wrong_length : PairGiven limits M L R 7
      → WrongLength limits (least_atoms limits M) L ⊎ WrongLength limits (least_atoms limits M) R
  wrong_length (side_length left wrong) = inl wrong
  wrong_length (side_length right wrong) = inr wrong

  wrong_byte : PairGiven limits M L R 8 → WrongByte limits L ⊎ WrongByte limits R
  wrong_byte (no_atom left wrong) = inl wrong
  wrong_byte (no_atom right wrong) = inr wrong

  more_variables : PairGiven limits M L R 9 → limits.variables < length (variables M L R)
  more_variables (many_variables many) = many

  more_constants : PairGiven limits M L R 11 → limits.constants < length (unbalanced M L R)
  more_constants (many_constants many) = many

  -- and what tells of it
  pub tells_7 : {least : ℕ} {first second : Bool} → least ≡ least_atoms limits M
      → Tells (WrongLength limits least L) first → Tells (WrongLength limits least R) second
      → Tells (PairGiven limits M L R 7) (first || second)
  tells_7 {first = first} {second} its of_left of_right =
      tells_sides {Wrong = WrongLength limits (least_atoms limits M)} (λ side is_side wrong. side_length is_side wrong)
      wrong_length
      (subst (λ least. Tells (WrongLength limits least L) first) its of_left)
      (subst (λ least. Tells (WrongLength limits least R) second) its of_right)

  pub tells_8 : {first second : Bool} → Tells (WrongByte limits L) first → Tells (WrongByte limits R) second
      → Tells (PairGiven limits M L R 8) (first || second)
  tells_8 = tells_sides {Wrong = WrongByte limits} (λ side is_side wrong. no_atom is_side wrong) wrong_byte

  pub tells_9 : {number : ℕ} → number ≡ length (variables M L R) → Tells (PairGiven limits M L R 9) (ltb limits.variables number)
  tells_9 = tells_many (variables M L R) many_variables more_variables

  pub tells_11 : {number : ℕ} → number ≡ length (unbalanced M L R)
      → Tells (PairGiven limits M L R 11) (ltb limits.constants number)
  tells_11 = tells_many (unbalanced M L R) many_constants more_constants

  -- what was found of the net counts: an atom is the lowest that is far, and where none was found 10 is not given
  pub far_found : {found : Option ℕ} {atom : ℕ} → SettlesTen M L R found → found ≡ Some atom
      → LowestFar limits L R atom
  far_found {atom = atom} (a_far_one {atom = found} lowest) e =
      let same : found ≡ atom = cc e in subst (LowestFar limits L R) same lowest
  far_found (all_near not_given) e = absurd (let z : ◌≡◌ {A = ℕ} 0 1 = cc e in omega arith)

  pub near_found : {found : Option ℕ} → SettlesTen M L R found → found ≡ None → PairGiven limits M L R 10 → ⊥
  near_found (a_far_one lowest) e = absurd (let z : ◌≡◌ {A = ℕ} 0 1 = cc e in omega arith)
  near_found (all_near not_given) e = not_given

  -- where no number refuses, all that was found is held
  pub pair_held : {pair : Pair} → HeldIfRoom L R (variables M L R) pair.variables
      → HeldIfRoom L R (unbalanced M L R) pair.constants
      → (PairGiven limits M L R 9 → ⊥) → (PairGiven limits M L R 11 → ⊥) → PairOf M L R pair
  pair_held the_variables the_constants not9 not11 =
      let few : length (unbalanced M L R) ≤ limits.constants = at_most _ _ (λ many. not11 (many_constants many)) in
      record {
        the_variables = the_variables.held (at_most _ _ (λ many. not9 (many_variables many)));
        the_constants = the_constants.held (omega (arith, few));
      }
