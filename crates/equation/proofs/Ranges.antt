-- Which numbers a place may have, and that the sums have room for them.
use Prim.Native.Nat.{ℕ, ◌+◌, ◌*◌, ◌-◌, ◌/◌, ◌≤◌, ◌<◌}
use native.Mathlib.Omega.{arith}
use native.Mathlib.Nat.{mul-le-mul, mul-le-mul_right, mul-div_right}
use mathlib.Core.Path.{◌≡◌, sym, ap, ◌∙◌}
use mathlib.Core.Bool.{Bool, true, false, cond}
use lib.Dec.{leb}
use borrow.Author.Tests.{le-leb, lt-leb}
use Rattle.equation.specs.declared.standing.Standing.{Standing}
use Rattle.std.specs.declared.ops.RangeInclusive.{RangeInclusive}
use Rattle.std.specs.Range.{range_inclusive_start, range_inclusive_end, range_inclusive_exhausted}
use Rattle.std.specs.Prelude.{Option, Some, None, IfSome}
use Rattle.equation.specs.Places.{budget_of, after_choice, Room, Possible, Lifts, Ranges}

-- Numbers that fit.

-- a product of two bytes fits in two bytes
pub bytes_product : {a b : ℕ} → a < 256 → b < 256 → a * b ≤ 65025
bytes_product {a} {b} h h' =
    omega (arith, mul-le-mul {n₁ = a} {m₁ = b} {n₂ = 255} {m₂ = 255} (omega arith) (omega arith))

-- what a number takes off the one budget, it takes off both together
spent_once : (b : Bool) (n up down : ℕ) → n ≤ cond b up down
    → cond b (up - n) up + cond b down (down - n) + n ≡ up + down
spent_once true n up down fits = omega arith
spent_once false n up down fits = omega arith

-- the sums have room after the choice of a number within the budget
pub room_after : {at : Standing} {l r n : ℕ} → Room at → l < 256 → r < 256 → n ≤ budget_of at l r
    → Room (after_choice at l r n)
room_after {at} {l} {r} {n} room left_byte right-byte fits =
    let e = spent_once (leb r l) n at.up at.down fits in
    record {
      left_room = omega (arith, room.left_room, mul-le-mul_right n (let h : l ≤ 255 = omega arith in h));
      right_room = omega (arith, room.right_room, mul-le-mul_right n (let h : r ≤ 255 = omega arith in h));
    }

-- The number that makes two sums equal.

quotient : (low n : ℕ) {high step : ℕ} → 0 < step → step * n + low ≡ high → (high - low) / step ≡ n
quotient low n {high} {step} positive e =
    ap (λ z. z / step) (let h : high - low ≡ step * n = omega arith in h) ∙ mul-div_right n positive

module _ {low high step budget : ℕ} (positive : 0 < step) where
  -- else the quotient alone
  pub lifts_one : {number : ℕ} → number ≡ (high - low) / step → number ≤ budget → Lifts low high step budget (Some number)
  lifts_one its fits = record { within = fits; covers = λ n h e. ap Some (its ∙ quotient low n positive e) }

-- what one side has more at a place, it has more for each unit
more_each : (n x : ℕ) {a b y : ℕ} → b < a → a * n + x ≡ b * n + y → (a - b) * n + x ≡ y
more_each n x {a} {b} {y} h e = omega (arith, ap (λ z. z * n) (let e : a ≡ b + (a - b) = omega arith in e))

-- the one number that a last place with these coefficients may have
pub record Only (at : Standing) (l r : ℕ) (last : Bool) (number : Option ℕ) : Type 0 where
  pub within : IfSome number (λ n. n ≤ budget_of at l r)
  pub covers : (n : ℕ) → Possible at l r last n → number ≡ Some n

module _ {at : Standing} {l r : ℕ} {last : Bool} {number : Option ℕ} where
  -- the left sum is to be lifted
  pub only_up : r < l → last ≡ true → Lifts at.left at.right (l - r) at.up number → Only at l r last number
  only_up h t lifts =
      let e = le-leb r l (let h' : r ≤ l = omega arith in h') in
      record {
        within = rw e lifts.within;
        covers = λ n p. lifts.covers n (rw e at p.within) (more_each n at.left h (p.equal t));
      }

  -- or the right one
  pub only_down : l < r → last ≡ true → Lifts at.right at.left (r - l) at.down number → Only at l r last number
  only_down h t lifts =
      let e = lt-leb r l h in
      record {
        within = rw e lifts.within;
        covers = λ n p. lifts.covers n (rw e at p.within) (more_each n at.right h (sym (p.equal t)));
      }

-- the range has not been gone through, and goes from one number to another
pub record Spans (first most : ℕ) (range : RangeInclusive ℕ) : Type 0 where
  pub fresh : range_inclusive_exhausted range ≡ false
  pub start : range_inclusive_start range ≡ first
  pub end : range_inclusive_end range ≡ most

module _ {at : Standing} {l r : ℕ} {last : Bool} {range : RangeInclusive ℕ} where
  pub ranges_some : {n : ℕ} → Only at l r last (Some n) → Spans n n range → Ranges at l r last range
  ranges_some {n} only spans =
      record {
        fresh = spans.fresh;
        within = omega (arith, only.within, spans.end);
        covers = λ m p. let e : n ≡ m = cc (only.covers m p) in (omega (arith, spans.start), omega (arith, spans.end));
      }

  pub ranges_none : Only at l r last None → Spans 1 0 range → Ranges at l r last range
  ranges_none only spans =
      record {
        fresh = spans.fresh;
        within = omega (arith, spans.end);
        covers = λ m p. absurd (let z : ◌≡◌ {A = ℕ} 0 1 = cc (only.covers m p) in omega arith);
      }
