-- Where the walk stands after a prefix, and which numbers the next place may have in a row (document 01,
-- "From sides to equations": "How far the search must go is the team's to prove").
use Rattle.std.specs.Prelude.{ℕ, ◌+◌, ◌*◌, ◌-◌, ◌^◌, ◌≤◌, ◌<◌, ◌≡◌, ◌↔◌, Bool, true, false, cond, ◌||◌, List, ◌++◌, length, leb, ltb, Option, Some, IfSome}
use Rattle.ac.specs.Lists.{sum}
use Rattle.ac.specs.Equation.{Equation, Solves, Minimal, dot}
use Rattle.ac.specs.Budgets.{up_sum, down_sum}
use Rattle.equation.specs.declared.standing.Standing.{Standing}
use Rattle.std.specs.declared.ops.RangeInclusive.{RangeInclusive}
use Rattle.std.specs.Range.{range_inclusive_start, range_inclusive_end, range_inclusive_exhausted}

-- The walk stands after a prefix, with the coefficients of the places that are left. A rest solves with the
-- prefix exactly if it makes the two sums equal and, where an all-zero rest does not count, is not all zero;
-- and the rest of a row is within the two budgets.
pub record Stands (E : Equation) (prefix left right : List ℕ) (at : Standing) : Type 0 where
  pub level : length left ≡ length right
  pub places : length prefix + length left ≡ length E.left
  pub solves : (rest : List ℕ) → length rest ≡ length left
      → Solves E (prefix ++ rest) ↔ ((dot left rest + at.left ≡ dot right rest + at.right)
      × (at.counts ≡ false → 0 < sum rest))
  pub within_up : (rest : List ℕ) → Minimal E (prefix ++ rest) → up_sum left right rest ≤ at.up
  pub within_down : (rest : List ℕ) → Minimal E (prefix ++ rest) → down_sum left right rest ≤ at.down

-- what is left of the budget that a place with these coefficients spends
abbrev pub budget_of : Standing → ℕ → ℕ → ℕ
budget_of at l r = cond (leb r l) at.up at.down

-- where the walk stands when a place with these coefficients has got its number
abbrev pub after_choice : Standing → ℕ → ℕ → ℕ → Standing
after_choice at l r n =
    record {
      left = at.left + l * n;
      right = at.right + r * n;
      up = cond (leb r l) (at.up - n) at.up;
      down = cond (leb r l) at.down (at.down - n);
      counts = at.counts || ltb 0 n;
    }

-- room for the two sums, whatever bytes the coefficients are
pub record Room (at : Standing) : Type 0 where
  pub left_room : at.left + 255 * (at.up + at.down) < 2 ^ 32
  pub right_room : at.right + 255 * (at.up + at.down) < 2 ^ 32

-- the two sums are further apart than the budgets can bridge, where no coefficient that is left is above these
pub data Apart (at : Standing) (most_left most_right : ℕ) : Type 0 where
  left_short : at.left + at.up * most_left < at.right → Apart at most_left most_right
  right_short : at.right + at.down * most_right < at.left → Apart at most_left most_right

-- A number that a place with these coefficients may have in a row: within its budget; at the last place with
-- the two sums equal; and where the coefficients are equal, so that one unit less solves too, only what keeps
-- the vector from being all zero.
pub record Possible (at : Standing) (l r : ℕ) (last : Bool) (n : ℕ) : Type 0 where
  pub within : n ≤ budget_of at l r
  pub equal : last ≡ true → l * n + at.left ≡ r * n + at.right
  pub even : l ≡ r → n ≤ cond at.counts 0 1

-- the number within the budget that lifts the lower sum, by so much for each unit, to the higher one
pub record Lifts (low high step budget : ℕ) (number : Option ℕ) : Type 0 where
  pub within : IfSome number (λ n. n ≤ budget)
  pub covers : (n : ℕ) → n ≤ budget → step * n + low ≡ high → number ≡ Some n

-- from a first number to a most one, within the budget, all that a place may have
pub record Ranges (at : Standing) (l r : ℕ) (last : Bool) (range : RangeInclusive ℕ) : Type 0 where
  pub fresh : range_inclusive_exhausted range ≡ false
  pub within : range_inclusive_end range ≤ budget_of at l r
  pub covers : (n : ℕ) → Possible at l r last n
      → (range_inclusive_start range ≤ n) × (n ≤ range_inclusive_end range)
