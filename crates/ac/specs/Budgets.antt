-- The two budgets of a row. Document 01, "From sides to equations": "How far the search must go is the team's
-- to prove; Huet's bound of 1978 on minimal solutions is the public starting point." Lambert's bound of 1987
-- is on the two sums that stand here; `proofs/Bound.antt` proves it.
use Rattle.std.specs.Prelude.{ℕ, ◌+◌, ◌≤◌, Bool, cond, List, leb}
use Rattle.ac.specs.Equation.{weighted, coefficient, Equation}

-- With coefficients p on the left and n on the right a place is up where p is at least n, else down.
abbrev pub is_up : (ℕ → ℕ) → (ℕ → ℕ) → ℕ → Bool
is_up p n i = leb (n i) (p i)

-- 1 at the up places, 0 at the others
abbrev pub up : (ℕ → ℕ) → (ℕ → ℕ) → ℕ → ℕ
up p n i = cond (is_up p n i) 1 0

-- 1 at the down places, 0 at the others
abbrev pub down : (ℕ → ℕ) → (ℕ → ℕ) → ℕ → ℕ
down p n i = cond (is_up p n i) 0 1

module _ (left right v : List ℕ) where
  -- the sum of the entries at up places
  abbrev pub up_sum : ℕ
  up_sum = weighted (up (coefficient left) (coefficient right)) v

  -- the sum of the entries at down places
  abbrev pub down_sum : ℕ
  down_sum = weighted (down (coefficient left) (coefficient right)) v

-- Budgets that are enough: up is at least 1 and at least each right beyond left, down at least each left
-- beyond right, the offsets among them.
pub record Enough (E : Equation) (up down : ℕ) : Type 0 where
  pub some : 1 ≤ up
  pub places : (i : ℕ)
      → (coefficient E.left i ≤ coefficient E.right i + down)
      × (coefficient E.right i ≤ coefficient E.left i + up)
  pub offsets : (E.left_offset ≤ E.right_offset + down) × (E.right_offset ≤ E.left_offset + up)
