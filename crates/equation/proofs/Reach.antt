-- What the budgets can reach: where the two sums are too far apart, no row begins with the prefix.
use Prim.Native.Nat.{ℕ, suc, ◌+◌, ◌*◌, ◌≤◌, ◌<◌}
use native.Mathlib.Omega.{arith}
use native.Mathlib.Nat.{mul-le-mul_right}
use mathlib.Core.Path.{◌≡◌, refl}
use mathlib.Core.Bool.{Bool, true, false, cond}
use mathlib.Core.List.{List, [], ◌∷◌, ◌++◌}
use lib.ListN.{length, get_or}
use lib.Dec.{leb}
use borrow.Author.Tests.{leb-true, leb-false}
use Rattle.ac.specs.Equation.{weighted, coefficient, Equation, Minimal}
use Rattle.ac.specs.Budgets.{up, down, up_sum, down_sum}
use Rattle.ac.proofs.Vectors.{dot-weighted}
use Rattle.equation.specs.declared.standing.Standing.{Standing}
use Rattle.equation.specs.Places.{Stands, Apart, Apart.left_short, Apart.right_short}
use Rattle.equation.proofs.Places.{rest_places}

-- Where at each place p gains on q at most so much for each unit that f counts, so do the sums.
gains : (most : ℕ) (p q f : ℕ → ℕ) (v : List ℕ)
    → ((i : ℕ) → i < length v → (n : ℕ) → p i * n ≤ q i * n + f i * n * most)
    → weighted p v ≤ weighted q v + weighted f v * most
gains most p q f [] each = omega arith
gains most p q f (n ∷ v) each =
    omega (
      arith,
      each 0 (omega arith) n,
      gains most (λ i. p (suc i)) (λ i. q (suc i)) (λ i. f (suc i)) v
          (λ i h. each (suc i) (let h' : i < length v = h in omega arith)),
    )

-- the left sum gains at the places whose left coefficient is at least the right one
left_gains : (l r : ℕ) {most : ℕ} (b : Bool) → leb r l ≡ b → l ≤ most → (n : ℕ)
    → l * n ≤ r * n + cond b 1 0 * n * most
left_gains l r true e small n = omega (arith, mul-le-mul_right n small)
left_gains l r false e small n =
    omega (arith, mul-le-mul_right n (let h : l ≤ r = omega (arith, leb-false r l e) in h))

-- the right sum gains at the others
right_gains : (l r : ℕ) {most : ℕ} (b : Bool) → leb r l ≡ b → r ≤ most → (n : ℕ)
    → r * n ≤ l * n + cond b 0 1 * n * most
right_gains l r true e small n = omega (arith, mul-le-mul_right n (leb-true r l e))
right_gains l r false e small n = omega (arith, mul-le-mul_right n small)

-- sums that the budgets cannot bridge have no row
module _ {E : Equation} {p left right : List ℕ} {at : Standing} {most_left most_right : ℕ}
    (s : Stands E p left right at) (lefts : (i : ℕ) → i < length left → get_or left i 0 ≤ most_left)
    (rights : (i : ℕ) → i < length right → get_or right i 0 ≤ most_right) where
  -- since a row makes them equal and is within the budgets
  pub no_row_apart : Apart at most_left most_right → (rest : List ℕ) → Minimal E (p ++ rest) → ⊥
  no_row_apart apart rest minimal = by_side apart
    where
      long : length rest ≡ length left
      long = rest_places s rest minimal

      equal : weighted (coefficient left) rest + at.left ≡ weighted (coefficient right) rest + at.right
      equal = omega (
        arith,
        ((s.solves rest long).0 minimal.least.has).0,
        dot-weighted left rest,
        dot-weighted right rest,
      )

      left_more : weighted (coefficient left) rest
          ≤ weighted (coefficient right) rest + up_sum left right rest * most_left
      left_more =
          gains most_left (coefficient left) (coefficient right) (up (coefficient left) (coefficient right)) rest
          (λ i h. left_gains (get_or left i 0) (get_or right i 0) (leb (get_or right i 0) (get_or left i 0)) refl
          (lefts i (omega (arith, long))))

      right_more : weighted (coefficient right) rest
          ≤ weighted (coefficient left) rest + down_sum left right rest * most_right
      right_more =
          gains most_right (coefficient right) (coefficient left) (down (coefficient left) (coefficient right)) rest
          (λ i h. right_gains (get_or left i 0) (get_or right i 0) (leb (get_or right i 0) (get_or left i 0)) refl
          (rights i (omega (arith, long, s.level))))

      by_side : Apart at most_left most_right → ⊥
      by_side (left_short h) =
          omega (arith, equal, left_more, mul-le-mul_right most_left (s.within_up rest minimal))
      by_side (right_short h) =
          omega (arith, equal, right_more, mul-le-mul_right most_right (s.within_down rest minimal))
