-- Document 01's plausible errors on rows, each as a wrong definition whose rows differ in number from the
-- right ones at a small pair.
use Prim.Native.Nat.{ℕ, ◌+◌, max}
use native.Mathlib.Omega.{arith}
use mathlib.Core.Path.{ap}
use mathlib.Core.Logic.{◌≢◌}
use mathlib.Core.Bool.{Bool, true, false, not, cond, ◌&&◌, ◌||◌}
use mathlib.Core.List.{List, [], ◌∷◌, ◌++◌, map}
use lib.ListN.{length, get_or, drop}
use lib.Dec.{leb, eqb}
use Rattle.ac.specs.Lists.{filter, sum}
use Rattle.ac.specs.Pair.{Mode, unifying, count, variables, unbalanced}
use Rattle.ac.specs.Equation.{Equation, equation, on_left, on_right, balanced_equation, equation_of}
use Rattle.ac.specs.Search.{lower, least_of, candidates, minimal_solutions, groups}

-- "Bounding a variable by the counts on its own side. The other side sets it: see pair 6."
abbrev within_own_side : List ℕ → List ℕ → List ℕ → Bool
within_own_side left right [] = true
within_own_side left right (n ∷ v) =
    leb n (max (get_or left 0 0) (get_or right 0 0)) && within_own_side (drop 1 left) (drop 1 right) v

abbrev bounded_by_own_side : Equation → List (List ℕ)
bounded_by_own_side E = least_of (filter (within_own_side E.left E.right) (candidates E))

-- pair 6, v0+v0+v0 and v1+v1: the row 23 is missed
pub own_side_differs : bounded_by_own_side (balanced_equation unifying (0 ∷ 0 ∷ 0 ∷ []) (1 ∷ 1 ∷ [])) ≢ (groups
    unifying (0 ∷ 0 ∷ 0 ∷ []) (1 ∷ 1 ∷ [])).balanced
own_side_differs e = omega (arith, ap length e)

-- "Dropping a variable whose net count is 0; it needs its own new variable."
abbrev uneven_variables : Mode → List ℕ → List ℕ → List ℕ
uneven_variables M L R = filter (λ x. not (eqb (count x L) (count x R))) (variables M L R)

abbrev dropping_equation : Mode → List ℕ → List ℕ → Equation
dropping_equation M L R =
    equation (map (λ x. count x L) (uneven_variables M L R)) (map (λ x. count x R) (uneven_variables M L R)) 0 0 true

-- pair 7, v0 and v0: the row 1 is missed
pub dropping_differs : minimal_solutions (dropping_equation unifying (0 ∷ []) (0 ∷ [])) ≢ (groups unifying
    (0 ∷ []) (0 ∷ [])).balanced
dropping_differs e = omega (arith, ap length e)

-- "Mixing two constants in one row": one equation for all unbalanced constants together.
abbrev mixed_equation : Mode → List ℕ → List ℕ → Equation
mixed_equation M L R =
    equation (on_left M L R) (on_right M L R) (sum (map (λ c. count c L) (unbalanced M L R)))
    (sum (map (λ c. count c R) (unbalanced M L R))) false

-- pair 12, v0+v1 and c0+c1: the rows 02, 11, 20, where each constant has 01 and 10
pub mixing_differs : minimal_solutions (mixed_equation unifying (0 ∷ 1 ∷ []) (64 ∷ 65 ∷ [])) ≢ minimal_solutions
    (equation_of unifying (0 ∷ 1 ∷ []) (64 ∷ 65 ∷ []) 64)
mixing_differs e = omega (arith, ap length e)

-- "leaving out rows that are the half sum of two others, as 111 in pair 3"
abbrev some : (List ℕ → Bool) → List (List ℕ) → Bool
some test [] = false
some test (v ∷ vs) = test v || some test vs

abbrev is_half_sum : List ℕ → List ℕ → List ℕ → Bool
is_half_sum [] u w = true
is_half_sum (n ∷ v) u w = eqb (n + n) (get_or u 0 0 + get_or w 0 0) && is_half_sum v (drop 1 u) (drop 1 w)

abbrev without_half_sums : List (List ℕ) → List (List ℕ)
without_half_sums rows = filter (λ v. not (some (λ u. not (lower u v) && some (λ w. is_half_sum v u w) rows) rows)) rows

-- pair 3, v0+v0 and v1+v2: the row 111 is left out
pub half_sums_differ : without_half_sums (groups unifying (0 ∷ 0 ∷ []) (1 ∷ 2 ∷ [])).balanced ≢ (groups unifying
    (0 ∷ 0 ∷ []) (1 ∷ 2 ∷ [])).balanced
half_sums_differ e = omega (arith, ap length e)

-- "Comparing a new vector only with the row found last. Any row found before may be the lower one."
abbrev last_lower : List (List ℕ) → List ℕ → Bool
last_lower [] v = false
last_lower (r ∷ []) v = lower r v
last_lower (r ∷ s ∷ found) v = last_lower (s ∷ found) v

abbrev kept_by_last : List (List ℕ) → List (List ℕ) → List (List ℕ)
kept_by_last found [] = found
kept_by_last found (v ∷ candidates) = kept_by_last (cond (last_lower found v) found (found ++ (v ∷ []))) candidates

abbrev compared_with_last : Equation → List (List ℕ)
compared_with_last E = kept_by_last [] (candidates E)

-- v0+v0 and v1+v2+v2: 202 is kept after 101 and 120, since only 120 is looked at
pub last_only_differs : compared_with_last (balanced_equation unifying (0 ∷ 0 ∷ []) (1 ∷ 2 ∷ 2 ∷ [])) ≢ (groups
    unifying (0 ∷ 0 ∷ []) (1 ∷ 2 ∷ 2 ∷ [])).balanced
last_only_differs e = omega (arith, ap length e)
