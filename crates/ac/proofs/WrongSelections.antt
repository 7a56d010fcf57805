-- Document 01's plausible errors on selections, each as a wrong definition that lists other keys than the
-- right one at a pair worked by hand.
use Prim.Native.Nat.{ℕ}
use mathlib.Core.Path.{◌≡◌, refl}
use mathlib.Core.Bool.{Bool, true, false, ◌&&◌, ◌||◌}
use mathlib.Core.List.Memᴰ
use mathlib.Core.List.{List, [], ◌∷◌, map}
use native.Mathlib.Omega.{arith}
use lib.Dec.{eqb}
use Rattle.ac.specs.Lists.{filter}
use Rattle.ac.specs.Pair.{unifying, count, variables}
use Rattle.ac.specs.Search.{groups}
use Rattle.ac.specs.Selection.{Selection, taken, reached, all_taken, place_of, value}
use Rattle.ac.specs.Keys.{layout, key_of, selections, keys}
use Rattle.ac.specs.Replacement.{Unifies}

module _ (L R : List ℕ) where
  -- the keys of the admissible selections, and of those that pass another test
  abbrev listed_keys : List ℕ
  listed_keys = keys unifying layout L R (groups unifying L R)

  abbrev keys_that : (Selection → Bool) → List ℕ
  keys_that passes = map (key_of layout) (filter passes (selections (groups unifying L R)))

  -- the values of a selection that takes no row of a constant and these balanced rows
  abbrev values_with : List Bool → ℕ → List ℕ
  values_with takes = value unifying layout.new L R (groups unifying L R) (record { indexes = []; takes = takes })

-- "Taking the set of all rows only, as if an empty value were allowed. Pair 2 has seven unifiers."
abbrev all_rows_only : Selection → Bool
all_rows_only s = all_taken s.takes

-- pair 2, v0+v1 and v2+v3
pub all_rows_only_differs : (listed_keys (0 ∷ 1 ∷ []) (2 ∷ 3 ∷ []) ≡ 6 ∷ 7 ∷ 9 ∷ 11 ∷ 13 ∷ 14 ∷ 15 ∷ [])
    × (keys_that (0 ∷ 1 ∷ []) (2 ∷ 3 ∷ []) all_rows_only ≡ 15 ∷ [])
all_rows_only_differs = (refl, refl)

-- An empty value allowed: every selection is admitted.
abbrev any_selection : Selection → Bool
any_selection s = true

-- pair 9, v0 and v0+v1: nothing is listed, though there is a balanced row
pub any_selection_differs : (listed_keys (0 ∷ []) (0 ∷ 1 ∷ []) ≡ [])
    × (keys_that (0 ∷ []) (0 ∷ 1 ∷ []) any_selection ≡ 0 ∷ 1 ∷ [])
any_selection_differs = (refl, refl)

-- with that row taken v1 is empty, so the values do not unify
pub any_selection_unsound : Unifies unifying (0 ∷ []) (0 ∷ 1 ∷ [])
    (values_with (0 ∷ []) (0 ∷ 1 ∷ []) (true ∷ [])) → ⊥
any_selection_unsound unifies = let h =
    unifies.non_empty 1 (Memᴰ.tail (Memᴰ.head refl)) refl in omega arith

-- "Dropping a variable whose net count is 0; it needs its own new variable": only the variables of another
-- net count have to be reached.
module _ (L R : List ℕ) (s : Selection) where
  abbrev uneven_reached : List ℕ → Bool
  uneven_reached [] = true
  uneven_reached (x ∷ xs) =
      (eqb (count x L) (count x R) || reached (taken layout.new (groups unifying L R) s)
      (place_of x (variables unifying L R))) && uneven_reached xs

  abbrev dropping_even : Bool
  dropping_even = uneven_reached (variables unifying L R)

-- pair 7, v0 and v0: one, key 1
pub dropping_even_differs : (listed_keys (0 ∷ []) (0 ∷ []) ≡ 1 ∷ [])
    × (keys_that (0 ∷ []) (0 ∷ []) (dropping_even (0 ∷ []) (0 ∷ [])) ≡ 0 ∷ 1 ∷ [])
dropping_even_differs = (refl, refl)

-- with no row taken v0 has no new variable and stays without a value, so the values do not unify; with its
-- row it is n0
pub dropping_even_unsound : (Unifies unifying (0 ∷ []) (0 ∷ []) (values_with (0 ∷ []) (0 ∷ []) (false ∷ [])) → ⊥)
    × (values_with (0 ∷ []) (0 ∷ []) (true ∷ []) 0 ≡ 192 ∷ [])
dropping_even_unsound = (λ unifies. let h = unifies.non_empty 0 (Memᴰ.head refl) refl in omega arith, refl)
