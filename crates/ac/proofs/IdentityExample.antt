-- Sums with an identity (document 02, R-10), computed. By `groups_unique` the pairs' groups are what is computed here.
use Prim.Native.Nat.{ℕ}
use mathlib.Core.Path.{◌≡◌, refl}
use mathlib.Core.List.{List, [], ◌∷◌, map}
use lib.ListN.{length}
use Rattle.ac.specs.Pair.{identity, variables}
use Rattle.ac.specs.Selection.{value}
use Rattle.ac.specs.Keys.{layout, keys, selection_at}
use Rattle.ac.specs.Search.{groups}
use Rattle.ac.specs.Values.{laid_out, bindings}

module _ (L R : List ℕ) where
  -- the list
  abbrev listed_keys : List ℕ
  listed_keys = keys identity layout L R (groups identity L R)

  -- and what Values writes of its keys
  abbrev written : List (List ℕ)
  written =
      map (λ key. laid_out (bindings (value identity layout.new L R (groups identity L R)
      (selection_at layout (groups identity L R) key)) (variables identity L R)))
      listed_keys

-- v0+v1 and v2+v3: all four balanced rows, and so one key where unifying has seven.
pub one_of_all : listed_keys (0 ∷ 1 ∷ []) (2 ∷ 3 ∷ []) ≡ 15 ∷ []
one_of_all = refl

-- c0+c1+c2 and v0+v1+v2: three rows for each constant, 27 keys.
pub twenty_seven : length (listed_keys (64 ∷ 65 ∷ 66 ∷ []) (0 ∷ 1 ∷ 2 ∷ [])) ≡ 27
twenty_seven = refl

-- v0 and nothing: v0 is empty, and written with count 0.
pub empty_value : (listed_keys (0 ∷ []) [] ≡ 0 ∷ []) × (written (0 ∷ []) [] ≡ (0 ∷ 0 ∷ []) ∷ [])
empty_value = (refl, refl)

-- Nothing and nothing: one key, and nothing is written.
pub two_empty_sides : (listed_keys [] [] ≡ 0 ∷ []) × (written [] [] ≡ [] ∷ [])
two_empty_sides = (refl, refl)

-- c0 and nothing: c0 has no row.
pub constant_alone : listed_keys (64 ∷ []) [] ≡ []
constant_alone = refl

-- v0+v1 and c0: each of the two rows of c0, where unifying has none.
pub one_takes_all : listed_keys (0 ∷ 1 ∷ []) (64 ∷ []) ≡ 0 ∷ 268_435_456 ∷ []
one_takes_all = refl

-- 2·v0+c0 and v1+v2+c1: two rows for c0, two for c1, and three balanced rows that are always taken.
pub all_balanced : listed_keys (0 ∷ 0 ∷ 64 ∷ []) (1 ∷ 2 ∷ 65 ∷ [])
    ≡ 7 ∷ 16_777_223 ∷ 268_435_463 ∷ 285_212_679 ∷ []
all_balanced = refl

-- v0 and v0+v1: v1 is empty, though no row reaches it.
pub unreached_empty : (listed_keys (0 ∷ []) (0 ∷ 1 ∷ []) ≡ 1 ∷ [])
    × (written (0 ∷ []) (0 ∷ 1 ∷ []) ≡ (0 ∷ 1 ∷ 192 ∷ 1 ∷ 0 ∷ []) ∷ [])
unreached_empty = (refl, refl)
