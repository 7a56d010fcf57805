-- Matching against a fixed subject (document 02, R-4), computed. By `groups_unique` the pairs' groups are what is computed
-- here.
use Prim.Native.Nat.{ℕ}
use mathlib.Core.Path.{◌≡◌, refl}
use mathlib.Core.List.{List, [], ◌∷◌, map}
use Rattle.ac.specs.Pair.{matching, variables}
use Rattle.ac.specs.Selection.{value}
use Rattle.ac.specs.Keys.{layout, keys, selection_at}
use Rattle.ac.specs.Search.{groups}
use Rattle.ac.specs.Values.{Binding, bindings}

-- what is listed of a pattern and a subject: for each key the left variables, each with its value
abbrev matches_of : List ℕ → List ℕ → List (List Binding)
matches_of L R =
    map (λ key. bindings (value (matching L) layout.new L R (groups (matching L) L R)
    (selection_at layout (groups (matching L) L R) key)) (variables (matching L) L R))
    (keys (matching L) layout L R (groups (matching L) L R))

-- v0+v1 covers v2+c0 in two ways: v0=c0 v1=v2, and v0=v2 v1=c0. The subject's variable counts as a constant, and its
-- byte comes before that of c0.
pub two_matches : matches_of (0 ∷ 1 ∷ []) (2 ∷ 64 ∷ [])
    ≡ (record { variable = 0; value = 64 ∷ [] } ∷ record { variable = 1; value = 2 ∷ [] } ∷ [])
    ∷ (record { variable = 0; value = 2 ∷ [] } ∷ record { variable = 1; value = 64 ∷ [] } ∷ [])
    ∷ []
two_matches = refl

-- v0+v0+c0 covers v1+v1+v2+v2+c0 in one way: v0=v1+v2.
pub one_match : matches_of (0 ∷ 0 ∷ 64 ∷ []) (1 ∷ 1 ∷ 2 ∷ 2 ∷ 64 ∷ [])
    ≡ (record { variable = 0; value = 1 ∷ 2 ∷ [] } ∷ []) ∷ []
one_match = refl

-- v0+v1 does not cover v2, though v2 could be replaced by a sum: the subject's variables must not move.
pub no_match : matches_of (0 ∷ 1 ∷ []) (2 ∷ []) ≡ []
no_match = refl

-- v0+c0 does not cover c1+c1: c0 stands on the left alone.
pub not_covered : matches_of (0 ∷ 64 ∷ []) (65 ∷ 65 ∷ []) ≡ []
not_covered = refl
