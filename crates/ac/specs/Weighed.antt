-- The number of keys weighed (document 02, R-8).
use Rattle.std.specs.Prelude.{ℕ, Bool, true, false, List, [], ◌∷◌, map, length, leb}
use Rattle.ac.specs.Lists.{filter}
use Rattle.ac.specs.Pair.{Mode}
use Rattle.ac.specs.Rows.{Groups}
use Rattle.ac.specs.Selection.{Selection, all_taken}
use Rattle.ac.specs.Keys.{Layout, key_of, selections, Beginning, remaining}

-- "A candidate has row indexes within their groups and no bit beyond the balanced rows": every selection of the
-- groups is one. Where a variable may be empty, a selection takes all balanced rows, and "a candidate here is a
-- selection" (R-10).
abbrev pub is_candidate : Mode → Selection → Bool
is_candidate M s = elim M.empties [ true ↦ all_taken s.takes | false ↦ true ]

-- the keys of the candidates, ascending
abbrev pub candidates : Mode → Layout → Groups → List ℕ
candidates M lay G = map (key_of lay) (filter (is_candidate M) (selections G))

-- up to and including the last of these keys; where there is none, nothing is
abbrev pub upto_last : List ℕ → ℕ → Bool
upto_last [] key = false
upto_last (last ∷ []) key = leb key last
upto_last (first ∷ second ∷ others) key = upto_last (second ∷ others) key

-- "The count is of the candidates after the beginning place, up to and including the last key written."
abbrev pub weighed : Beginning → List ℕ → List ℕ → ℕ
weighed begin written candidates = length (filter (upto_last written) (remaining begin candidates))
