-- The rank of a candidate (document 02, R-8).
use Rattle.std.specs.Prelude.{ℕ, ◌≡◌, length}
use mathlib.Core.List.{List, [], ◌∷◌, Memᴰ}
use Rattle.ac.specs.Pair.{Mode}
use Rattle.ac.specs.Rows.{Groups}
use Rattle.ac.specs.Keys.{layout, start, Fits}
use Rattle.ac.specs.Weighed.{candidates, weighed}
use Rattle.table.specs.Masks.{Sized, rows_to_take}

-- as many as the candidates from the start up to the key, of all groups of these sizes and in every mode in which these
-- rows must be taken, where it is one of the candidates
abbrev pub RankIn : List ℕ → ℕ → ℕ → ℕ → ℕ → Type 0
RankIn sizes unbalanced must key rank =
    (M : Mode) (G : Groups) → must ≡ rows_to_take M.empties (length G.balanced) → Sized sizes unbalanced G
    → Fits layout G → Memᴰ key (candidates M layout G)
    → rank ≡ weighed start (key ∷ []) (candidates M layout G)
