-- What a table says: the groups of rows that it holds, and that it is the table of a pair (document 01, "From
-- sides to equations").
use Rattle.std.specs.Prelude.{ℕ, suc, ◌≤◌, ◌≡◌, List, [], ◌∷◌, map, length, get_or, take, drop}
use Rattle.ac.specs.Lists.{below, NoneAbove}
use Rattle.ac.specs.Limits.{limits}
use Rattle.ac.specs.Pair.{Mode, variables}
use Rattle.ac.specs.Rows.{Group, Groups, GroupsOf}
pub use Rattle.table.specs.Rows.{most_rows, group_start, row_start, room_of_rows}
use Rattle.table.specs.declared.Table.{Table}

-- row i of group g, where rows have fixed places: an entry for each variable
abbrev pub row_in : ℕ → List ℕ → ℕ → ℕ → List ℕ
row_in places rows g i = take places (drop (row_start g i) rows)

-- the first rows of group g
abbrev pub group_in : ℕ → List ℕ → ℕ → ℕ → List (List ℕ)
group_in places rows g count = map (row_in places rows g) (below count)

-- row i of group g of a table, and all rows of the group
abbrev pub row_at : Table → ℕ → ℕ → List ℕ
row_at t = row_in t.places t.rows

abbrev pub group_at : Table → ℕ → List (List ℕ)
group_at t g = group_in t.places t.rows g (get_or t.sizes g 0)

-- the constants' groups from group g on
abbrev pub groups_from : Table → ℕ → List ℕ → List Group
groups_from t g [] = []
groups_from t g (c ∷ cs) = record { constant = c; rows = group_at t g } ∷ groups_from t (suc g) cs

-- the groups that the table holds: the balanced one first, then each constant's
abbrev pub groups_in : Table → Groups
groups_in t = record { balanced = group_at t 0; constants = groups_from t 1 (take t.unbalanced t.constants) }

-- the numbers in the table are within its room
pub record InRoom (t : Table) : Type 0 where
  pub places_fit : t.places ≤ limits.variables
  pub constants_fit : t.unbalanced ≤ limits.constants
  pub constants_held : t.unbalanced ≤ length t.constants
  pub sizes_fit : (g : ℕ) → get_or t.sizes g 0 ≤ most_rows g
  -- no entry of a row is above the limit of net counts (document 02, R-9)
  pub entries_fit : NoneAbove limits.net_count t.rows

-- the table is that of the pair: its variables and exactly its rows
pub record TableOf (M : Mode) (L R : List ℕ) (t : Table) : Type 0 where
  pub within : InRoom t
  pub the_variables : take t.places t.variables ≡ variables M L R
  pub the_places : t.places ≡ length (variables M L R)
  pub the_groups : GroupsOf M L R (groups_in t)
  pub whether_empty : M.empties ≡ t.empties
