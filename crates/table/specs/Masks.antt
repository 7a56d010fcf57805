-- What masks say: which rows of the groups reach which variable (document 02, R-5).
use Rattle.std.specs.Prelude.{ℕ, zero, suc, ◌+◌, ◌*◌, ◌<◌, ◌≤◌, ◌≡◌, List, [], ltb, length, get_or}
use Rattle.ac.specs.Rows.{Groups, rows_at}
use Rattle.ac.specs.Keys.{bit}
use Rattle.table.specs.Table.{groups_in}
pub use Rattle.table.specs.Marks.{Tests, MarkedTo, MarksIn, MarksAt, places_to_reach, rows_to_take, MissedBy, SetsOf}
use Rattle.table.specs.declared.Table.{Table}
use Rattle.table.specs.declared.masks.Masks.{Masks}

-- the balanced rows are group 0, those of the constants the groups after it
abbrev pub group : Groups → ℕ → List (List ℕ)
group G zero = G.balanced
group G (suc g) = rows_at G.constants g

-- the sizes are those of the groups
pub record Sized (sizes : List ℕ) (unbalanced : ℕ) (G : Groups) : Type 0 where
  pub how_many_constants : length G.constants ≡ unbalanced
  pub a_size_each : (g : ℕ) → g ≤ unbalanced → length (group G g) ≡ get_or sizes g 0

-- bit i is set exactly where row i is above 0 at the place; past the last row there is none
abbrev pub Marks : List (List ℕ) → ℕ → ℕ → Type 0
Marks rows place mask = (i : ℕ) → bit mask i ≡ ltb 0 (get_or (get_or rows i []) place 0)

-- there is a mask for each group and each place, that of group g at place p at 6 * g + p
pub record Marked (reaching : List ℕ) (unbalanced places : ℕ) (G : Groups) : Type 0 where
  pub how_many_constants : length G.constants ≡ unbalanced
  pub marks : (g p : ℕ) → g ≤ unbalanced → p < places → Marks (group G g) p (get_or reaching (6 * g + p) 0)

-- the masks are those of the table's groups, and ask of a selection what it has to reach and to take
pub record MasksOf (t : Table) (m : Masks) : Type 0 where
  pub the_places : m.places ≡ places_to_reach t.empties t.places
  pub the_must : m.must ≡ rows_to_take t.empties (length (groups_in t).balanced)
  pub sized : Sized m.sizes m.unbalanced (groups_in t)
  pub marked : Marked m.reaching m.unbalanced m.places (groups_in t)
