-- Rows that reach none of some places, as masks, and how many selections are made of them (document 02, R-7).
use Rattle.std.specs.Prelude.{ℕ, ◌+◌, ◌*◌, ◌≤◌, ◌≡◌, not, ◌&&◌, List, [], ltb, length, get_or}
use Rattle.ac.specs.Limits.{limits}
use Rattle.ac.specs.Rows.{Groups}
use Rattle.ac.specs.Keys.{bit}
use Rattle.ac.specs.Counting.{misses}
use Rattle.table.specs.Table.{most_rows}
use Rattle.table.specs.Masks.{group, Marked}

-- bit i is set exactly where row i is one of the rows and reaches none of the places
abbrev pub MarksMissing : List ℕ → List (List ℕ) → ℕ → Type 0
MarksMissing places rows mask = (i : ℕ) → bit mask i ≡ (ltb i (length rows) && misses places (get_or rows i []))

-- There are groups, and places, so that the masks are of each group the rows that reach none of the places.
pub record RowsLeft (unbalanced : ℕ) (rows : List ℕ) : Type 0 where
  pub groups : Groups
  pub missed : List ℕ
  pub how_many_constants : length groups.constants ≡ unbalanced
  pub few_rows : (g : ℕ) → g ≤ unbalanced → length (group groups g) ≤ most_rows g
  pub marks : (g : ℕ) → g ≤ unbalanced → MarksMissing missed (group groups g) (get_or rows g 0)

-- and it is known of each of their rows which of the first places it reaches
pub record ReachingLeft (reaching rows : List ℕ) (unbalanced places : ℕ) : Type 0 where
  pub left : RowsLeft unbalanced rows
  pub marked : Marked reaching unbalanced places left.groups

-- all rows, as a mask
abbrev pub AllRows : ℕ → ℕ → Type 0
AllRows size mask = (i : ℕ) → bit mask i ≡ ltb i size

-- the rows of a mask that are not in another one
abbrev pub Without : ℕ → ℕ → ℕ → Type 0
Without rows others left = (i : ℕ) → bit left i ≡ (bit rows i && not (bit others i))

-- of each group the rows of its mask that do not reach the place
abbrev pub NotReaching : List ℕ → List ℕ → ℕ → List ℕ → Type 0
NotReaching reaching rows place fewer =
    (g : ℕ) → g ≤ limits.constants → Without (get_or rows g 0) (get_or reaching (6 * g + place) 0) (get_or fewer g 0)
