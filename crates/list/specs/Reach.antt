-- Which places a key reaches.
use Rattle.std.specs.Prelude.{ℕ, zero, suc, ◌+◌, ◌*◌, ◌/◌, ◌%◌, ◌^◌, ◌<◌, ◌≤◌, ◌≡◌, Bool, true, false, ◌||◌, ◌&&◌, List, [], map, leb, length, get_or, take}
use Rattle.ac.specs.Rows.{Group, Groups}
use Rattle.ac.specs.Keys.{layout, bit, field_at}
use Rattle.table.specs.Masks.{group}
use Rattle.table.specs.Table.{row_start}
use Rattle.list.specs.declared.KeyedSelection.{KeyedSelection}

-- some number below n passes the test
abbrev pub any : ℕ → (ℕ → Bool) → Bool
any zero test = false
any (suc n) test = any n test || test n

-- every number below n passes the test
abbrev pub all : ℕ → (ℕ → Bool) → Bool
all zero test = true
all (suc n) test = all n test && test n

-- The selection is one of the groups, and the array holds them, each row with an entry for each place.
pub record HoldsGroups (rows : List ℕ) (places : ℕ) (s : KeyedSelection) (G : Groups) : Type 0 where
  pub how_many_constants : length G.constants ≡ s.unbalanced
  pub how_many_balanced : length G.balanced ≡ s.balanced
  pub the_constants : map (λ (g : Group). g.constant) G.constants ≡ take s.unbalanced s.constants
  pub entries : (g i p : ℕ) → i < length (group G g) → p < places
      → get_or (get_or (group G g) i []) p 0 ≡ get_or rows (row_start g i + p) 0

-- the key takes a balanced row that is one of the mask's
unfoldable pub takes_any : ℕ → ℕ → Bool
takes_any rows key = any layout.rows (λ i. bit key i && bit rows i)

-- the key takes all rows that must be taken, of which there are none or as many as its mask may have: its mask is not
-- below theirs
abbrev pub takes_all : ℕ → ℕ → Bool
takes_all must key = leb must (key % 2 ^ layout.rows)

-- a row that the key takes is above 0 at the place, by the masks: that of a constant, or a balanced one
abbrev pub reaches : List ℕ → ℕ → ℕ → ℕ → Bool
reaches reaching unbalanced place key =
    any unbalanced (λ g. bit (get_or reaching (6 * (g + 1) + place) 0) (field_at layout key g))
    || takes_any (get_or reaching place 0) key

-- no row below this one is one of the mask's
abbrev pub NoRowBelow : ℕ → ℕ → Type 0
NoRowBelow rows lowest = (i : ℕ) → i < lowest → bit rows i ≡ false

-- from the key on, up to the end of the keys that have its row indexes
abbrev pub InTuple : ℕ → ℕ → Type 0
InTuple key first = (key ≤ first) × (first ≤ (key / 2 ^ layout.rows + 1) * 2 ^ layout.rows)

-- the first number from the key on that may pass a test: the key itself only if it passes, and none before it
-- does
pub record Weighs (passes : ℕ → Bool) (key first : ℕ) : Type 0 where
  pub itself : first ≡ key → passes key ≡ true
  pub none_before : (other : ℕ) → key ≤ other → other < first → passes other ≡ false
