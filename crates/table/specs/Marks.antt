-- What a mask says of numbers, of rows and of places, whatever table it is of.
use Rattle.std.specs.Prelude.{ℕ, ◌+◌, ◌*◌, ◌-◌, ◌/◌, ◌%◌, ◌^◌, ◌<◌, ◌≤◌, ◌≡◌, Bool, cond, ◌&&◌, List, ltb, eqb, get_or}
use Rattle.std.specs.Int.Bits.{bit_and}
use Rattle.ac.specs.Keys.{bit}
use Rattle.table.specs.Rows.{row_start}
use Rattle.table.specs.Choices.{Complete}

-- a test of the numbers below an end, by what may be answered of each of them
abbrev pub Tests : (ℕ → Bool → Type 0) → ℕ → (ℕ → Bool) → Type 0
Tests Answer end test = (i : ℕ) (b : Bool) → i < end → Answer i b → b ≡ test i

-- a mask of those of the numbers below an end that pass a test
pub record MarkedTo (test : ℕ → Bool) (end mask : ℕ) : Type 0 where
  pub small : mask < 2 ^ end
  pub marks : (j : ℕ) → bit mask j ≡ (ltb j end && test j)

-- bit i of a mask is set exactly where row i of group g of a table is above 0 at the place, entry by entry
abbrev pub MarksIn : List ℕ → ℕ → ℕ → ℕ → ℕ → Type 0
MarksIn rows g size place mask =
    (i : ℕ) → bit mask i ≡ (ltb i size && ltb 0 (get_or rows (row_start g i + place) 0))

-- the mask that stands at a place of the array of masks, by its group and its place
abbrev pub MarksAt : List ℕ → List ℕ → ℕ → ℕ → Type 0
MarksAt rows sizes at mask = MarksIn rows (at / 6) (get_or sizes (at / 6) 0) (at % 6) mask

-- the places that a listed selection has to reach: each variable's; where a variable may be empty, none
abbrev pub places_to_reach : Bool → ℕ → ℕ
places_to_reach empties places = cond empties 0 places

-- the balanced rows that it has to take, as a mask: none; where a variable may be empty, all of them
abbrev pub rows_to_take : Bool → ℕ → ℕ
rows_to_take empties balanced = cond empties (2 ^ balanced - 1) 0

-- the places at which none of these rows of group g is above 0
abbrev pub MissedBy : List ℕ → ℕ → ℕ → ℕ → ℕ → Type 0
MissedBy reaching places g rows set =
    (p : ℕ) → bit set p ≡ (ltb p places && eqb (bit_and (get_or reaching (6 * g + p) 0) rows) 0)

-- the places that no balanced row reaches, and for each number sets of them: all that rows of the constants from
-- that number on reach together are among them
pub record SetsOf (reaching sizes : List ℕ) (unbalanced places unreached : ℕ) (choices : List ℕ) : Type 0 where
  pub the_unreached : MissedBy reaching places 0 65535 unreached
  pub the_choices : (g : ℕ) → g ≤ unbalanced
      → Complete reaching sizes unbalanced unreached g (get_or choices g 0)
