-- The groups of a pair as they are found (document 01, "From sides to equations"): group 0 has the balanced
-- rows, and the groups after it those of each unbalanced constant, ascending.
use Rattle.std.specs.Prelude.{ℕ, zero, suc, ◌≤◌, ◌<◌, ◌≡◌, true, false, Option, MatchOption, length, get_or}
use mathlib.Core.List.{List, Memᴰ}
use Rattle.ac.specs.Lists.{NoneAbove}
use Rattle.ac.specs.Pair.{Mode, unbalanced}
use Rattle.ac.specs.Rows.{Exactly, BalancedRow, RowOf}
use Rattle.ac.specs.Limits.{limits}
use Rattle.pair.specs.Given.{PairGiven}
use Rattle.pair.specs.Parted.{PairOf}
use Rattle.pair.specs.declared.Pair.{Pair}
use Rattle.pair.specs.declared.Gathered.{Gathered}
use Rattle.equation.specs.declared.Offsets.{Offsets}
use Rattle.equation.specs.Flat.{rows_of}
use Rattle.equation.specs.declared.FoundRows.{FoundRows}
use Rattle.table.specs.Rows.{most_rows}
use Rattle.table.specs.Table.{group_in}
use Rattle.table.specs.declared.groups.FoundGroups.{FoundGroups}

-- the pair has no more variables and unbalanced constants than there is room for
pub record Roomy (pair : Pair) : Type 0 where
  pub variables_fit : pair.variables.count ≤ limits.variables
  pub constants_fit : pair.constants.count ≤ limits.constants

-- what is added to the two sums in the equation of a group, and whether all-zero vectors are left out
abbrev pub offsets_in : Gathered → ℕ → Offsets
offsets_in constants zero = record { left = 0; right = 0; homogeneous = true }
offsets_in constants (suc g) =
    record { left = get_or constants.left g 0; right = get_or constants.right g 0; homogeneous = false }

-- a row of a group
abbrev pub RowIn : Mode → List ℕ → List ℕ → ℕ → List ℕ → Type 0
RowIn M L R zero = BalancedRow M L R
RowIn M L R (suc g) = RowOf M L R (get_or (unbalanced M L R) g 0)

-- there are more rows than the limit
pub record More (limit : ℕ) (Row : List ℕ → Type 0) : Type 0 where
  pub rows : List (List ℕ)
  pub exactly : Exactly Row rows
  pub above : limit < length rows

-- exactly the rows of a kind are found, one after the other, or there are more than the limit
abbrev pub FoundUpto : ℕ → (List ℕ → Type 0) → ℕ → Option FoundRows → Type 0
FoundUpto limit Row places found =
    MatchOption found (More limit Row) (λ rows. Exactly Row (rows_of places rows.number rows.rows))

-- the rows of a group are found, for all sides that the pair is of
abbrev pub FindsGroup : Pair → ℕ → Option FoundRows → Type 0
FindsGroup pair group found =
    (M : Mode) (L R : List ℕ) → PairOf M L R pair
    → FoundUpto (most_rows group) (RowIn M L R group) pair.variables.count found

-- the group has the rows that were found one after the other, every other group is as it was, and no byte is above
-- a number that none was above
pub record Spreads (places group count : ℕ) (found before after : List ℕ) : Type 0 where
  pub stored : group_in places after group count ≡ rows_of places count found
  pub others : (other n : ℕ) → (other ≡ group → ⊥) → n ≤ most_rows other
      → group_in places after other n ≡ group_in places before other n
  pub none_above : (most : ℕ) → ((v : List ℕ) → Memᴰ v (rows_of places count found) → NoneAbove most v)
      → NoneAbove most before → NoneAbove most after

-- the groups from the first one on stand at their places, each with its size, and no byte is above a number that no
-- entry of a row is above
pub record GroupsUpto (Row : ℕ → List ℕ → Type 0) (places : ℕ) (rows sizes : List ℕ) (upto : ℕ) : Type 0 where
  pub sizes_fit : (g : ℕ) → get_or sizes g 0 ≤ most_rows g
  pub the_rows : (g : ℕ) → g < upto → Exactly (Row g) (group_in places rows g (get_or sizes g 0))
  pub none_above : (most : ℕ) → ((g : ℕ) (v : List ℕ) → Row g v → NoneAbove most v) → NoneAbove most rows

-- all groups of the pair stand at their places, or number 12 is given
abbrev pub GroupsFound : Mode → List ℕ → List ℕ → ℕ → Option FoundGroups → Type 0
GroupsFound M L R places found =
    MatchOption found (PairGiven limits M L R 12)
    (λ groups. GroupsUpto (RowIn M L R) places groups.rows groups.sizes (suc (length (unbalanced M L R))))

-- all groups are found, for all sides that the pair is of
abbrev pub FindsGroups : Pair → Option FoundGroups → Type 0
FindsGroups pair found =
    (M : Mode) (L R : List ℕ) → PairOf M L R pair → GroupsFound M L R pair.variables.count found
