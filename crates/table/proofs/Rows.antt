-- Where the rows of a table stand: each within the room, and no two of them in one place.
use Prim.Native.Nat.{ℕ, zero, suc, ◌+◌, ◌*◌, ◌≤◌, ◌<◌}
use native.Mathlib.Omega.{arith}
use native.Mathlib.Decide.{dec_lt}
use native.Mathlib.Nat.{mul-le-mul}
use mathlib.Core.Path.{◌≡◌}
use mathlib.Core.Logic.{◌⊎◌, inl, inr}
use Rattle.ac.specs.Limits.{limits}
use Rattle.table.specs.Table.{most_rows, group_start, row_start, room_of_rows}

-- a group ends before the next begins
group_ends : (g : ℕ) {i : ℕ} → i < most_rows g → row_start g i + limits.variables ≤ group_start (suc g)
group_ends zero few = omega (arith, few)
group_ends (suc g) few = omega (arith, few)

-- a later group begins later
group_order : (g h : ℕ) → g < h → group_start (suc g) ≤ group_start h
group_order g zero before = absurd (omega (arith, before))
group_order g (suc h) before = omega (arith, before)

-- a row of a group that there may be is within the room of all groups
pub row_fits : (g : ℕ) {i : ℕ} → g ≤ limits.constants → i < most_rows g
    → row_start g i + limits.variables ≤ room_of_rows
row_fits g {i} few_groups few =
    let order : group_start (suc g) ≤ room_of_rows = group_order g (suc limits.constants) (omega arith) in
    omega (arith, group_ends g few, order)

-- the rows of a group, however narrow, end before the next group
pub group_room : (g : ℕ) {count places : ℕ} → count ≤ most_rows g → places ≤ limits.variables
    → group_start g + count * places ≤ group_start (suc g)
group_room zero few narrow = omega (arith, mul-le-mul few narrow)
group_room (suc g) few narrow = omega (arith, mul-le-mul few narrow)

-- a group that there may be begins within the room of all groups, or at its end
pub group_within : (g : ℕ) → g ≤ suc limits.constants → group_start g ≤ room_of_rows
group_within zero few = omega arith
group_within (suc g) few = omega (arith, few)

-- no group may have more rows than the balanced one
pub most_rows_least : (g : ℕ) → most_rows g ≤ limits.balanced_rows
most_rows_least zero = omega arith
most_rows_least (suc g) = omega arith

-- rows of two groups have no place in common
pub rows_apart : {g h i j : ℕ} → (h ≡ g → ⊥) → i < most_rows g → j < most_rows h
    → (row_start h j + limits.variables ≤ row_start g i) ⊎ (row_start g i + limits.variables ≤ row_start h j)
rows_apart {g} {h} {i} {j} differs few few' = go (dec_lt h g)
  where
    go : Dec (h < g)
        → (row_start h j + limits.variables ≤ row_start g i) ⊎ (row_start g i + limits.variables ≤ row_start h j)
    go (yes before) = inl (omega (arith, group_ends h few', group_order h g before))
    go (no not_before) =
        let after : g < h = elim (dec_lt g h) [ yes l ↦ l | no l ↦ absurd (differs (omega arith)) ] in
        inr (omega (arith, group_ends g few, group_order g h after))
