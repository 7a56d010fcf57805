-- How many rows a group may have, and where they begin: the places are fixed, whatever the pair's variables and rows.
use Rattle.std.specs.Prelude.{ℕ, zero, suc, ◌+◌, ◌*◌}
use Rattle.ac.specs.Limits.{limits}

-- the most rows of a group: the balanced rows are group 0, those of each unbalanced constant the groups after it
abbrev pub most_rows : ℕ → ℕ
most_rows zero = limits.balanced_rows
most_rows (suc g) = limits.constant_rows

-- Where group g begins: each group has room for as many rows as it may have.
abbrev pub group_start : ℕ → ℕ
group_start zero = 0
group_start (suc g) = limits.variables * limits.balanced_rows + limits.variables * limits.constant_rows * g

-- Where row i of group g begins.
abbrev pub row_start : ℕ → ℕ → ℕ
row_start g i = group_start g + limits.variables * i

-- the room of all groups: where one more would begin
abbrev pub room_of_rows : ℕ
room_of_rows = group_start (suc limits.constants)
