-- A value as runs: for each row that a key takes its atom, as often as the row says at a place (document 01,
-- "From sides to equations").
use Rattle.std.specs.Prelude.{ℕ, zero, suc, ◌+◌, ◌-◌, ◌≤◌, cond, List, [], ◌++◌, ltb, get_or, replicate}
use Rattle.ac.specs.Keys.{layout, bit, field_at}
use Rattle.table.specs.Table.{row_start}
use Rattle.table.specs.declared.Table.{Table}
use Rattle.list.specs.declared.KeyedSelection.{KeyedSelection}

-- for each number below n its atom, as often as `times` says
abbrev pub runs : ℕ → (ℕ → ℕ) → (ℕ → ℕ) → List ℕ
runs zero times atom = []
runs (suc n) times atom = runs n times atom ++ replicate (times n) (atom n)

-- how many atoms those are
abbrev pub total : ℕ → (ℕ → ℕ) → ℕ
total zero times = 0
total (suc n) times = total n times + times n

-- the first for the numbers below n, and from there on the second, counted anew
abbrev pub in_turn : ℕ → (ℕ → ℕ) → (ℕ → ℕ) → ℕ → ℕ
in_turn n first second j = cond (ltb j n) (first j) (second (j - n))

-- how often the row that the key takes of constant number g names it at the place
abbrev pub constant_times : List ℕ → ℕ → ℕ → ℕ → ℕ
constant_times rows key place g = get_or rows (row_start (suc g) (field_at layout key g) + place) 0

-- how often balanced row i, if it is taken, names its new variable at the place
abbrev pub balanced_times : List ℕ → ℕ → ℕ → ℕ → ℕ
balanced_times rows key place i = cond (bit key i) (get_or rows (row_start 0 i + place) 0) 0

-- the selection that a key names of a table
abbrev pub selection_in : Table → ℕ → KeyedSelection
selection_in t key =
    record { key = key; constants = t.constants; unbalanced = t.unbalanced; balanced = get_or t.sizes 0 0 }

-- a key has room for so many unbalanced constants and balanced rows
abbrev pub Fit : KeyedSelection → Type 0
Fit s = (s.unbalanced ≤ layout.constants) × (s.balanced ≤ layout.rows)

-- a run for each unbalanced constant, ascending, and after them one for each balanced row
abbrev pub run_count : KeyedSelection → ℕ
run_count s = s.unbalanced + s.balanced

-- how often a run names its atom at the place
abbrev pub times_at : List ℕ → KeyedSelection → ℕ → ℕ → ℕ
times_at rows s place =
    in_turn s.unbalanced (constant_times rows s.key place) (balanced_times rows s.key place)

-- the atom of a run: the constant, or the new variable of the balanced row
abbrev pub atom_of : KeyedSelection → ℕ → ℕ
atom_of s = in_turn s.unbalanced (λ g. get_or s.constants g 0) (λ i. layout.new + i)

-- the atoms of the value at a place, and how many they are
abbrev pub atoms_at : List ℕ → KeyedSelection → ℕ → List ℕ
atoms_at rows s place = runs (run_count s) (times_at rows s place) (atom_of s)

abbrev pub length_at : List ℕ → KeyedSelection → ℕ → ℕ
length_at rows s place = total (run_count s) (times_at rows s place)
