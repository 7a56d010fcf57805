-- Selections, which are admissible, and the values they give (document 01, "From sides to equations").
use Rattle.std.specs.Prelude.{ℕ, zero, suc, ◌<◌, ◌≡◌, Bool, true, false, ◌&&◌, ◌||◌, List, [], ◌∷◌, ◌++◌, length, get_or, replicate, ltb, eqb}
use Rattle.ac.specs.Pair.{Mode, variables}
use Rattle.ac.specs.Rows.{Group, Groups}

-- A selection takes one row for each unbalanced constant, by its index, and any set of balanced rows, by a
-- truth value for each.
pub record Selection : Type 0 where
  pub indexes : List ℕ
  pub takes : List Bool

-- an index for each constant, below the number of its rows
pub data Within : List Group → List ℕ → Type 0 where
  none : Within [] []
  index : {g : Group} {gs : List Group} {i : ℕ} {is : List ℕ} → i < length g.rows → Within gs is
      → Within (g ∷ gs) (i ∷ is)

-- the selection has a row for each constant of the groups and a truth value for each of their balanced rows
pub record SelectionOf (G : Groups) (s : Selection) : Type 0 where
  pub a_row_each : Within G.constants s.indexes
  pub a_truth_each : length s.takes ≡ length G.balanced

-- a taken row with the atom that it belongs to: its constant, or the new variable of a balanced row
pub record Taken : Type 0 where
  pub atom : ℕ
  pub row : List ℕ

-- the taken rows of the constants, ascending
abbrev pub taken_rows : List Group → List ℕ → List Taken
taken_rows [] is = []
taken_rows (g ∷ gs) [] = []
taken_rows (g ∷ gs) (i ∷ is) = record { atom = g.constant; row = get_or g.rows i [] } ∷ taken_rows gs is

-- the taken balanced rows, where new variable n and those after it belong to the rows, taken or not
abbrev pub taken_balanced : ℕ → List (List ℕ) → List Bool → List Taken
taken_balanced n [] ts = []
taken_balanced n (r ∷ rs) [] = []
taken_balanced n (r ∷ rs) (true ∷ ts) = record { atom = n; row = r } ∷ taken_balanced (suc n) rs ts
taken_balanced n (r ∷ rs) (false ∷ ts) = taken_balanced (suc n) rs ts

-- all taken rows, in the order in which a value names their atoms; new is the first new variable, n0
abbrev pub taken : ℕ → Groups → Selection → List Taken
taken new G s = taken_rows G.constants s.indexes ++ taken_balanced new G.balanced s.takes

-- the value at a place: each taken row's atom, as often as that row says there
abbrev pub value_at : List Taken → ℕ → List ℕ
value_at [] i = []
value_at (t ∷ ts) i = replicate (get_or t.row i 0) t.atom ++ value_at ts i

-- the place is above 0 in at least one taken row
abbrev pub reached : List Taken → ℕ → Bool
reached [] i = false
reached (t ∷ ts) i = ltb 0 (get_or t.row i 0) || reached ts i

-- every place below k is reached
abbrev pub all_reached : List Taken → ℕ → Bool
all_reached ts zero = true
all_reached ts (suc k) = all_reached ts k && reached ts k

-- every balanced row is taken
abbrev pub all_taken : List Bool → Bool
all_taken [] = true
all_taken (t ∷ ts) = t && all_taken ts

-- the place of a variable among the variables
abbrev pub place_of : ℕ → List ℕ → ℕ
place_of x [] = 0
place_of x (y ∷ ys) = elim (eqb x y) [ true ↦ 0 | false ↦ suc (place_of x ys) ]

module _ (M : Mode) (new : ℕ) (L R : List ℕ) (G : Groups) where
  -- It is admissible if each variable is above 0 in at least one taken row; where a variable may be empty, if
  -- all balanced rows are taken.
  abbrev pub admissible : Selection → Bool
  admissible s = elim M.empties [
    | true ↦ all_taken s.takes
    | false ↦ all_reached (taken new G s) (length (variables M L R))
  ]

  -- A variable's value: each unbalanced constant, ascending, as often as its taken row says; then n0, n1 and
  -- so on, each as often as that row says.
  abbrev pub value : Selection → ℕ → List ℕ
  value s x = value_at (taken new G s) (place_of x (variables M L R))
