-- Which sets of places rows of the constants, one of each, can reach together, by the masks. A set of places is
-- a number whose bit p is place p, and sets are a mask whose bit s is the set s.
use Rattle.std.specs.Prelude.{ℕ, ◌+◌, ◌*◌, ◌<◌, ◌≤◌, ◌≡◌, true, List, get_or}
use Rattle.std.specs.Int.Bits.{bit_and}
use Rattle.ac.specs.Keys.{bit}

-- a constant from number g on whose row, by its index, is above 0 at the place
pub record ReachedFrom (reaching : List ℕ) (unbalanced g : ℕ) (index : ℕ → ℕ) (place : ℕ) : Type 0 where
  pub constant : ℕ
  pub from_on : g ≤ constant
  pub unbalanced_one : constant < unbalanced
  pub above : bit (get_or reaching (6 * (constant + 1) + place) 0) (index constant) ≡ true

-- an index for each constant from number g on, below the number of its rows
abbrev pub Indexes : List ℕ → ℕ → ℕ → (ℕ → ℕ) → Type 0
Indexes sizes unbalanced g index = (h : ℕ) → g ≤ h → h < unbalanced → index h < get_or sizes (h + 1) 0

-- every set of places up to the largest that such rows reach together is one of these sets
abbrev pub Complete : List ℕ → List ℕ → ℕ → ℕ → ℕ → ℕ → Type 0
Complete reaching sizes unbalanced largest g sets =
    (set : ℕ) → set ≤ largest → (index : ℕ → ℕ) → Indexes sizes unbalanced g index
    → ((p : ℕ) → bit set p ≡ true → ReachedFrom reaching unbalanced g index p)
    → bit sets set ≡ true

-- the sets that were found, and those before an end of which the missed places are one of the later sets
pub record WithRow (found later missed end sets : ℕ) : Type 0 where
  pub kept : (set : ℕ) → bit found set ≡ true → bit sets set ≡ true
  pub added : (set : ℕ) → set < end → bit later (bit_and set missed) ≡ true → bit sets set ≡ true
