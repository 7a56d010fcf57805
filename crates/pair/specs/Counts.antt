-- What is counted of two sides: "for an atom, its net count is its occurrences on the left minus those on the
-- right" (document 01, "From sides to equations"). Each table has a place for each atom.
use Rattle.std.specs.Prelude.{ℕ, ◌≡◌, Bool, true, false, List, ltb, length, get_or, Option, Some, None}
use Rattle.ac.specs.Pair.{Mode, atoms, count}
use Rattle.ac.specs.Limits.{limits}
use Rattle.numbers.specs.Tells.{Tells}
use Rattle.pair.specs.Given.{LowestFar, PairGiven}
use Rattle.pair.specs.Ways.{mode_of}
use Rattle.pair.specs.declared.ways.Way.{Way}
use Rattle.pair.specs.declared.ways.Way.TheVariants.{Unifying, Matching, Identity}
use Rattle.pair.specs.declared.counting.AtomCounts.{AtomCounts}

-- the table has the occurrences of each atom on the side
pub record Occurrences (side table : List ℕ) : Type 0 where
  pub places : length table ≡ length atoms
  pub entries : (atom : ℕ) → get_or table atom 0 ≡ count atom side

-- the table says of each atom whether it moves
abbrev pub Moves : Mode → List Bool → Type 0
Moves M table = (atom : ℕ) → get_or table atom false ≡ M.moves atom

-- whether a variable moves that stands so often on the left
abbrev pub variable_moves : Way → ℕ → Bool
variable_moves Unifying left = true
variable_moves Matching left = ltb 0 left
variable_moves Identity left = true

-- it says whether 19 is given of the sides whose atoms were counted
abbrev pub TellsShared : Way → List ℕ → List ℕ → Bool → Type 0
TellsShared way lefts rights told = (L R : List ℕ) → Occurrences L lefts → Occurrences R rights
    → Tells (PairGiven limits (mode_of way L R) L R 19) told

-- the tables are those of the sides
pub record CountsOf (M : Mode) (L R : List ℕ) (counts : AtomCounts) : Type 0 where
  pub moves : Moves M counts.moving
  pub on_left : Occurrences L counts.left
  pub on_right : Occurrences R counts.right

-- it is the lowest atom whose net count is further than 8 from 0, or number 10 is not given
pub data SettlesTen (M : Mode) (L R : List ℕ) : Option ℕ → Type 0 where
  a_far_one : {atom : ℕ} → LowestFar limits L R atom → SettlesTen M L R (Some atom)
  all_near : (PairGiven limits M L R 10 → ⊥) → SettlesTen M L R None

-- so it is of the sides whose atoms were counted
abbrev pub FindsFar : AtomCounts → Option ℕ → Type 0
FindsFar counts found = (M : Mode) (L R : List ℕ) → CountsOf M L R counts → SettlesTen M L R found
