-- The variables of a pair and its unbalanced constants as they are held (document 01, "From sides to
-- equations"): in ascending order, each with its net count in two parts.
use Rattle.std.specs.Prelude.{ℕ, ◌+◌, ◌-◌, ◌≤◌, ◌<◌, ◌≡◌, Bool, not, ◌&&◌, List, ◌++◌, map, length, replicate, set, ltb, eqb}
use Rattle.ac.specs.Limits.{limits}
use Rattle.ac.specs.Pair.{Mode, count, variables, unbalanced}
use Rattle.pair.specs.Counts.{CountsOf}
use Rattle.pair.specs.declared.Gathered.{Gathered}
use Rattle.pair.specs.declared.counting.AtomCounts.{AtomCounts}
use Rattle.pair.specs.declared.gathering.AtomKind.{AtomKind}
use Rattle.pair.specs.declared.gathering.AtomKind.TheVariants.{Variable, Constant}

-- by how much the occurrences of an atom on one side exceed those on the other. Its net count has two such
-- parts, of which one is 0.
abbrev pub excess : List ℕ → List ℕ → ℕ → ℕ
excess side other atom = count atom side - count atom other

-- the list, and zeros after it up to as many places as a pair may have variables
abbrev pub padded : List ℕ → List ℕ
padded list = list ++ replicate (limits.variables - length list) 0

-- exactly the atoms found are held, how many they are, and by place the two parts of their net counts
pub record Held (L R found : List ℕ) (gathered : Gathered) : Type 0 where
  pub how_many : gathered.count ≡ length found
  pub the_atoms : gathered.atoms ≡ padded found
  pub left_parts : gathered.left ≡ padded (map (excess L R) found)
  pub right_parts : gathered.right ≡ padded (map (excess R L) found)

-- how many were found; where there is room for them, they are held
pub record HeldIfRoom (L R found : List ℕ) (gathered : Gathered) : Type 0 where
  pub how_many : gathered.count ≡ length found
  pub held : length found ≤ limits.variables → Held L R found gathered

-- what makes an atom one of the kind: a variable moves and occurs; an unbalanced constant does not move, and
-- its net count is other than 0
abbrev pub is_of : AtomKind → Bool → ℕ → ℕ → Bool
is_of Variable moves left right = moves && ltb 0 (left + right)
is_of Constant moves left right = not moves && not (eqb left right)

-- the atoms of the kind, ascending
abbrev pub all_of : AtomKind → Mode → List ℕ → List ℕ → List ℕ
all_of Variable M L R = variables M L R
all_of Constant M L R = unbalanced M L R

-- One atom more is counted. Where there is room, it is held behind those before it, with by how much its count on one
-- side exceeds that on the other.
pub record Adds (atom on_left on_right : ℕ) (before after : Gathered) : Type 0 where
  pub how_many : after.count ≡ before.count + 1
  pub the_atom : before.count < limits.variables → after.atoms ≡ set before.atoms before.count atom
  pub left_part : before.count < limits.variables → after.left ≡ set before.left before.count (on_left - on_right)
  pub right_part : before.count < limits.variables → after.right ≡ set before.right before.count (on_right - on_left)

-- the atoms of the kind are gathered of the sides whose atoms were counted
abbrev pub Gathers : AtomKind → AtomCounts → Gathered → Type 0
Gathers kind counts gathered =
    (M : Mode) (L R : List ℕ) → CountsOf M L R counts → HeldIfRoom L R (all_of kind M L R) gathered
