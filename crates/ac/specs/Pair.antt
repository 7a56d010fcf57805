-- A pair of flattened sides: its atoms, their occurrences and net counts (document 01, "From sides to equations").
use Rattle.std.specs.Prelude.{ℕ, ◌+◌, ◌<◌, Bool, true, false, not, cond, ◌&&◌, eqb, ltb, ℤ, pos, ◌-ℤ◌}
use mathlib.Core.List.{List, [], ◌∷◌, Memᴰ}
use Rattle.ac.specs.Lists.{below, filter}

-- Which atoms may move, whether a variable may be replaced by nothing, and whether no variable may stand on both
-- sides. Every atom that does not move counts as a constant.
pub record Mode : Type 0 where
  pub moves : ℕ → Bool
  pub empties : Bool
  pub separate : Bool

-- 0 to 63 are variables
abbrev pub is_variable : ℕ → Bool
is_variable a = ltb a 64

-- all of them move; there is no identity, so no value is empty
abbrev pub unifying : Mode
unifying = record { moves = is_variable; empties = false; separate = false }

-- Atoms are bytes: 0 to 63 and 64 to 127.
abbrev pub atoms : List ℕ
atoms = below 128

-- a flattened side: a list of such atoms
abbrev pub IsSide : List ℕ → Type 0
IsSide side = (a : ℕ) → Memᴰ a side → a < 128

-- 1 if the two atoms are the same, else 0
abbrev pub same : ℕ → ℕ → ℕ
same a b = cond (eqb a b) 1 0

-- the occurrences of an atom on a side
abbrev pub count : ℕ → List ℕ → ℕ
count a [] = 0
count a (b ∷ side) = same a b + count a side

-- Matching against a fixed subject (document 02, R-4): "the subject's variables must not move", so those of the left
-- side move, and those of the right side count as constants
abbrev pub matching : List ℕ → Mode
matching L = record { moves = λ a. is_variable a && ltb 0 (count a L); empties = false; separate = true }

-- Sums with an identity (document 02, R-10): all variables move, and "a variable may be empty"
abbrev pub identity : Mode
identity = record { moves = is_variable; empties = true; separate = false }

-- An atom's net count is its occurrences on the left minus those on the right; it may be negative.
abbrev pub net : List ℕ → List ℕ → ℕ → ℤ
net L R a = pos (count a L) -ℤ pos (count a R)

-- the atom stands on one of the sides
abbrev pub occurs : List ℕ → List ℕ → ℕ → Bool
occurs L R a = ltb 0 (count a L + count a R)

module _ (M : Mode) (L R : List ℕ) where
  -- Variables are all distinct variables of the two sides, ascending, those with net count 0 included.
  abbrev pub variables : List ℕ
  variables = filter (λ a. M.moves a && occurs L R a) atoms

  -- An unbalanced constant has net count other than 0; ascending.
  abbrev pub unbalanced : List ℕ
  unbalanced = filter (λ a. not (M.moves a) && not (eqb (count a L) (count a R))) atoms
