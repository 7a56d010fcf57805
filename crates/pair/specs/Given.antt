-- The numbers 7 to 12 (document 01, "Numbers given in place of a result") and 19 (document 02, R-4): when each is given,
-- of any two sides, and which atom 10 names.
use Rattle.std.specs.Prelude.{ℕ, ◌<◌, ◌≡◌, true, cond, ◌⊎◌, length, nat_abs}
use mathlib.Core.List.{List, Memᴰ}
use Rattle.ac.specs.Pair.{Mode, is_variable, net, variables, unbalanced}
use Rattle.ac.specs.Rows.{Group, Groups, GroupsOf}
use Rattle.ac.specs.Limits.{Limits}

-- one of the two sides
pub data SideOf (L R : List ℕ) : List ℕ → Type 0 where
  left : SideOf L R L
  right : SideOf L R R

-- the least atoms of a side: where a variable may be empty, "a side may have no atoms" (document 02, R-10)
abbrev pub least_atoms : Limits → Mode → ℕ
least_atoms limits M = cond M.empties 0 limits.least_atoms

-- fewer atoms than the least, or more than 64
abbrev pub WrongLength : Limits → ℕ → List ℕ → Type 0
WrongLength limits least side = (length side < least) ⊎ (limits.most_atoms < length side)

-- it holds a byte above 127
pub record WrongByte (limits : Limits) (side : List ℕ) : Type 0 where
  pub byte : ℕ
  pub held : Memᴰ byte side
  pub above : limits.highest_atom < byte

-- the atom's net count is further than 8 from 0
abbrev pub Far : Limits → List ℕ → List ℕ → ℕ → Type 0
Far limits L R atom = limits.net_count < nat_abs (net L R atom)

-- the lowest atom whose net count is further than 8 from 0 (document 02, R-2): variables are the lower bytes
pub record LowestFar (limits : Limits) (L R : List ℕ) (atom : ℕ) : Type 0 where
  pub far : Far limits L R atom
  pub lowest : (lower : ℕ) → lower < atom → Far limits L R lower → ⊥

-- more than 16 balanced rows, or more than 16 for one constant
pub data ManyRows (limits : Limits) (G : Groups) : Type 0 where
  balanced : limits.balanced_rows < length G.balanced → ManyRows limits G
  of_a_constant : {g : Group} → Memᴰ g G.constants → limits.constant_rows < length g.rows
      → ManyRows limits G

-- a variable stands on both sides
pub record OnBothSides (L R : List ℕ) : Type 0 where
  pub variable : ℕ
  pub is_variable : is_variable variable ≡ true
  pub on_left : Memᴰ variable L
  pub on_right : Memᴰ variable R

-- A constructor for each row of the table. Each says when its number is given, whatever else is wrong with
-- the sides.
pub data PairGiven (limits : Limits) (M : Mode) (L R : List ℕ) : ℕ → Type 0 where
  -- a side has 0 or more than 64 atoms; where a variable may be empty, only more than 64
  side_length : {side : List ℕ} → SideOf L R side → WrongLength limits (least_atoms limits M) side
      → PairGiven limits M L R 7
  -- a side holds a byte above 127
  no_atom : {side : List ℕ} → SideOf L R side → WrongByte limits side → PairGiven limits M L R 8
  -- a variable on both sides, where none may stand there (document 02, R-4), whatever its net count
  on_both_sides : M.separate ≡ true → OnBothSides L R → PairGiven limits M L R 19
  -- more than 6 distinct variables
  many_variables : limits.variables < length (variables M L R) → PairGiven limits M L R 9
  -- a net count further than 8 from 0
  far_net_count : (atom : ℕ) → Far limits L R atom → PairGiven limits M L R 10
  -- more than 4 unbalanced constants
  many_constants : limits.constants < length (unbalanced M L R) → PairGiven limits M L R 11
  -- more than 16 balanced rows, or more than 16 for one constant
  many_rows : {G : Groups} → GroupsOf M L R G → ManyRows limits G → PairGiven limits M L R 12
