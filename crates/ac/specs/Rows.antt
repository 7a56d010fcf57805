-- Vectors, weights and rows (document 01, "From sides to equations"). Rows are minimal among all vectors;
-- nothing here is bounded.
use Rattle.std.specs.Prelude.{ℕ, zero, suc, ◌≤◌, ◌<◌, ◌≡◌, length, ℤ, pos, neg_ℤ, ◌+ℤ◌, ◌*ℤ◌}
use mathlib.Core.List.{List, [], ◌∷◌, map, Memᴰ}
use Rattle.ac.specs.Lists.{Ascending, sum}
use Rattle.ac.specs.Pair.{Mode, net, variables, unbalanced}

-- A vector gives each variable a natural number: a list with a number for each variable, in their order.
abbrev pub IsVector : List ℕ → List ℕ → Type 0
IsVector variables v = length v ≡ length variables

-- Its weight is the sum over the variables of net count times number.
abbrev pub weigh : (ℕ → ℤ) → List ℕ → List ℕ → ℤ
weigh net [] v = pos 0
weigh net (x ∷ xs) [] = pos 0
weigh net (x ∷ xs) (n ∷ v) = net x *ℤ pos n +ℤ weigh net xs v

-- u is at or below v in every place
pub data ◌≼◌ : List ℕ → List ℕ → Type 0 where
  none : [] ≼ []
  place : {m n : ℕ} {u v : List ℕ} → m ≤ n → u ≼ v → (m ∷ u) ≼ (n ∷ v)

infix 4 ◌≼◌
-- v has the property, and no other vector at or below it has
pub record Least (Has : List ℕ → Type 0) (v : List ℕ) : Type 0 where
  pub has : Has v
  pub no_other : (u : List ℕ) → u ≼ v → Has u → u ≡ v

-- At the first place that differs, the smaller number comes first.
pub data ◌≺◌ : List ℕ → List ℕ → Type 0 where
  here : {m n : ℕ} {u v : List ℕ} → m < n → (m ∷ u) ≺ (n ∷ v)
  later : {n : ℕ} {u v : List ℕ} → u ≺ v → (n ∷ u) ≺ (n ∷ v)

infix 4 ◌≺◌
-- The rows of a group: one list in ascending order, whose members are exactly the rows.
pub record Exactly (Row : List ℕ → Type 0) (rows : List (List ℕ)) : Type 0 where
  pub ascending : Ascending ◌≺◌ rows
  pub only : (v : List ℕ) → Memᴰ v rows → Row v
  pub all : (v : List ℕ) → Row v → Memᴰ v rows

module _ (M : Mode) (L R : List ℕ) where
  -- the weight over the pair's variables
  abbrev pub weight : List ℕ → ℤ
  weight = weigh (net L R) (variables M L R)

  -- A balanced row is a vector, not all zero, of weight 0, such that no other vector, not all zero and of
  -- weight 0, is at or below it.
  pub record BalancedRow (v : List ℕ) : Type 0 where
    pub vector : IsVector (variables M L R) v
    pub least : Least (λ u. (0 < sum u) × (weight u ≡ pos 0)) v

  -- A row of a constant is a vector whose weight is minus the constant's net count, such that no other vector
  -- of that weight is at or below it.
  pub record RowOf (c : ℕ) (v : List ℕ) : Type 0 where
    pub vector : IsVector (variables M L R) v
    pub least : Least (λ u. weight u ≡ neg_ℤ (net L R c)) v

-- an unbalanced constant with its rows
pub record Group : Type 0 where
  pub constant : ℕ
  pub rows : List (List ℕ)

-- the rows of group number n, counted from 0
abbrev pub rows_at : List Group → ℕ → List (List ℕ)
rows_at [] n = []
rows_at (g ∷ gs) zero = g.rows
rows_at (g ∷ gs) (suc n) = rows_at gs n

-- the groups of a pair: the balanced rows, and those of each unbalanced constant, ascending
pub record Groups : Type 0 where
  pub balanced : List (List ℕ)
  pub constants : List Group

-- These are the groups of the pair: exactly the balanced rows, and for each unbalanced constant exactly its rows.
pub record GroupsOf (M : Mode) (L R : List ℕ) (G : Groups) : Type 0 where
  pub balanced_rows : Exactly (BalancedRow M L R) G.balanced
  pub the_constants : map (λ (g : Group). g.constant) G.constants ≡ unbalanced M L R
  pub constant_rows : (g : Group) → Memᴰ g G.constants → Exactly (RowOf M L R g.constant) g.rows
