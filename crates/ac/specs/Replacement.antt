-- Replacements, which unify, and which come from another (document 01, "What every promise has to say",
-- demand 3; source document 000, section 1.1, in flattened form).
use Rattle.std.specs.Prelude.{ℕ, ◌<◌, ◌≤◌, ◌≡◌, Bool, false, cond, length, leb}
use mathlib.Core.List.{List, [], ◌∷◌, ◌++◌, map, Memᴰ}
use Rattle.ac.specs.Pair.{Mode, count, variables, unbalanced}
use Rattle.ac.specs.Rows.{Group, Groups}
use Rattle.ac.specs.Equation.{SumOf, RowAndSum}

-- A replacement gives each variable a sum: a list of atoms of any name.
abbrev pub Replacement : Type 0
Replacement = ℕ → List ℕ

-- the side with the replacement's list for each atom that moves; the others stay
abbrev pub put : (ℕ → Bool) → Replacement → List ℕ → List ℕ
put moves θ [] = []
put moves θ (a ∷ side) = cond (moves a) (θ a) (a ∷ []) ++ put moves θ side

-- equal as multisets: every atom, of any name, occurs equally often
abbrev pub SameSum : List ℕ → List ℕ → Type 0
SameSum s t = (b : ℕ) → count b s ≡ count b t

-- the sum has an atom, where it has to
abbrev pub NonEmpty : Mode → List ℕ → Type 0
NonEmpty M s = M.empties ≡ false → 0 < length s

-- A replacement unifies the sides if each variable of the pair gets a non-empty sum and the sides become
-- equal as multisets.
pub record Unifies (M : Mode) (L R : List ℕ) (θ : Replacement) : Type 0 where
  pub non_empty : (x : ℕ) → Memᴰ x (variables M L R) → NonEmpty M (θ x)
  pub equal : SameSum (put M.moves θ L) (put M.moves θ R)

-- how often b stands in what each of the variables is replaced by: a vector
abbrev pub occurrences : Replacement → List ℕ → ℕ → List ℕ
occurrences θ variables b = map (λ x. count b (θ x)) variables

-- For each unbalanced constant the replacement is one of its rows and multiples of balanced rows, for each
-- other atom multiples of balanced rows.
pub record Balances (M : Mode) (L R : List ℕ) (G : Groups) (θ : Replacement) : Type 0 where
  pub constants : (g : Group) → Memᴰ g G.constants
      → RowAndSum g.rows G.balanced (occurrences θ (variables M L R) g.constant)
  pub others : (b : ℕ) → (Memᴰ b (unbalanced M L R) → ⊥)
      → SumOf G.balanced (occurrences θ (variables M L R) b)

-- the atoms from the first new variable on
abbrev pub is_new : ℕ → ℕ → Bool
is_new new a = leb new a

-- θ comes from σ on the pair's variables: some non-empty sums for the new variables that occur in σ's values
-- make σ's values θ's.
pub record ComesFrom (M : Mode) (new : ℕ) (L R : List ℕ) (σ θ : Replacement) : Type 0 where
  pub fill : Replacement
  pub filled : (x n : ℕ) → Memᴰ x (variables M L R) → Memᴰ n (σ x) → new ≤ n → NonEmpty M (fill n)
  pub agrees : (x : ℕ) → Memᴰ x (variables M L R) → SameSum (θ x) (put (is_new new) fill (σ x))
