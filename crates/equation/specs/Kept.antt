-- Which rows are found so far (document 01, "From sides to equations": "Within a group rows stand in
-- ascending order"). The walk goes through the vectors in that order, so the rows found are at any time those
-- before a prefix.
use Rattle.std.specs.Prelude.{ℕ, ◌≤◌, ◌<◌, ◌≡◌, length, Option, Some, None, IfSome}
use mathlib.Core.List.{List, [], ◌∷◌, Memᴰ}
use Rattle.ac.specs.Lists.{Ascending}
use Rattle.ac.specs.Rows.{Exactly, ◌≺◌, ◌≼◌}
use Rattle.ac.specs.Equation.{Equation, Solves, Minimal}
use Rattle.equation.specs.Flat.{rows_of}

-- more rows of a kind than a limit
pub record MoreThan (limit : ℕ) (Row : List ℕ → Type 0) : Type 0 where
  pub rows : List (List ℕ)
  pub ascending : Ascending ◌≺◌ rows
  pub only : (v : List ℕ) → Memᴰ v rows → Row v
  pub many : limit < length rows

-- The bytes hold the rows of a kind: if they are at most `limit`, their number is there, and exactly they; else none
-- says that there are more.
abbrev pub HoldsRows : (limit places : ℕ) (Row : List ℕ → Type 0) (bytes : List ℕ) → Option ℕ → Type 0
HoldsRows limit places Row bytes (Some n) = (n ≤ limit) × Exactly Row (rows_of places n bytes)
HoldsRows limit places Row bytes None = MoreThan limit Row

-- v begins with the prefix, or stands before all that do
pub data Upto : List ℕ → List ℕ → Type 0 where
  begins : {v : List ℕ} → Upto [] v
  here : {m n : ℕ} {p v : List ℕ} → m < n → Upto (n ∷ p) (m ∷ v)
  later : {n : ℕ} {p v : List ℕ} → Upto p v → Upto (n ∷ p) (n ∷ v)

module _ (E : Equation) (prefix : List ℕ) where
  -- the rows that stand before all vectors with the prefix
  abbrev pub RowBefore : List ℕ → Type 0
  RowBefore v = Minimal E v × (v ≺ prefix)

  -- and with them those that begin with it
  abbrev pub RowUpto : List ℕ → Type 0
  RowUpto v = Minimal E v × Upto prefix v

  -- where the bytes held the rows before the prefix, they hold those up to it, unless these are more than the limit
  abbrev pub Advances : ℕ → List ℕ → ℕ → List ℕ → Option ℕ → Type 0
  Advances limit bytes n bytes' n' =
      Exactly RowBefore (rows_of (length E.left) n bytes) → HoldsRows limit (length E.left) RowUpto bytes' n'

-- "Any row found before may be the lower one": some row found is at or below the vector in every place.
pub record Lower (rows : List (List ℕ)) (v : List ℕ) : Type 0 where
  pub row : List ℕ
  pub found : Memᴰ row rows
  pub below : row ≼ v

-- A vector that solves an equation has been kept, if it is a row: the rows before it were held, and those up
-- to it are.
pub record Keeps (limit : ℕ) (v bytes : List ℕ) (n : ℕ) (bytes' : List ℕ) (n' : Option ℕ) : Type 0 where
  pub counted : IfSome n' (λ m. m ≤ limit)
  pub found : (E : Equation) → length v ≡ length E.left → Solves E v → Advances E v limit bytes n bytes' n'
