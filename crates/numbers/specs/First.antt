-- Which number is the answer, of those that are given: "Order: 16 first, then by number. None is given otherwise."
-- (document 01, "Numbers given in place of a result").
use Rattle.std.specs.Prelude.{ℕ, List, [], ◌∷◌}

-- the first number of a question's list, which is in order, that is given
pub data First (Given : ℕ → Type 0) : List ℕ → ℕ → Type 0 where
  here : {n : ℕ} {ns : List ℕ} → Given n → First Given (n ∷ ns) n
  later : {n m : ℕ} {ns : List ℕ} → (Given n → ⊥) → First Given ns m → First Given (n ∷ ns) m

-- no number of the list is given
pub data NoneOf (Given : ℕ → Type 0) : List ℕ → Type 0 where
  end : NoneOf Given []
  also : {n : ℕ} {ns : List ℕ} → (Given n → ⊥) → NoneOf Given ns → NoneOf Given (n ∷ ns)
