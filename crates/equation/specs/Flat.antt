-- Rows as bytes: "one byte for each variable", one row after the other (document 01, "The questions", Rows).
use Rattle.std.specs.Prelude.{ℕ, zero, suc, List, [], ◌∷◌, take, drop}

-- the first n rows, of so many places each
abbrev pub rows_of : ℕ → ℕ → List ℕ → List (List ℕ)
rows_of places zero bytes = []
rows_of places (suc n) bytes = take places bytes ∷ rows_of places n (drop places bytes)
