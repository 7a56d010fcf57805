-- How many unifiers there are, without listing them (document 02, R-7): "worked out from which rows reach which
-- variables and by no walk through the keys". `proofs/Counting.antt` shows that it is the length of the list.
use Rattle.std.specs.Prelude.{ℕ, zero, suc, ◌-◌, ◌*◌, ◌^◌, Bool, true, false, not, List, [], ◌∷◌, map, length, get_or, ltb}
use Rattle.ac.specs.Lists.{every, filter}
use Rattle.ac.specs.Pair.{Mode, variables}
use Rattle.ac.specs.Rows.{Group, Groups}

-- the product of some numbers
abbrev pub product : List ℕ → ℕ
product [] = 1
product (n ∷ ns) = n * product ns

-- the product of the constants' group sizes
abbrev pub sizes_product : List Group → ℕ
sizes_product gs = product (map (λ (g : Group). length g.rows) gs)

-- How many selections there are: the product of the constants' group sizes and of two for each balanced row.
abbrev pub selection_count : Groups → ℕ
selection_count G = sizes_product G.constants * 2 ^ length G.balanced

-- how many members pass the test
abbrev pub how_many : {A : Type 0} → (A → Bool) → List A → ℕ
how_many passes members = length (filter passes members)

-- the row reaches none of the places: it is above 0 at none of them
abbrev pub misses : List ℕ → List ℕ → Bool
misses places row = every (λ place. not (ltb 0 (get_or row place 0))) places

-- how many of the rows reach none of the places
abbrev pub rows_missing : List ℕ → List (List ℕ) → ℕ
rows_missing places rows = how_many (misses places) rows

-- how many ways there are to take such a row for each constant: the product over the constants
abbrev pub tuples_missing : List ℕ → List Group → ℕ
tuples_missing places gs = product (map (λ (g : Group). rows_missing places g.rows) gs)

-- How many selections reach none of the places: such a row for each constant, and any set of such balanced rows.
abbrev pub selections_missing : List ℕ → Groups → ℕ
selections_missing places G = tuples_missing places G.constants * 2 ^ rows_missing places G.balanced

-- How many selections reach each of the first k places and none of some others: of those that reach all but the last of
-- the k, the ones that do not miss it.
abbrev pub selections_reaching : Groups → ℕ → List ℕ → ℕ
selections_reaching G zero missed = selections_missing missed G
selections_reaching G (suc k) missed = selections_reaching G k missed - selections_reaching G k (k ∷ missed)

-- How many selections are admissible: those that reach every variable; where a variable may be empty, one for each way
-- to take a row for each constant, for all balanced rows are taken.
abbrev pub admissible_count : Mode → List ℕ → List ℕ → Groups → ℕ
admissible_count M L R G = elim M.empties [
  | true ↦ tuples_missing [] G.constants
  | false ↦ selections_reaching G (length (variables M L R)) []
]
