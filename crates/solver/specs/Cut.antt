-- A buffer of rows taken apart again by the sizes that Rows returned: "the balanced rows, then those of each
-- unbalanced constant ascending, one byte for each variable; the size of each group is returned" (document
-- 01, "The questions").
use Rattle.std.specs.Prelude.{ℕ, ◌*◌, List, [], ◌∷◌, take, drop}
use Rattle.equation.specs.Flat.{rows_of}
use Rattle.solver.specs.Rows.{GroupSizes}

-- the size of each group: of the balanced one, and of as many others as there are unbalanced constants
abbrev pub group_sizes : GroupSizes → List ℕ
group_sizes sizes =
    sizes.balanced ∷ take sizes.constants (sizes.first ∷ sizes.second ∷ sizes.third ∷ sizes.fourth ∷ [])

-- groups of these sizes one after the other, their rows of so many bytes each
abbrev pub cut : ℕ → List ℕ → List ℕ → List (List (List ℕ))
cut places [] bytes = []
cut places (size ∷ sizes) bytes = rows_of places size bytes ∷ cut places sizes (drop (size * places) bytes)
