-- The values of a selection place by place, each with its variable.
use Rattle.std.specs.Prelude.{ℕ, zero, suc, List, [], ◌∷◌, ◌++◌, get_or}
use Rattle.ac.specs.Values.{Binding}

-- the variables before place n, each with the atoms at its place
abbrev pub bindings_below : List ℕ → (ℕ → List ℕ) → ℕ → List Binding
bindings_below variables atoms zero = []
bindings_below variables atoms (suc n) =
    bindings_below variables atoms n ++ (record { variable = get_or variables n 0; value = atoms n } ∷ [])
