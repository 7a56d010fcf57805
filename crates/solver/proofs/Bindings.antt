-- What is put place by place are the bindings of the key's selection.
use Prim.Native.Nat.{ℕ, zero, suc, ◌<◌, ◌≤◌}
use native.Mathlib.Omega.{arith}
use mathlib.Core.Path.{◌≡◌, refl, sym, ◌∙◌, ap, ap₂}
use mathlib.Core.List.{List, [], ◌∷◌, ◌++◌}
use lib.ListN.{length, get_or, take}
use lib.Seq.{take-suc, take-length}
use Rattle.ac.specs.Pair.{Mode, variables}
use Rattle.ac.specs.Rows.{Groups}
use Rattle.ac.specs.Selection.{taken, value_at, value}
use Rattle.ac.specs.Keys.{layout, selection_at, Candidate, Fits}
use Rattle.ac.specs.Values.{Binding, bindings}
use Rattle.ac.proofs.Places.{place_of-get_or}
use Rattle.ac.proofs.Replaced.{variables_ascending}
use Rattle.list.specs.Runs.{atoms_at}
use Rattle.list.specs.Reach.{HoldsGroups}
use Rattle.list.specs.declared.KeyedSelection.{KeyedSelection}
use Rattle.list.proofs.Runs.{atoms_value}
use Rattle.solver.specs.Bindings.{bindings_below}

-- bindings taken one after the other
bindings-append : (σ : ℕ → List ℕ) (xs : List ℕ) (x : ℕ)
    → bindings σ (xs ++ (x ∷ [])) ≡ bindings σ xs ++ (record { variable = x; value = σ x } ∷ [])
bindings-append σ [] x = refl
bindings-append σ (y ∷ xs) x = ap (λ l. record { variable = y; value = σ y } ∷ l) (bindings-append σ xs x)

-- what is put for the places before n, for each the variable and the value there, are the bindings of the selection
pub all-bindings : (xs : List ℕ) (σ : ℕ → List ℕ) (atoms : ℕ → List ℕ) (n : ℕ) → n ≤ length xs
    → ((p : ℕ) → p < n → atoms p ≡ σ (get_or xs p 0))
    → bindings_below xs atoms n ≡ bindings σ (take n xs)
all-bindings xs σ atoms zero h values = refl
all-bindings xs σ atoms (suc n) h values =
    ap₂ (λ l b. l ++ (b ∷ [])) (all-bindings xs σ atoms n (omega arith) (λ p l. values p (omega arith)))
    (ap binding (values n (omega arith)))
    ∙ sym (bindings-append σ (take n xs) (get_or xs n 0))
    ∙ ap (bindings σ) (sym (take-suc xs n 0 h))
  where
    binding : List ℕ → Binding
    binding v = record { variable = get_or xs n 0; value = v }

-- what is put for a pair's variables are the bindings of the key's selection
module _ (M : Mode) (L R : List ℕ) {rows : List ℕ} {s : KeyedSelection} {G : Groups}
    (holds : HoldsGroups rows (length (variables M L R)) s G)
    (fits : Fits layout G) (candidate : Candidate layout G s.key) where
  pub pair_bindings : bindings_below (variables M L R) (atoms_at rows s) (length (variables M L R))
      ≡ bindings (value M layout.new L R G (selection_at layout G s.key)) (variables M L R)
  pair_bindings =
      all-bindings (variables M L R) (value M layout.new L R G (selection_at layout G s.key)) (atoms_at rows s)
      (length (variables M L R)) (omega arith)
      (λ p h.
      atoms_value holds fits candidate p h
      ∙ ap (value_at (taken layout.new G (selection_at layout G s.key)))
      (sym (place_of-get_or (variables_ascending M L R) p h)))
      ∙ ap (bindings (value M layout.new L R G (selection_at layout G s.key))) (take-length (variables M L R))
