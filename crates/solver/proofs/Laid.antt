-- Laws of values laid out one variable after the other.
use Prim.Native.Nat.{ℕ, ◌+◌}
use native.Mathlib.Numerals.{add-one}
use mathlib.Core.Path.{◌≡◌, refl, ap, sym, ◌∙◌}
use mathlib.Core.List.{List, [], ◌∷◌, ◌++◌, append_assoc, append-nil}
use lib.ListN.{length, get_or}
use Rattle.ac.specs.Values.{Binding, laid_out}
use Rattle.solver.specs.Bindings.{bindings_below}

-- variables laid out are laid out one after the other
laid_out-append : (bs cs : List Binding) → laid_out (bs ++ cs) ≡ laid_out bs ++ laid_out cs
laid_out-append [] cs = refl
laid_out-append (b ∷ bs) cs =
    ap (λ l. (b.variable ∷ length b.value ∷ b.value) ++ l) (laid_out-append bs cs)
    ∙ sym (append_assoc (b.variable ∷ length b.value ∷ b.value) (laid_out bs) (laid_out cs))

-- the next variable is laid out behind those before it
pub laid_out_next : (variables : List ℕ) (atoms : ℕ → List ℕ) {count : ℕ} (n : ℕ) → length (atoms n) ≡ count
    → laid_out (bindings_below variables atoms n) ++ (get_or variables n 0 ∷ count ∷ atoms n)
    ≡ laid_out (bindings_below variables atoms (n + 1))
laid_out_next variables atoms n e =
    ap (λ k. laid_out (bindings_below variables atoms n) ++ (get_or variables n 0 ∷ k ∷ atoms n)) (sym e)
    ∙ ap (λ l. laid_out (bindings_below variables atoms n) ++ l)
    (sym (append-nil (get_or variables n 0 ∷ length (atoms n) ∷ atoms n)))
    ∙ sym (laid_out-append (bindings_below variables atoms n)
    (record { variable = get_or variables n 0; value = atoms n } ∷ []))
    ∙ ap (λ k. laid_out (bindings_below variables atoms k)) (sym (add-one n))
