-- Bytes laid out can be read back: the layout is taken apart into what was laid out, so it says one thing only.
use Prim.Native.Nat.{ℕ}
use mathlib.Core.Path.{◌≡◌, refl, ap, ap₂, sym, ◌∙◌}
use mathlib.Core.Bool.{Bool, true, false, cond}
use mathlib.Core.List.{List, [], ◌∷◌, ◌++◌, Memᴰ}
use borrow.Author.Tests.{eqb-true, eq-eqb}
use lib.Dec.{eqb}
use lib.ListN.{length}
use lib.Seq.{take-append_seam}
use Rattle.ac.specs.Values.{Binding, laid_out, bindings}
use Rattle.ac.specs.Replacement.{Replacement}
use Rattle.whole.specs.Whole.{taken_apart, value_in, read_back}

-- the atoms of the variable before are passed over
atoms_passed : (value bytes : List ℕ) → taken_apart (length value) (value ++ bytes) ≡ taken_apart 0 bytes
atoms_passed [] bytes = refl
atoms_passed (a ∷ value) bytes = atoms_passed value bytes

-- what is laid out and taken apart is what it was
pub taken_apart-laid_out : (bs : List Binding) → taken_apart 0 (laid_out bs) ≡ bs
taken_apart-laid_out [] = refl
taken_apart-laid_out (b ∷ bs) =
    ap₂ {C = List Binding}
    (λ (value : List ℕ) (rest : List Binding). record { variable = b.variable; value = value } ∷ rest)
    (take-append_seam b.value (laid_out bs)) (atoms_passed b.value (laid_out bs) ∙ taken_apart-laid_out bs)

-- Two lists of variables with their values that are laid out alike are the same.
pub laid_out_one_to_one : (bs cs : List Binding) → laid_out bs ≡ laid_out cs → bs ≡ cs
laid_out_one_to_one bs cs e = sym (taken_apart-laid_out bs) ∙ ap (taken_apart 0) e ∙ taken_apart-laid_out cs

-- a variable that stands in the layout has its value there
value_in-bindings : (θ : Replacement) {x : ℕ} {xs : List ℕ} → Memᴰ x xs → value_in (bindings θ xs) x ≡ θ x
value_in-bindings θ {x = x} {xs = []} x3 = elim x3 [ ]
value_in-bindings θ {x} {xs = y ∷ ys} (Memᴰ.head e) =
    ap (λ t. cond t (θ y) (value_in (bindings θ ys) x)) (eq-eqb x y e) ∙ ap θ (sym e)
value_in-bindings θ {x} {xs = y ∷ ys} (Memᴰ.tail m) = go (eqb x y) refl (value_in-bindings θ m)
  where
    go : (t : Bool) → eqb x y ≡ t → value_in (bindings θ ys) x ≡ θ x → cond t (θ y) (value_in (bindings θ ys) x) ≡ θ x
    go true e later = ap θ (sym (eqb-true x y e))
    go false e later = later

-- What is read back gives each variable the value that was laid out with it.
pub read_back-laid_out : (θ : Replacement) {xs : List ℕ} {x : ℕ} → Memᴰ x xs
    → read_back (laid_out (bindings θ xs)) x ≡ θ x
read_back-laid_out θ {xs} {x} m = ap (λ bs. value_in bs x) (taken_apart-laid_out (bindings θ xs)) ∙ value_in-bindings θ m

-- Pair 1 of document 01, v0=c0+n0 v1=n0, from its seven bytes.
abbrev pair_1 : List ℕ
pair_1 = 0 ∷ 2 ∷ 64 ∷ 192 ∷ 1 ∷ 1 ∷ 192 ∷ []

-- it reads back as the document prints it
pair_1_read_back : (read_back pair_1 0 ≡ 64 ∷ 192 ∷ []) × (read_back pair_1 1 ≡ 192 ∷ [])
pair_1_read_back = (refl, refl)
