-- Which atoms stand in values: unbalanced constants, and the new variables of balanced rows.
use Prim.Native.Nat.{ℕ, suc, ◌+◌, ◌<◌, ◌≤◌}
use native.Mathlib.Omega.{arith}
use mathlib.Core.Path.{ap, sym, subst}
use mathlib.Core.Logic.{◌⊎◌, inl, inr, ⊎_elim}
use mathlib.Core.Bool.{Bool, true, false}
use mathlib.Core.List.Memᴰ
use mathlib.Core.List.{List, [], ◌∷◌, Memᴰ}
use lib.ListN.{length}
use Rattle.ac.specs.Pair.{Mode, variables, unbalanced}
use Rattle.ac.specs.Rows.{Groups, GroupsOf}
use Rattle.ac.specs.Selection.{Selection, SelectionOf, Taken, taken_rows, taken_balanced, taken, place_of, value}
use Rattle.ac.proofs.Taken.{value_at-atoms}
use Rattle.ac.proofs.Constants.{taken_rows-atoms}

-- the atoms of taken balanced rows are new variables, one for each row
taken_balanced-atoms : (n : ℕ) (rows : List (List ℕ)) (ts : List Bool) (t : Taken)
    → Memᴰ t (taken_balanced n rows ts)
    → (n ≤ t.atom) × (t.atom < n + length rows)
taken_balanced-atoms n [] ts t m = absurd (Memᴰ.not-nil m)
taken_balanced-atoms n (r ∷ rows) [] t m = absurd (Memᴰ.not-nil m)
taken_balanced-atoms n (r ∷ rows) (true ∷ ts) t (Memᴰ.head e) =
    (omega (arith, ap (λ (u : Taken). u.atom) e), omega (arith, ap (λ (u : Taken). u.atom) e))
taken_balanced-atoms n (r ∷ rows) (true ∷ ts) t (Memᴰ.tail m) =
    let later = taken_balanced-atoms (suc n) rows ts t m in (omega (arith, later), omega (arith, later))
taken_balanced-atoms n (r ∷ rows) (false ∷ ts) t m =
    let later = taken_balanced-atoms (suc n) rows ts t m in (omega (arith, later), omega (arith, later))

-- An atom of a value is an unbalanced constant or the new variable of a balanced row; `new` is the first of these.
pub value_atoms : (M : Mode) (new : ℕ) (L R : List ℕ) {G : Groups} → GroupsOf M L R G → {s : Selection}
    → SelectionOf G s
    → (x : ℕ) {a : ℕ} → Memᴰ a (value M new L R G s x)
    → Memᴰ a (unbalanced M L R) ⊎ ((new ≤ a) × (a < new + length G.balanced))
value_atoms M new L R {G} groups {s} selection x {a} at =
    let row = value_at-atoms (taken new G s) (place_of x (variables M L R)) a at in
    subst (λ (b : ℕ). Memᴰ b (unbalanced M L R) ⊎ ((new ≤ b) × (b < new + length G.balanced)))
    (sym row.2)
    (⊎_elim
    (λ constant.
    inl (subst (Memᴰ row.0.atom) groups.the_constants
    (taken_rows-atoms selection.a_row_each row.0 constant)))
    (λ balanced. inr (taken_balanced-atoms new G.balanced s.takes row.0 balanced))
    (Memᴰ.append_cases (taken_rows G.constants s.indexes) row.1))
