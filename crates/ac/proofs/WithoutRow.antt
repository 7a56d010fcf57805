-- Where a value may be empty (document 02, R-10), nothing is listed exactly where some unbalanced constant has no row
-- (`none_without_row`), and so no replacement unifies exactly there (`unifies_without_row`).
use Prim.Native.Nat.{ℕ, zero, suc, ◌<◌}
use native.Mathlib.Omega.{arith}
use mathlib.Core.Path.{◌≡◌, refl, sym, ap, subst, ◌∙◌}
use mathlib.Core.Logic.Iff
use mathlib.Core.Logic.{◌↔◌}
use mathlib.Core.Bool.{true}
use mathlib.Core.List.Memᴰ
use mathlib.Core.List.{List, [], ◌∷◌, Memᴰ}
use lib.Dec.{lit≤}
use lib.ListN.{length, get_or, replicate, length-replicate}
use Rattle.ac.specs.Pair.{Mode, IsSide}
use Rattle.ac.specs.Rows.{RowOf, Group, Groups, GroupsOf}
use Rattle.ac.specs.Selection.{Selection, SelectionOf, Within, none, index, all_taken, admissible}
use Rattle.ac.specs.Replacement.{Replacement, Unifies}
use Rattle.ac.specs.Identity.{WithoutRow}
use Rattle.ac.proofs.Places.{get_or_member}
use Rattle.ac.proofs.Members.{map_members, members_map}
use Rattle.ac.proofs.Taken.{admissible_takes}
use Rattle.ac.proofs.Groups.{groups_exist}
use Rattle.ac.proofs.Theorems.{empty}

-- one of the groups has no rows, or the first row of each can be taken
data FirstRows (gs : List Group) : Type 0 where
  lacking : {g : Group} → Memᴰ g gs → g.rows ≡ [] → FirstRows gs
  taking : {is : List ℕ} → Within gs is → FirstRows gs

first_rows : (gs : List Group) → FirstRows gs
first_rows [] = taking none
first_rows (g ∷ gs) = by_rows g.rows refl (first_rows gs)
  where
    by_rows : (rows : List (List ℕ)) → g.rows ≡ rows → FirstRows gs → FirstRows (g ∷ gs)
    by_rows [] e rest = lacking (Memᴰ.head refl) e
    by_rows (v ∷ rows) e (lacking m none_of) = lacking (Memᴰ.tail m) none_of
    by_rows (v ∷ rows) e (taking within) = taking (index {g = g} {i = 0} (omega (arith, ap length e)) within)

-- a selection has a row of each group
within_row : {gs : List Group} {is : List ℕ} → Within gs is → (g : Group) → Memᴰ g gs → 0 < length g.rows
within_row (index h within) g (Memᴰ.head e) = omega (arith, ap (λ (k : Group). length k.rows) e)
within_row none g x4 = elim x4 [ ]
within_row (index h within) g (Memᴰ.tail m) = within_row within g m

all_taken_lem : (n : ℕ) → all_taken (replicate n true) ≡ true
all_taken_lem zero = refl
all_taken_lem (suc n) = all_taken_lem n

module _ (M : Mode) (new : ℕ) (L R : List ℕ) (empties : M.empties ≡ true) where
  -- No selection is admissible exactly where some unbalanced constant has no row.
  pub none_without_row : {G : Groups} → GroupsOf M L R G
      → ((s : Selection) → SelectionOf G s → admissible M new L R G s ≡ true → ⊥) ↔ WithoutRow M L R
  none_without_row {G} groups = (λ nothing. to nothing (first_rows G.constants), back)
    where
      to : ((s : Selection) → SelectionOf G s → admissible M new L R G s ≡ true → ⊥) → FirstRows G.constants
          → WithoutRow M L R
      to nothing (lacking {g} m no_rows) =
          record {
            constant = g.constant;
            is_unbalanced = subst (Memᴰ g.constant) groups.the_constants
                (members_map (λ (k : Group). k.constant) m);
            no_row = λ v row. Memᴰ.not-nil (subst (Memᴰ v) no_rows ((groups.constant_rows g m).all v row));
          }
      to nothing (taking {is} within) =
          let s : Selection = record { indexes = is; takes = replicate (length G.balanced) true } in
          absurd (nothing s
          (record { a_row_each = within; a_truth_each = length-replicate (length G.balanced) true })
          (admissible_takes M new L R G s empties ∙ all_taken_lem (length G.balanced)))

      back : WithoutRow M L R → (s : Selection) → SelectionOf G s → admissible M new L R G s ≡ true → ⊥
      back lacks s selection ok =
          let group = map_members (λ (k : Group). k.constant) G.constants
          (subst (Memᴰ lacks.constant) (sym groups.the_constants) lacks.is_unbalanced) in
          let some = within_row selection.a_row_each group.0 group.1 in
          lacks.no_row _
          (subst (λ c. RowOf M L R c (get_or group.0.rows 0 [])) (sym group.2)
          ((groups.constant_rows group.0 group.1).only _ (get_or_member group.0.rows 0 [] some)))

-- No replacement unifies exactly where some unbalanced constant has no row.
pub unifies_without_row : (M : Mode) (L R : List ℕ) → M.empties ≡ true → IsSide L → IsSide R
    → ((θ : Replacement) → Unifies M L R θ → ⊥) ↔ WithoutRow M L R
unifies_without_row M L R empties left right =
    let groups = groups_exist M L R in
    Iff.trans (Iff.symm (empty M 128 L R left right (lit≤ tt) groups)) (none_without_row M 128 L R empties groups)
