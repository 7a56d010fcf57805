-- The masks made of a table are those of its groups.
use Prim.Native.Nat.{ℕ, ◌+◌, ◌*◌, ◌/◌, ◌%◌, ◌<◌, ◌≤◌}
use native.Mathlib.Omega.{arith}
use native.Mathlib.Decide.{dec_lt}
use mathlib.Core.Path.{◌≡◌, sym, ◌∙◌, ap, subst}
use mathlib.Core.Bool.{Bool, true, false, ◌&&◌}
use mathlib.Core.List.{List, []}
use borrow.Author.Tests.{lt-ltb, le-ltb}
use lib.Dec.{ltb}
use lib.ListN.{get_or, get_or-eq_default}
use Rattle.table.specs.Table.{row_start, group_at, groups_in, InRoom}
use Rattle.table.specs.Masks.{Marks, MarksIn, MarksAt, Marked, Sized, places_to_reach, rows_to_take, MasksOf}
use Rattle.table.specs.declared.Table.{Table}
use Rattle.table.specs.declared.masks.Masks.{Masks}
use Rattle.table.proofs.TableGroups.{length_group_at, how_many_constants, entry_at, group_in, table_sized}

-- no more places have to be reached than there are
pub few_to_reach : (empties : Bool) (places : ℕ) → places_to_reach empties places ≤ places
few_to_reach true places = omega arith
few_to_reach false places = omega arith

module _ {t : Table} (within : InRoom t) where
  -- entry by entry a mask marks the rows of the group
  marks_group : (g p mask : ℕ) → p < t.places → MarksIn t.rows g (get_or t.sizes g 0) p mask
      → Marks (group_at t g) p mask
  marks_group g p mask place marks i = marks i ∙ go (dec_lt i (get_or t.sizes g 0))
    where
      entry : ℕ
      entry = get_or t.rows (row_start g i + p) 0

      go : Dec (i < get_or t.sizes g 0)
          → (ltb i (get_or t.sizes g 0) && ltb 0 entry) ≡ ltb 0 (get_or (get_or (group_at t g) i []) p 0)
      go (yes row) =
          ap (λ b. b && ltb 0 entry) (lt-ltb i (get_or t.sizes g 0) row)
          ∙ sym (ap (ltb 0) (entry_at t g i p row place))
      go (no beyond) =
          ap (λ b. b && ltb 0 entry) (le-ltb i (get_or t.sizes g 0) (omega arith))
          ∙ sym (ap (λ (r : List ℕ). ltb 0 (get_or r p 0))
          (get_or-eq_default (group_at t g) [] (omega (arith, length_group_at t g))))

  -- the masks made of a table are those of its groups, at all of its places and so at fewer
  pub all_marked : {reaching : List ℕ} {places : ℕ} → places ≤ t.places
      → ((at : ℕ) → at < 30 → MarksAt t.rows t.sizes at (get_or reaching at 0))
      → Marked reaching t.unbalanced places (groups_in t)
  all_marked {reaching} few each = record {
    how_many_constants = how_many_constants t within;
    marks = λ g p used place.
        let at : (6 * g + p) / 6 ≡ g = omega (arith, within.places_fit) in
        let inner : (6 * g + p) % 6 ≡ p = omega (arith, within.places_fit) in
        subst (λ rows. Marks rows p (get_or reaching (6 * g + p) 0)) (sym (group_in within g used))
        (marks_group g p (get_or reaching (6 * g + p) 0) (omega arith)
        (subst (λ (n : ℕ). MarksIn t.rows g (get_or t.sizes g 0) n (get_or reaching (6 * g + p) 0)) inner
        (subst (λ (n : ℕ). MarksIn t.rows n (get_or t.sizes n 0) ((6 * g + p) % 6)
        (get_or reaching (6 * g + p) 0)) at
        (each (6 * g + p) (omega (arith, within.places_fit, within.constants_fit))))));
  }

  -- masks with the table's sizes that mark its rows, and that ask for its places and rows, are those of its groups
  pub masks_made : {m : Masks} → m.unbalanced ≡ t.unbalanced → m.sizes ≡ t.sizes
      → m.places ≡ places_to_reach t.empties t.places → m.must ≡ rows_to_take t.empties (get_or t.sizes 0 0)
      → ((at : ℕ) → at < 30 → MarksAt t.rows t.sizes at (get_or m.reaching at 0))
      → MasksOf t m
  masks_made {m} its_constants its_sizes its_places its_must each = record {
    the_places = its_places;
    the_must = its_must ∙ ap (rows_to_take t.empties) (sym (length_group_at t 0));
    sized = subst (λ sizes. Sized sizes m.unbalanced (groups_in t)) (sym its_sizes)
        (subst (λ n. Sized t.sizes n (groups_in t)) (sym its_constants) (table_sized within));
    marked = subst (λ n. Marked m.reaching n m.places (groups_in t)) (sym its_constants)
        (all_marked (omega (arith, few_to_reach t.empties t.places, its_places)) each);
  }
