-- What a table whose numbers are within its room says of its groups: their sizes, their entries, and that
-- they fit a key.
use Prim.Native.Nat.{ℕ, zero, suc, ◌+◌, ◌<◌, ◌≤◌}
use native.Mathlib.Omega.{arith}
use native.Mathlib.Decide.{dec_lt}
use mathlib.Core.Path.{◌≡◌, ◌∙◌, ap}
use mathlib.Core.List.{List, []}
use lib.ListN.{length, get_or, take}
use Rattle.ac.specs.Lists.{Ascending}
use Rattle.ac.specs.Pair.{Mode}
use Rattle.ac.specs.Keys.{layout, keys, Fits}
use Rattle.ac.proofs.Listed.{keys_ascending}
use Rattle.table.specs.Table.{row_start, groups_in, InRoom, TableOf}
use Rattle.table.specs.Masks.{group}
use Rattle.table.specs.declared.Table.{Table}
use Rattle.table.proofs.TableGroups.{length_group_at, constants_groups_from, how_many_constants, few_rows, rows_at_beyond, entry_at, how_many, group_in}
use Rattle.list.specs.Runs.{selection_in}
use Rattle.list.specs.Reach.{HoldsGroups}

module _ {t : Table} (within : InRoom t) where
  -- the groups fit a key
  pub table_fits : Fits layout (groups_in t)
  table_fits =
      record {
        few_constants = omega (arith, how_many_constants t within, within.constants_fit);
        few_rows = λ h m. few_rows within m;
        few_balanced = omega (arith, length_group_at t 0, within.sizes_fit 0);
      }

  -- a selection of the table is one of its groups, and the array holds them
  pub table_holds : (key : ℕ) → HoldsGroups t.rows t.places (selection_in t key) (groups_in t)
  table_holds key =
      record {
        how_many_constants = how_many_constants t within;
        how_many_balanced = length_group_at t 0;
        the_constants = constants_groups_from t 1 (take t.unbalanced t.constants);
        entries = λ g i p row place. go g i p row place (dec_lt t.unbalanced g);
      }
    where
      go : (g i p : ℕ) → i < length (group (groups_in t) g) → p < t.places → Dec (t.unbalanced < g)
          → get_or (get_or (group (groups_in t) g) i []) p 0 ≡ get_or t.rows (row_start g i + p) 0
      go g i p row place (no small) =
          let used : g ≤ t.unbalanced = omega arith in
          ap (λ rs. get_or (get_or rs i []) p 0) (group_in within g used)
          ∙ entry_at t g i p (omega (arith, ap length (group_in within g used), length_group_at t g)) place
      go zero i p row place (yes beyond) = absurd (omega arith)
      go (suc g) i p row place (yes beyond) =
          absurd (omega (
            arith,
            ap length (rows_at_beyond t 1 (take t.unbalanced t.constants) g (omega (arith, how_many within))),
          ))

-- so that the list of the pair that it is of is ascending
pub table_ascending : {M : Mode} {L R : List ℕ} {t : Table} → TableOf M L R t
    → Ascending ◌<◌ (keys M layout L R (groups_in t))
table_ascending {M} {L} {R} {t} of = keys_ascending (table_fits of.within) M L R
