-- What is written of a listed key are its values.
use Prim.Native.Nat.{ℕ, ◌≤◌}
use native.Mathlib.Omega.{arith}
use mathlib.Core.Path.{◌≡◌, ◌∙◌, ap, ap₂, subst}
use mathlib.Core.List.{List, Memᴰ}
use lib.ListN.{length, take}
use Rattle.ac.specs.Pair.{Mode, variables}
use Rattle.ac.specs.Keys.{layout, keys, Candidate}
use Rattle.ac.specs.Values.{laid_out}
use Rattle.ac.proofs.Listed.{listed_candidates}
use Rattle.buffer.specs.Put.{Put}
use Rattle.buffer.proofs.Puts.{put_as, put_received}
use Rattle.list.specs.Runs.{selection_in, atoms_at}
use Rattle.list.specs.Reach.{HoldsGroups}
use Rattle.list.specs.declared.KeyedSelection.{KeyedSelection}
use Rattle.list.proofs.Table.{table_fits, table_holds}
use Rattle.table.specs.Table.{TableOf, groups_in}
use Rattle.table.specs.declared.Table.{Table}
use Rattle.solver.specs.Bindings.{bindings_below}
use Rattle.solver.specs.Values.{values_of}
use Rattle.solver.specs.Steps.{WritesValues}
use Rattle.solver.proofs.Bindings.{pair_bindings}

module _ {M : Mode} {L R : List ℕ} {t : Table} {key : ℕ} (of : TableOf M L R t)
    (listed : Memᴰ key (keys M layout L R (groups_in t))) where
  candidate : Candidate layout (groups_in t) key
  candidate = ((listed_candidates (table_fits of.within) M L R).0 listed).0

  holds : HoldsGroups t.rows (length (variables M L R)) (selection_in t key) (groups_in t)
  holds = subst (λ n. HoldsGroups t.rows n (selection_in t key) (groups_in t)) of.the_places
      (table_holds of.within key)

  -- what is laid out are the key's values
  laid : laid_out (bindings_below (variables M L R) (atoms_at t.rows (selection_in t key)) (length (variables M L R)))
      ≡ values_of M L R (groups_in t) key
  laid = ap laid_out (pair_bindings M L R holds (table_fits of.within) candidate)

  -- What is put of the table's variables and of the selection is put of the key.
  pub writes_values : {selection : KeyedSelection} → selection ≡ selection_in t key
      → {out after : List ℕ} {n : ℕ} → n ≤ length out
      → Put out 0 (laid_out (bindings_below (take t.places t.variables) (atoms_at t.rows selection)
      (length (take t.places t.variables)))) n after
      → WritesValues (values_of M L R (groups_in t) key) out n after
  writes_values its {out} {after} {n} space put =
      let mine : Put out 0 (values_of M L R (groups_in t) key) n after =
      put_as (ap₂ (λ s xs. laid_out (bindings_below xs (atoms_at t.rows s) (length xs))) its of.the_variables ∙ laid)
      put in
      record { the_length = omega (arith, mine.place); the_buffer = put_received mine space }
