-- The questions' promises from their steps, of a table that is the pair's.
use Prim.Native.Nat.{ℕ, ◌≤◌}
use native.Mathlib.Omega.{arith}
use mathlib.Core.Path.{◌≡◌, refl, sym, ap, subst, subst₂, ◌∙◌}
use mathlib.Core.Bool.{false}
use mathlib.Core.List.Memᴰ
use mathlib.Core.List.{List, [], ◌∷◌, Memᴰ}
use lib.ListN.{length, get_or}
use Rattle.std.specs.Prelude.{Ok, Err}
use Rattle.ac.specs.Limits.{limits}
use Rattle.ac.specs.Pair.{Mode}
use Rattle.ac.specs.Keys.{layout, keys, Beginning, after, remaining}
use Rattle.ac.specs.Weighed.{candidates, weighed}
use Rattle.ac.proofs.AllTaken.{listed_in}
use Rattle.ac.proofs.Pages.{page_members}
use Rattle.ac.proofs.Weighed.{weighed_later}
use Rattle.ac.specs.Counting.{selections_reaching}
use Rattle.ac.proofs.Counting.{keys_reaching}
use Rattle.buffer.specs.Put.{Put}
use Rattle.buffer.proofs.Puts.{put_received}
use Rattle.numbers.specs.Numbers.{number_of, said_of}
use Rattle.numbers.specs.First.{First, NoneOf}
use Rattle.numbers.specs.Order.{sides_numbers, beginning_numbers}
use Rattle.numbers.specs.Outcome.{refused, given, is_refused, is_given}
use Rattle.numbers.specs.declared.Refusal.{Refusal}
use Rattle.numbers.proofs.Said.{refuses_carried, refuses_alone}
use Rattle.numbers.proofs.Parts.{none_of_sides}
use Rattle.pair.specs.Given.{PairGiven}
use Rattle.table.specs.Table.{TableOf, groups_in}
use Rattle.table.specs.Masks.{places_to_reach, MasksOf}
use Rattle.table.specs.declared.Table.{Table}
use Rattle.table.specs.declared.masks.Masks.{Masks}
use Rattle.table.proofs.TableGroups.{length_group_at, how_many_constants}
use Rattle.list.specs.Given.{ListGiven}
use Rattle.list.specs.List.{LookedUp}
use Rattle.list.proofs.Finding.{told_listed, told_refused}
use Rattle.solver.specs.Rows.{rows_buffer, sizes_as, size, sizes_of, all_rows, bytes_of, RowsPromise}
use Rattle.solver.specs.Rows as its_rows
use Rattle.solver.specs.Page.{wanted_count, PageWritten, keys_weighed, page_written, PagePromise, next}
use Rattle.solver.specs.Values.{values_buffer, ValuesPromise, values_of}
use Rattle.solver.specs.Values as its_values
use Rattle.solver.specs.Count.{CountPromise, as_listed}
use Rattle.solver.specs.Steps.{SettledOf, to_refuse, to_answer, KeysWritten, WritesValues, WeighedUpto}
use Rattle.solver.specs.declared.page.WrittenKeys.{WrittenKeys}
use Rattle.solver.proofs.Given.{rows_made, page_first, page_none, values_first, values_none}

-- the cases of what is settled
settled_refusal : {listed : List ℕ} {begin : Beginning} {why : Refusal} → SettledOf listed begin (Err why)
    → First (ListGiven listed begin) beginning_numbers (number_of why)
settled_refusal (to_refuse first) = first

settled_first : {listed : List ℕ} {begin : Beginning} {key : ℕ} → SettledOf listed begin (Ok key)
    → NoneOf (ListGiven listed begin) beginning_numbers
    × (remaining begin listed ≡ key ∷ remaining (after key) listed)
    × ((k : ℕ) → begin ≡ after k → Memᴰ k listed)
settled_first (to_answer none e on_List) = (none, e, on_List)

module _ {M : Mode} {L R : List ℕ} {t : Table} (of : TableOf M L R t)
    (none : NoneOf (PairGiven limits M L R) sides_numbers) where
  -- Rows: the rows, and the sizes of the groups
  pub rows_promised : {out after : List ℕ} {put first second third fourth : ℕ} → rows_buffer ≤ length out
      → Put out 0 (bytes_of (all_rows (groups_in t))) put after
      → put ≤ rows_buffer
      → first ≡ size (groups_in t) 0 → second ≡ size (groups_in t) 1 → third ≡ size (groups_in t) 2
      → fourth ≡ size (groups_in t) 3
      → RowsPromise M L R out
      (given (sizes_as (get_or t.sizes 0 0) t.unbalanced first second third fourth)) after
  rows_promised {out} {after} {put} {first} {second} {third} {fourth} long written within e₁ e₂ e₃ e₄ =
      subst₂ (λ sizes after. RowsPromise M L R out (given sizes) after) sizes
      (sym (put_received written (omega arith)))
      (is_given (none_of_sides rows_made long none) (its_rows.rows of.the_groups))
    where
      sizes : sizes_of (groups_in t) ≡ sizes_as (get_or t.sizes 0 0) t.unbalanced first second third fourth
      sizes = cc (length_group_at t 0, how_many_constants t of.within, e₁, e₂, e₃, e₄)

  -- Count: how many selections reach every variable
  pub count_promised : {n : ℕ} {m : Masks} → M.empties ≡ false → MasksOf t m
      → n ≡ selections_reaching (groups_in t) m.places []
      → CountPromise M L R (given n)
  count_promised full its counted =
      subst (λ n. CountPromise M L R (given n))
      (keys_reaching M layout L R (groups_in t) full
      ∙ sym (counted ∙ ap (λ (k : ℕ). selections_reaching (groups_in t) k [])
      (its.the_places ∙ ap (λ b. places_to_reach b t.places) (sym of.whether_empty ∙ full) ∙ of.the_places)))
      (is_given none (as_listed of.the_groups))

  module _ {begin : Beginning} {wanted : ℕ} {out : List ℕ} (enough : wanted_count wanted ≤ length out) where
    -- Page: 13, 14 and 15 change no buffer
    pub page_refused : {why : Refusal} → SettledOf (keys M layout L R (groups_in t)) begin (Err why)
        → PagePromise M L R begin wanted out (refused (said_of why)) out
    page_refused {why} told =
        is_refused (refuses_carried (page_first of.the_groups none enough)
        (refuses_alone refl why (settled_refusal told)))

    -- a page is what was written of the keys that remain, with what was weighed from the beginning up to the last
    pub page_promised : {m : Masks} → MasksOf t m
        → {first count : ℕ} {written : WrittenKeys} {out' : List ℕ}
        → SettledOf (keys M layout L R (groups_in t)) begin (Ok first)
        → KeysWritten (first ∷ remaining (after first) (keys M layout L R (groups_in t))) (wanted_count wanted)
        out written out'
        → WeighedUpto m begin written.last count
        → PagePromise M L R begin wanted out
        (given (record { written = written.written; more = written.more; weighed = count })) out'
    page_promised its {first = first} {count = count} {written = written} {out' = out'} told writes weighs =
        subst₂ (λ o b. PagePromise M L R begin wanted out (given o) b) (sym values) (sym whole.the_buffer)
        (is_given (page_none of.the_groups none enough answer.0) (next of.the_groups))
      where
        listed : List ℕ
        listed = keys M layout L R (groups_in t)

        answer : NoneOf (ListGiven listed begin) beginning_numbers
            × (remaining begin listed ≡ first ∷ remaining (after first) listed)
            × ((k : ℕ) → begin ≡ after k → Memᴰ k listed)
        answer = settled_first told

        whole : KeysWritten (remaining begin listed) (wanted_count wanted) out written out'
        whole = subst (λ left. KeysWritten left (wanted_count wanted) out written out') (sym answer.1) writes

        a_candidate : {key : ℕ} → Memᴰ key listed → Memᴰ key (candidates M layout (groups_in t))
        a_candidate = listed_in M layout (groups_in t) L R

        last_listed : Memᴰ written.last listed
        last_listed =
            page_members begin (wanted_count wanted)
            (subst (Memᴰ written.last) (sym whole.the_last)
            (Memᴰ.append_right whole.before (Memᴰ.head refl)))

        same_weighed : count ≡ keys_weighed M L R (groups_in t) begin wanted
        same_weighed =
            weighs t its M L R of (λ k same. a_candidate (answer.2 k same)) (a_candidate last_listed)
            ∙ sym (ap (λ ks. weighed begin ks (candidates M layout (groups_in t))) whole.the_last
            ∙ weighed_later begin whole.before written.last [] (candidates M layout (groups_in t)))

        values : ◌≡◌ {A = PageWritten} (record { written = written.written; more = written.more; weighed = count })
            (page_written M L R (groups_in t) begin wanted)
        values = λ i. record { written = whole.how_many i; more = whole.whether_more i; weighed = same_weighed i }

  module _ {key : ℕ} {out : List ℕ} (enough : values_buffer ≤ length out) where
    -- Values: 13 and 14 change no buffer
    pub values_refused : {why : Refusal} → LookedUp (keys M layout L R (groups_in t)) key (Err why)
        → ValuesPromise M L R key out (refused (said_of why)) out
    values_refused {why} told =
        is_refused (refuses_carried (values_first of.the_groups none enough)
        (refuses_alone refl why (told_refused told refl)))

    -- of a listed key its values
    pub values_promised : LookedUp (keys M layout L R (groups_in t)) key (Ok tt) → {n : ℕ} {out' : List ℕ}
        → (Memᴰ key (keys M layout L R (groups_in t)) → WritesValues (values_of M L R (groups_in t) key) out n out')
        → ValuesPromise M L R key out (given n) out'
    values_promised told writes =
        let listed = told_listed told refl in
        let written = writes listed in
        subst₂ (λ n b. ValuesPromise M L R key out (given n) b) (sym written.the_length) (sym written.the_buffer)
        (is_given (values_none of.the_groups none enough listed) (its_values.values of.the_groups))
