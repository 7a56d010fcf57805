-- Writing a page: the keys done so far, and what is left of those that remain.
use Prim.Native.Nat.{ℕ, suc, ◌+◌, ◌<◌, ◌≤◌}
use native.Mathlib.Omega.{arith}
use native.Mathlib.Numerals.{add-one}
use mathlib.Core.Path.{◌≡◌, refl, sym, ◌∙◌, ap, subst}
use mathlib.Core.Bool.{Bool, true, false}
use mathlib.Core.List.{List, [], ◌∷◌, ◌++◌, append_assoc, append-nil}
use borrow.Author.Tests.{lt-ltb, le-ltb}
use lib.Dec.{ltb}
use lib.ListN.{length, get_or, take, drop, set, length-append}
use Rattle.std.specs.Prelude.{Option, Some, None, is_some}
use lib.Seq.{drop-cons, drop-set-lt, set_at, take_all, take_at}
use Rattle.ac.specs.Lists.{receives}
use Rattle.ac.specs.Keys.{layout, keys, after, remaining}
use Rattle.ac.specs.Pages.{LeastFrom, NoneFrom}
use Rattle.ac.proofs.Pages.{least_first, none_remains}
use Rattle.table.specs.Table.{TableOf, groups_in}
use Rattle.table.specs.Masks.{MasksOf}
use Rattle.table.specs.declared.Table.{Table}
use Rattle.ac.specs.Pair.{Mode}
use Rattle.table.specs.declared.masks.Masks.{Masks}
use Rattle.list.specs.List.{OfTheirList, NextFrom}
use Rattle.list.proofs.Table.{table_ascending}
use Rattle.list.proofs.Walk.{next_key, next_none}
use Rattle.solver.specs.Steps.{KeysWritten}

-- so many keys are written, up to the last; `out` is the buffer after the first was written, and `now` as it is
pub record Writing (m : Masks) (first last written wanted : ℕ) (out now : List ℕ) : Type 0 where
  pub done : List ℕ
  pub before : List ℕ
  pub ends : done ≡ before ++ last ∷ []
  pub how_many : length done ≡ written
  pub some : 0 < written
  pub not_too_many : written ≤ wanted
  pub enough : wanted ≤ length out
  pub the_buffer : now ≡ done ++ drop written out
  pub the_rest : OfTheirList m (λ listed. done ++ remaining (after last) listed ≡ first
      ∷ remaining (after first) listed)

set_first : (out : List ℕ) (key : ℕ) → 0 < length out → set out 0 key ≡ key ∷ drop 1 (set out 0 key)
set_first [] key h = absurd (omega arith)
set_first (a ∷ out) key h = refl

length_set_first : (out : List ℕ) (key : ℕ) → length (set out 0 key) ≡ length out
length_set_first [] key = refl
length_set_first (a ∷ out) key = refl

-- the first key is written
pub writing_first : (m : Masks) {first wanted : ℕ} (out : List ℕ) → 0 < wanted → wanted ≤ length out
    → Writing m first first 1 wanted (set out 0 first) (set out 0 first)
writing_first m {first} out some enough =
    record {
      done = first ∷ [];
      before = [];
      ends = refl;
      how_many = refl;
      some = omega arith;
      not_too_many = omega arith;
      enough = omega (arith, length_set_first out first);
      the_buffer = set_first out first (omega arith);
      the_rest = λ t its M L R of. refl;
    }

module _ {m : Masks} {first last written wanted : ℕ} {out now : List ℕ}
    (writing : Writing m first last written wanted out now) where
  -- the least key above the last comes next
  pub writing_next : {key : ℕ} → written < wanted
      → OfTheirList m (λ listed. NextFrom listed (last + 1) (Some key))
      → Writing m first key (written + 1) wanted out (set now written key)
  writing_next {key} less told =
      record {
        done = writing.done ++ key ∷ [];
        before = writing.done;
        ends = refl;
        how_many = length-append writing.done (key ∷ []) ∙ omega (arith, writing.how_many);
        some = omega arith;
        not_too_many = omega arith;
        enough = writing.enough;
        the_buffer = buffer;
        the_rest = rest;
      }
    where
      room : written < length out
      room = omega (arith, writing.enough)

      buffer : set now written key ≡ (writing.done ++ key ∷ []) ++ drop (written + 1) out
      buffer =
          ap (λ b. set b written key) (writing.the_buffer
          ∙ ap (λ (b : List ℕ). writing.done ++ b) (drop-cons out written 0 room))
          ∙ set_at writing.done (get_or out written 0) (drop (suc written) out) key written writing.how_many
          ∙ sym (append_assoc writing.done (key ∷ []) (drop (suc written) out))
          ∙ ap (λ n. (writing.done ++ key ∷ []) ++ drop n out) (sym (add-one written))

      rest : OfTheirList m (λ listed. (writing.done ++ key ∷ []) ++ remaining (after key) listed ≡ first
          ∷ remaining (after first) listed)
      rest t its M L R of =
          append_assoc writing.done (key ∷ []) (remaining (after key) (keys M layout L R (groups_in t)))
          ∙ ap (λ (b : List ℕ). writing.done ++ b)
          (sym (least_first (table_ascending of) (after last) (next_key (told t its M L R of) refl)))
          ∙ writing.the_rest t its M L R of

module _ {m : Masks} {first last written wanted : ℕ} (out : List ℕ) {now : List ℕ}
    (writing : Writing m first last written wanted (set out 0 first) now) where
  -- what was written stands before what the buffer had
  received : now ≡ receives out writing.done
  received =
      writing.the_buffer ∙ ap (λ n. writing.done ++ drop n (set out 0 first)) (sym writing.how_many)
      ∙ ap (λ (b : List ℕ). writing.done ++ b)
      (drop-set-lt (length writing.done) out 0 first (omega (arith, writing.some, writing.how_many)))

  module _ {count : ℕ} (counted : count ≡ written) (left : List ℕ) (more : Bool)
      (all : take wanted left ≡ writing.done) (told : ltb wanted (length left) ≡ more) where
    written_of : KeysWritten left wanted out (record { written = count; more = more; last = last }) now
    written_of =
        record {
          how_many = counted ∙ sym (ap length all ∙ writing.how_many);
          whether_more = sym told;
          before = writing.before;
          the_last = all ∙ writing.ends;
          the_buffer = received ∙ ap (receives out) (sym all);
        }

  module _ {t : Table} (its : MasksOf t m) {M : Mode} {L R : List ℕ} (of : TableOf M L R t) where
    abbrev listed : List ℕ
    listed = keys M layout L R (groups_in t)

    -- where nothing is left above the last key, all that remained is written
    written_all : {count : ℕ} → count ≡ written → NoneFrom listed (last + 1)
        → KeysWritten (first ∷ remaining (after first) listed) wanted out
        (record { written = count; more = false; last = last }) now
    written_all {count} counted nothing =
        subst (λ left. KeysWritten left wanted out (record { written = count; more = false; last = last }) now)
        (sym whole ∙ writing.the_rest t its M L R of)
        (written_of counted writing.done false (take_all wanted writing.done
        (omega (arith, writing.how_many, writing.not_too_many)))
        (le-ltb wanted (length writing.done) (omega (arith, writing.how_many, writing.not_too_many))))
      where
        whole : writing.done ++ remaining (after last) listed ≡ writing.done
        whole =
            ap (λ (b : List ℕ). writing.done ++ b) (none_remains (table_ascending of) (after last) nothing)
            ∙ append-nil writing.done

    -- where as many are written as are wanted, and another is left, more follow
    written_more : {key : ℕ} → wanted ≡ written → LeastFrom listed (last + 1) key
        → KeysWritten (first ∷ remaining (after first) listed) wanted out
        (record { written = wanted; more = true; last = last }) now
    written_more {key} full_page least =
        subst (λ left. KeysWritten left wanted out (record { written = wanted; more = true; last = last }) now)
        (writing.the_rest t its M L R of)
        (written_of full_page (writing.done ++ remaining (after last) listed) true
        (take_at writing.done (remaining (after last) listed) wanted
        (omega (arith, writing.how_many, writing.not_too_many)))
        (lt-ltb wanted (length (writing.done ++ remaining (after last) listed)) longer))
      where
        longer : wanted < length (writing.done ++ remaining (after last) listed)
        longer =
            omega (
              arith,
              length-append writing.done (remaining (after last) listed),
              ap length (least_first (table_ascending of) (after last) least),
              writing.how_many,
              writing.not_too_many,
            )

  -- fewer remained than are wanted: the page ends
  pub written_short : OfTheirList m (λ listed. NextFrom listed (last + 1) None)
      → OfTheirList m (λ listed. KeysWritten (first ∷ remaining (after first) listed) wanted out
      (record { written = written; more = false; last = last }) now)
  written_short told t its M L R of = written_all its of refl (next_none (told t its M L R of) refl)

  -- as many are written as are wanted: whether more follow, the next key tells
  pub written_full : {next : Option ℕ} → wanted ≡ written → OfTheirList m (λ listed. NextFrom listed (last + 1) next)
      → OfTheirList m (λ listed. KeysWritten (first ∷ remaining (after first) listed) wanted out
      (record { written = wanted; more = is_some next; last = last }) now)
  written_full {next = None} full_page told t its M L R of =
      written_all its of full_page (next_none (told t its M L R of) refl)
  written_full {next = Some key} full_page told t its M L R of =
      written_more its of full_page (next_key (told t its M L R of) refl)
