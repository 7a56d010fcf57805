-- Every library has its text: the questions return something for every block.
use Rattle.std.proofs.Common.{ℕ, ◌+◌, ◌%◌, ◌<◌, ◌≤◌, arith, ◌≡◌, refl, Bool, true, ◌⊎◌, inl, inr, ⊎_elim, List, [], ◌∷◌, length}
use mathlib.Core.List.{Memᴰ}
use Rattle.ac.specs.Lists.{receives}
use Rattle.ac.specs.Pair.{unifying}
use Rattle.ac.specs.Rows.{Groups, GroupsOf}
use Rattle.ac.specs.Keys.{start, layout, keys}
use Rattle.ac.specs.Values.{Binding}
use Rattle.ac.specs.Term.{Term}
use Rattle.ac.proofs.Groups.{groups_exist}
use Rattle.numbers.specs.First.{NoneOf}
use Rattle.numbers.proofs.Carried.{none_given, its_member}
use Rattle.numbers.proofs.Decided.{Settled, given as settled_given, none_given as settled_none}
use Rattle.block.specs.Front.{Writes}
use Rattle.block.specs.Table.{NoTerm, ReadGiven, no_term}
use Rattle.block.specs.Read as read
use Rattle.block.proofs.Faults.{term_or_fault, fault_is_no_term}
use Rattle.list.specs.Given.{ListGiven}
use Rattle.ac.specs.Limits.{limits}
use Rattle.pair.specs.Given.{PairGiven}
use Rattle.pair.specs.Ways.{mode_of}
use Rattle.pair.specs.declared.ways.Way.{Way}
use Rattle.numbers.specs.Order.{read_numbers, sides_numbers, beginning_numbers}
use Rattle.numbers.specs.Outcome.{Outcome, given, is_refused, is_given}
use Rattle.numbers.proofs.Parts.{first_of_sides, none_of_sides}
use Rattle.numbers.proofs.Said.{refuses_carried, number_alone, something_said}
use Rattle.pair.proofs.NetCounts.{lowest_exists}
use Rattle.solver.specs.Rows.{rows_buffer, RowsPromise, sizes_of, all_rows, bytes_of, rows}
use Rattle.solver.specs.Page.{next}
use Rattle.solver.specs.Count.{as_listed}
use Rattle.solver.proofs.Given.{rows_made, page_first, page_none}
use Rattle.tally.specs.Line.{BlockFound}
use Rattle.tally.specs.declared.Line.{Line}
use Rattle.tally.specs.declared.Report.{Report}
use Rattle.tally.specs.declared.Report.TheVariants.{Listing, Census}
use Rattle.lines.specs.Library.{most_blocks, lent, rows_refused, page_refused, a_page, SidesFound, listed, count_refused, a_count, Returns, read_refused, sides, BlocksText, no_more, one_more, LibraryText}
use Rattle.lines.proofs.Decided.{read_settled, pair_settled, list_settled}

-- something is returned for two sides, and for a block
record SomePair (report : Report) (L R : List ℕ) : Type 0 where
  pub returned : Outcome BlockFound
  pub page : List (List Binding)
  pub found : SidesFound L R report returned page

pub record SomeFound (report : Report) (block : List ℕ) (number : ℕ) : Type 0 where
  pub returned : Outcome BlockFound
  pub page : List (List Binding)
  pub found : Returns report block number returned page

module _ (way : Way) (L R : List ℕ) {G : Groups} (of : GroupsOf (mode_of way L R) L R G) where
  module _ (none : NoneOf (PairGiven limits (mode_of way L R) L R) sides_numbers) where
    -- sides within the limits have their rows ..
    rows_given : RowsPromise (mode_of way L R) L R (lent rows_buffer) (given (sizes_of G))
        (receives (lent rows_buffer) (bytes_of (all_rows G)))
    rows_given = is_given (none_of_sides rows_made (omega arith) none) (rows of)

    -- .. and a page, or 13
    some_page : SomePair (Listing way) L R
    some_page = by_list (list_settled (keys (mode_of way L R) layout L R G))
      where
        by_list : Settled (ListGiven (keys (mode_of way L R) layout L R G) start) beginning_numbers → SomePair (Listing way) L R
        by_list (settled_given first) =
            record {
              returned = _;
              page = [];
              found =
                  listed
                  (page_refused rows_given
                  (is_refused (refuses_carried (page_first of none (omega arith)) (number_alone refl first))));
            }
        by_list (settled_none nothing) =
            record {
              returned = _;
              page = _;
              found = listed (a_page rows_given (is_given (page_none of none (omega arith) nothing) (next of)) of);
            }

  some_list : SomePair (Listing way) L R
  some_list = by_sides (pair_settled (mode_of way L R) L R of)
    where
      by_sides : Settled (PairGiven limits (mode_of way L R) L R) sides_numbers → SomePair (Listing way) L R
      by_sides (settled_given first) =
          let said = something_said lowest_exists first in
          record {
            returned = _;
            page = [];
            found =
                listed
                (rows_refused (is_refused (refuses_carried (first_of_sides rows_made (omega arith) []) said.1)));
          }
      by_sides (settled_none none) = some_page none

-- sides within the limits have their number of unifiers
some_count : (L R : List ℕ) {G : Groups} → GroupsOf unifying L R G → SomePair Census L R
some_count L R of = by_sides (pair_settled unifying L R of)
  where
    by_sides : Settled (PairGiven limits unifying L R) sides_numbers → SomePair Census L R
    by_sides (settled_given first) =
        record { returned = _; page = []; found = count_refused (is_refused (something_said lowest_exists first).1) }
    by_sides (settled_none none) =
        record { returned = _; page = []; found = a_count (is_given none (as_listed of)) }

some_pair : (report : Report) (L R : List ℕ) → SomePair report L R
some_pair (Listing way) L R = some_list way L R (groups_exist _ _ _)
some_pair Census L R = some_count L R (groups_exist _ _ _)

-- The questions return something for every block.
pub some_found : (report : Report) (block : List ℕ) (number : ℕ) → SomeFound report block number
some_found report block number = by_read (read_settled block number (lent 64) (lent 64) long)
  where
    long : (length (lent 64) < 64) ⊎ (length (lent 64) < 64) → ⊥
    long (inl short) = omega arith
    long (inr short) = omega arith

    -- where 5 is not given, the bytes are a term
    a_term : {bytes : List ℕ} → (NoTerm bytes → ⊥) → (t : Term) × Writes bytes t
    a_term {bytes} some = ⊎_elim (λ term. term) (λ fault. absurd (some (fault_is_no_term fault))) (term_or_fault bytes)

    by_read : Settled (ReadGiven block number (lent 64) (lent 64)) read_numbers → SomeFound report block number
    by_read (settled_given first) =
        record { returned = _; page = []; found = read_refused (is_refused (number_alone refl first)) }
    by_read (settled_none none) =
        let five : Memᴰ 5 read_numbers = its_member read_numbers refl in
        let left = a_term (λ no_left. none_given none five (no_term (inl no_left))) in
        let right = a_term (λ no_right. none_given none five (no_term (inr no_right))) in
        let promise = is_given none (read.sides left.1 right.1) in
        let pair = some_pair report _ _ in
        record { returned = pair.returned; page = pair.page; found = sides promise pair.found }

-- blocks have their text, from every place on
record SomeText (report : Report) (place : ℕ) (blocks : List (List ℕ)) : Type 0 where
  pub lines : List Line
  pub text : List ℕ
  pub of_blocks : BlocksText report place blocks lines text

some_text : (report : Report) (place : ℕ) (blocks : List (List ℕ)) → SomeText report place blocks
some_text report place [] = record { lines = []; text = []; of_blocks = no_more }
some_text report place (block ∷ blocks) =
    let first = some_found report block (place % 65536) in
    let rest = some_text report (place + 1) blocks in
    record { lines = _; text = _; of_blocks = one_more first.found rest.of_blocks }

-- Every list of as many blocks as may be read has its text; input remains only after the last of them.
pub library_exists : (report : Report) (blocks : List (List ℕ)) (remains : Bool) → length blocks ≤ most_blocks report
    → (remains ≡ true → length blocks ≡ most_blocks report) → (text : List ℕ) × LibraryText report blocks remains text
library_exists report blocks remains few only =
    let all = some_text report 0 blocks in (
      _,
      record {
        at_most = few;
        only_after_most = only;
        lines = all.lines;
        before = all.text;
        of_blocks = all.of_blocks;
        whole = refl;
      },
    )
