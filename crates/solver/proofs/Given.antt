-- What the tables of numbers of Rows, Page and Values come to, for groups that are the pair's: 16 first, then
-- the sides' numbers, and then the list's.
use Prim.Native.Nat.{ℕ, ◌≤◌}
use mathlib.Core.Path.{subst}
use mathlib.Core.List.{List, Memᴰ}
use lib.ListN.{length}
use Rattle.ac.specs.Limits.{limits}
use Rattle.ac.specs.Pair.{Mode}
use Rattle.ac.specs.Rows.{Groups, GroupsOf}
use Rattle.ac.specs.Keys.{layout, keys, Beginning, after}
use Rattle.ac.proofs.Groups.{groups_unique}
use Rattle.numbers.specs.First.{First, NoneOf}
use Rattle.numbers.specs.Order.{sides_numbers, key_numbers, beginning_numbers, page_numbers, values_numbers}
use Rattle.numbers.proofs.Carried.{within_front}
use Rattle.numbers.proofs.Parts as parts
use Rattle.numbers.proofs.Parts.{Row, MadeOf, sides_row, list_row, buffer_row}
use Rattle.pair.specs.Given.{PairGiven}
use Rattle.pair.proofs.Laws.{sides_number}
use Rattle.list.specs.Given.{ListGiven}
use Rattle.list.proofs.Given.{list_number}
use Rattle.list.proofs.Finding.{not_refused}
use Rattle.solver.specs.Rows.{rows_buffer, RowsGiven}
use Rattle.solver.specs.Rows as rows
use Rattle.solver.specs.Page.{wanted_count, PageGiven}
use Rattle.solver.specs.Page as page
use Rattle.solver.specs.Values.{values_buffer, ValuesGiven}
use Rattle.solver.specs.Values as values

module _ {M : Mode} {L R : List ℕ} where
  -- each row of Rows' table is the row of the sides or of the buffer
  pub rows_made : {out : List ℕ}
      → MadeOf (RowsGiven M L R out) (PairGiven limits M L R) (λ n. ⊥) (length out) rows_buffer
  rows_made {out} =
      record {
        of_sides = rows.of_the_sides;
        of_list = λ given. absurd given;
        of_buffer = rows.short_buffer;
        row_of = row_of;
      }
    where
      row_of : {n : ℕ} → RowsGiven M L R out n
          → Row (PairGiven limits M L R) (λ n. ⊥) (length out) rows_buffer n
      row_of (rows.of_the_sides given) = sides_row (sides_number given) given
      row_of (rows.short_buffer short) = buffer_row short

  module _ {G : Groups} (groups : GroupsOf M L R G) where
    -- the list of groups that are the pair's is that of any others
    same_list : {begin : Beginning} {H : Groups} {n : ℕ} → GroupsOf M L R H → ListGiven (keys M layout L R H) begin n
        → ListGiven (keys M layout L R G) begin n
    same_list {begin} {n = n} other given =
        subst (λ H. ListGiven (keys M layout L R H) begin n) (groups_unique M L R other groups) given

    -- each row of Page's table is the row of the sides, of the list or of the buffer
    pub page_made : {begin : Beginning} {wanted : ℕ} {out : List ℕ}
        → MadeOf (PageGiven M L R begin wanted out) (PairGiven limits M L R)
        (ListGiven (keys M layout L R G) begin) (length out) (wanted_count wanted)
    page_made {begin} {wanted} {out} =
        record {
          of_sides = page.of_the_sides;
          of_list = page.of_the_list groups;
          of_buffer = page.short_buffer;
          row_of = row_of;
        }
      where
        row_of : {n : ℕ} → PageGiven M L R begin wanted out n
            → Row (PairGiven limits M L R) (ListGiven (keys M layout L R G) begin) (length out)
            (wanted_count wanted) n
        row_of (page.of_the_sides given) = sides_row (sides_number given) given
        row_of (page.of_the_list other given) = list_row (list_number given) (same_list other given)
        row_of (page.short_buffer short) = buffer_row short

    -- each row of Values' table is the row of the sides, of the list or of the buffer
    pub values_made : {key : ℕ} {out : List ℕ}
        → MadeOf (ValuesGiven M L R key out) (PairGiven limits M L R)
        (ListGiven (keys M layout L R G) (after key)) (length out) values_buffer
    values_made {key} {out} =
        record {
          of_sides = values.of_the_sides;
          of_list = values.of_the_list groups;
          of_buffer = values.short_buffer;
          row_of = row_of;
        }
      where
        row_of : {n : ℕ} → ValuesGiven M L R key out n
            → Row (PairGiven limits M L R) (ListGiven (keys M layout L R G) (after key)) (length out) values_buffer n
        row_of (values.of_the_sides given) = sides_row (sides_number given) given
        row_of (values.of_the_list other given) = list_row (list_number given) (same_list other given)
        row_of (values.short_buffer short) = buffer_row short

    -- Page's numbers that the list decides are given where the list gives them
    pub page_given : {begin : Beginning} {wanted : ℕ} {out : List ℕ} {n : ℕ} → Memᴰ n beginning_numbers
        → PageGiven M L R begin wanted out n
        → ListGiven (keys M layout L R G) begin n
    page_given m given = parts.given_list page_made m given

    module _ (none : NoneOf (PairGiven limits M L R) sides_numbers) where
      -- where the sides give none and the buffer is long enough, Page's first number is the list's
      module _ {begin : Beginning} {wanted : ℕ} {out : List ℕ} (enough : wanted_count wanted ≤ length out) where
        pub page_first : {n : ℕ} → First (ListGiven (keys M layout L R G) begin) beginning_numbers n
            → First (PageGiven M L R begin wanted out) page_numbers n
        page_first first = parts.first_of_list page_made enough none (λ n m. m) first

        pub page_none : NoneOf (ListGiven (keys M layout L R G) begin) beginning_numbers
            → NoneOf (PageGiven M L R begin wanted out) page_numbers
        page_none nothing = parts.none_of_list page_made enough none (λ n m. m) nothing

      -- and so is that of Values
      module _ {key : ℕ} {out : List ℕ} (enough : values_buffer ≤ length out) where
        pub values_first : {n : ℕ} → First (ListGiven (keys M layout L R G) (after key)) key_numbers n
            → First (ValuesGiven M L R key out) values_numbers n
        values_first first = parts.first_of_list values_made enough none (within_front _) first

        pub values_none : Memᴰ key (keys M layout L R G) → NoneOf (ValuesGiven M L R key out) values_numbers
        values_none listed = parts.none_of_list values_made enough none (within_front _) (not_refused listed)
