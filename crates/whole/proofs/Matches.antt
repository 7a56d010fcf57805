-- Matching against a fixed subject (document 02, R-4), by what Rows, Page and Values promise in the mode `matching L` and
-- by their bytes. The words of the statements stand in specs/Matching.antt. They follow from what holds in every mode
-- (Whole.antt, Exist.antt), since where 19 is not given no variable stands on both sides.
--
-- `every_match`. For all sides, whatever lists of bytes they are: let pages be asked for one after the other from the
-- start, and Values for each key on them. If all of these meet the promises, each replacement read back from the bytes is
-- a match, and every match is read back from exactly one of the answers, sum for sum.
-- `matches_answered`. There are such pages and answers wherever Page gives none of its numbers, and
-- `match_answered` wherever there is a match and the sides give none of 7 to 12 and 19.
-- `no_match_at_all` and `values_no_match_at_all`. Page and Values give 13 exactly where there is no match, unless a number
-- that comes before it is given.
-- `rows_none_balanced`. Rows returns 0 for the size of the balanced group.
--
-- What a client may ask on is in OnPages.antt, and when 19 is given in Shared.antt.
use Prim.Native.Nat.{ℕ, ◌<◌}
use mathlib.Core.Path.{◌≡◌, refl, sym, ap, ◌∙◌}
use mathlib.Core.Logic.{◌↔◌}
use mathlib.Core.List.{List}
use lib.Dec.{lit≤}
use lib.ListN.{length}
use Rattle.ac.specs.Limits.{limits}
use Rattle.ac.specs.Pair.{matching}
use Rattle.ac.specs.Keys.{Beginning, start}
use Rattle.ac.specs.Pages.{together}
use Rattle.ac.specs.Match.{Match, NoMatch, Separate, ExactlyOne}
use Rattle.ac.specs.Replacement.{Replacement}
use Rattle.ac.proofs.Pattern.{left_variables, match_unifies}
use Rattle.ac.proofs.Subject.{no_balanced, comes_from_same}
use Rattle.numbers.specs.First.{NoneOf}
use Rattle.numbers.specs.Numbers.{said_of}
use Rattle.numbers.specs.Order.{sides_numbers, rows_numbers, page_numbers}
use Rattle.numbers.specs.Outcome.{Outcome, refused, given, is_given}
use Rattle.numbers.specs.declared.Refusal.TheVariants.{NoUnifier}
use Rattle.pair.specs.Given.{PairGiven}
use Rattle.solver.specs.Rows.{GroupSizes, RowsPromise}
use Rattle.solver.specs.Rows as its_rows
use Rattle.solver.specs.Page.{PageGiven, PageWritten, PagePromise}
use Rattle.solver.specs.Page as its_page
use Rattle.solver.specs.Values.{ValuesGiven, ValuesPromise}
use Rattle.solver.specs.Values as its_values
use Rattle.solver.specs.Existence.{NoneUnifies}
use Rattle.solver.specs.Pages.{PagesAsked}
use Rattle.solver.proofs.Limits.{WithinLimits, within_limits, sides_give_none}
use Rattle.solver.proofs.Pages.{asked_within}
use Rattle.whole.specs.Whole.{ValuesAsked, WholeSet, replacement_at}
use Rattle.whole.specs.Matching.{ReadAt, EveryMatch}
use Rattle.whole.proofs.Exist.{pages_and_answers, pages_wherever_given}
use Rattle.whole.proofs.Whole.{whole, none_at_all, values_none_at_all}

module _ {L R : List ℕ} where
  -- within the limits no variable stands on both sides
  separate_sides : WithinLimits (matching L) L R → Separate L R
  separate_sides fine a is_variable on_left on_right =
      fine.sides_separate refl
      (record { variable = a; is_variable = is_variable; on_left = on_left; on_right = on_right })

  -- so what a question says where nothing unifies it says where there is no match
  none_matched : {Given : ℕ → Type 0} → ((n : ℕ) → PairGiven limits (matching L) L R n → Given n) → {Says : Type 0}
      → Says ↔ (NoneOf Given rows_numbers × NoneUnifies (matching L) L R)
      → Says ↔ (NoneOf Given rows_numbers × NoMatch L R)
  none_matched {Given} of_the_sides says = (
    λ said.
        let none = says.0 said in
        (none.0, λ θ match. none.1 θ ((match_unifies L R (separate none.0)).0 match)),
    λ none. says.1 (none.0, λ θ unifies. none.1 θ ((match_unifies L R (separate none.0)).1 unifies)),
  )
    where
      separate : NoneOf Given rows_numbers → Separate L R
      separate none = separate_sides (within_limits (sides_give_none of_the_sides none))

  -- a whole set of unifiers is every match, once each: what comes from a match is that match
  matches_of_set : WithinLimits (matching L) L R → {answers : List (List ℕ)} → WholeSet (matching L) L R answers
      → EveryMatch L R answers
  matches_of_set fine {answers} set = record { each_matches = each; exactly_once = once }
    where
      each : (i : ℕ) → i < length answers → Match L R (replacement_at answers i)
      each i h = (match_unifies L R (separate_sides fine)).1 (set.each_unifies i h)

      once : (θ : Replacement) → Match L R θ → ExactlyOne (ReadAt L answers θ)
      once θ match =
          let found = set.every_comes_from_one θ ((match_unifies L R (separate_sides fine)).0 match) in
          let same = (comes_from_same fine.right_side (lit≤ tt) (each found.0 found.1)).0 found.2 in
          record {
            one = found.0;
            has = record { on_list = found.1; same = same };
            no_other = λ j read. set.none_twice j found.0 read.on_list found.1
                (λ x m b. let left = (left_variables L R).0 m in sym (read.same x left b) ∙ same x left b);
          }

  -- Every match is read back from exactly one answer, and nothing else is.
  pub every_match : {pages answers : List (List ℕ)} → PagesAsked (matching L) L R start pages
      → ValuesAsked (matching L) L R (together pages) answers → EveryMatch L R answers
  every_match asked answered = matches_of_set (asked_within refl asked) (whole asked answered)

  -- There are such pages and answers wherever Page gives none of its numbers, ..
  pub matches_answered : {begin : Beginning} {wanted : ℕ} {out : List ℕ}
      → NoneOf (PageGiven (matching L) L R begin wanted out) page_numbers
      → (pages answers : List (List ℕ)) × PagesAsked (matching L) L R start pages
      × ValuesAsked (matching L) L R (together pages) answers
  matches_answered = pages_wherever_given

  -- .. and wherever there is a match and the sides give none of their numbers.
  pub match_answered : NoneOf (PairGiven limits (matching L) L R) sides_numbers → {θ : Replacement} → Match L R θ
      → (pages answers : List (List ℕ)) × PagesAsked (matching L) L R start pages
      × ValuesAsked (matching L) L R (together pages) answers
  match_answered none {θ} match =
      pages_and_answers none (θ, (match_unifies L R (separate_sides (within_limits none))).0 match)

  -- Page gives 13 exactly where there is no match, unless a number that comes before it is given.
  pub no_match_at_all : {begin : Beginning} {wanted : ℕ} {out out' : List ℕ} {outcome : Outcome PageWritten}
      → PagePromise (matching L) L R begin wanted out outcome out'
      → (outcome ≡ refused (said_of NoUnifier))
      ↔ (NoneOf (PageGiven (matching L) L R begin wanted out) rows_numbers × NoMatch L R)
  no_match_at_all promise = none_matched (λ n number. its_page.of_the_sides number) (none_at_all promise)

  -- So does Values, whatever the key.
  pub values_no_match_at_all : {key : ℕ} {out out' : List ℕ} {outcome : Outcome ℕ}
      → ValuesPromise (matching L) L R key out outcome out'
      → (outcome ≡ refused (said_of NoUnifier))
      ↔ (NoneOf (ValuesGiven (matching L) L R key out) rows_numbers × NoMatch L R)
  values_no_match_at_all promise =
      none_matched (λ n number. its_values.of_the_sides number) (values_none_at_all promise)

  -- Rows returns no balanced row.
  pub rows_none_balanced : {out out' : List ℕ} {sizes : GroupSizes}
      → RowsPromise (matching L) L R out (given sizes) out' → sizes.balanced ≡ 0
  rows_none_balanced (is_given none (its_rows.rows of)) =
      let fine = within_limits (sides_give_none (λ n number. its_rows.of_the_sides number) none) in
      ap length (no_balanced (separate_sides fine) of)
