-- Of pairs that are alike whole lists can be compared, "last week's list with this one" (document 02, R-6): however
-- the pages were asked for, and whatever was lent, the keys are the same (`lists_alike`) and so are the answers of
-- Values to them (`answers_alike`). Such pages and answers, and results of each question, exist of both pairs
-- wherever no number is given of one (`rows_exist`, `page_exist`, `values_exist`, `lists_exist`).
use Prim.Native.Nat.{ℕ}
use mathlib.Core.Path.{◌≡◌, refl, sym, ap, ap₂, ◌∙◌}
use mathlib.Core.List.{List, ◌∷◌}
use lib.ListN.{length, take, drop}
use lib.Seq.{take-append_seam}
use Rattle.ac.specs.Limits.{limits}
use Rattle.ac.specs.Pair.{Mode}
use Rattle.ac.specs.Rows.{Groups, GroupsOf}
use Rattle.ac.specs.Search.{groups}
use Rattle.ac.specs.Keys.{layout, Beginning, start}
use Rattle.ac.specs.Pages.{together}
use Rattle.ac.proofs.Groups.{groups_exist, groups_unique}
use Rattle.numbers.specs.First.{NoneOf}
use Rattle.numbers.specs.Order.{sides_numbers, rows_numbers, page_numbers, values_numbers}
use Rattle.numbers.specs.Outcome.{given, is_given}
use Rattle.pair.specs.Given.{PairGiven}
use Rattle.solver.specs.Rows.{GroupSizes, RowsGiven, RowsPromise, rows}
use Rattle.solver.specs.Page.{PageGiven, PageWritten, PagePromise, next}
use Rattle.solver.specs.Values.{ValuesGiven, ValuesPromise, values_of, values}
use Rattle.solver.specs.Pages.{PagesAsked}
use Rattle.solver.specs.Pages as pages
use Rattle.solver.specs.Existence.{SomeUnifies}
use Rattle.solver.proofs.Pages.{pages_hold_the_list}
use Rattle.whole.specs.Whole.{ValuesAsked, no_more, one_more}
use Rattle.whole.specs.Alike.{Alike}
use Rattle.whole.proofs.Exist.{pages_and_answers}
use Rattle.whole.proofs.AlikeGroups.{groups_carried, keys_alike}
use Rattle.whole.proofs.AlikeAnswers.{bytes_alike, rows_carried, page_carried, values_carried}

-- ---- whole lists compared

-- what Values writes of a key are the bytes of its values
written_values : {M : Mode} {L R : List ℕ} {G : Groups} → GroupsOf M L R G → {key n : ℕ} {out exit : List ℕ}
    → ValuesPromise M L R key out (given n) exit → take n exit ≡ values_of M L R G key
written_values {M} {L} {R} of {key} {out = out} (is_given none (values {G = H} others)) =
    take-append_seam (values_of M L R H key) (drop (length (values_of M L R H key)) out)
    ∙ ap (λ K. values_of M L R K key) (groups_unique M L R others of)

module _ {M M' : Mode} {L R L' R' : List ℕ} (alike : Alike limits M L R M' L' R') where
  -- Pages asked for from the start until no more follow hold the same keys, however many were wanted each time.
  pub lists_alike : {pages pages' : List (List ℕ)} → PagesAsked M L R start pages → PagesAsked M' L' R' start pages'
      → together pages ≡ together pages'
  lists_alike asked asked' =
      let of = groups_exist M L R in
      (pages_hold_the_list of asked).whole
      ∙ keys_alike alike layout (groups M L R)
      ∙ sym (pages_hold_the_list (groups_carried alike of) asked').whole

  -- What Values answers to these keys is the same, whatever was lent.
  pub answers_alike : {keys : List ℕ} {answers answers' : List (List ℕ)} → ValuesAsked M L R keys answers
      → ValuesAsked M' L' R' keys answers'
      → answers ≡ answers'
  answers_alike no_more no_more = refl
  answers_alike (one_more {key = key} promise others) (one_more promise' others') =
      let of = groups_exist M L R in
      ap₂ {C = List (List ℕ)} (λ answer rest. answer ∷ rest)
      (written_values of promise
      ∙ bytes_alike alike (groups M L R) key
      ∙ sym (written_values (groups_carried alike of) promise')) (answers_alike others others')

  -- ---- what meets the promises on both pairs exists

  pub rows_exist : (out : List ℕ) → NoneOf (RowsGiven M L R out) rows_numbers
      → (sizes : GroupSizes) × (exit : List ℕ) × RowsPromise M L R out (given sizes) exit
      × RowsPromise M' L' R' out (given sizes) exit
  rows_exist out none =
      let met = is_given none (rows (groups_exist M L R)) in
      (_, _, met, rows_carried alike met)

  pub page_exist : (begin : Beginning) (wanted : ℕ) (out : List ℕ)
      → NoneOf (PageGiven M L R begin wanted out) page_numbers
      → (keys : PageWritten) × (exit : List ℕ) × PagePromise M L R begin wanted out (given keys) exit
      × PagePromise M' L' R' begin wanted out (given keys) exit
  page_exist begin wanted out none =
      let met = is_given none (next (groups_exist M L R)) in
      (_, _, met, page_carried alike met)

  pub values_exist : (key : ℕ) (out : List ℕ) → NoneOf (ValuesGiven M L R key out) values_numbers
      → (size : ℕ) × (exit : List ℕ) × ValuesPromise M L R key out (given size) exit
      × ValuesPromise M' L' R' key out (given size) exit
  values_exist key out none =
      let met = is_given none (values (groups_exist M L R)) in
      (_, _, met, values_carried alike met)

  -- pages and answers on the one pair are pages and answers on the other
  pages_carried : {begin : Beginning} {asked : List (List ℕ)} → PagesAsked M L R begin asked
      → PagesAsked M' L' R' begin asked
  pages_carried (pages.one_more before last promise seam rest) =
      pages.one_more before last (page_carried alike promise) seam (pages_carried rest)
  pages_carried (pages.no_more promise ends) = pages.no_more (page_carried alike promise) ends
  pages_carried (pages.was_last promise) = pages.was_last (page_carried alike promise)

  answers_carried : {keys : List ℕ} {answers : List (List ℕ)} → ValuesAsked M L R keys answers
      → ValuesAsked M' L' R' keys answers
  answers_carried no_more = no_more
  answers_carried (one_more promise others) = one_more (values_carried alike promise) (answers_carried others)

  -- Sides that give none of 7 to 12 and 19 and have a unifier have pages, and answers to their keys, that are those of
  -- both.
  pub lists_exist : NoneOf (PairGiven limits M L R) sides_numbers → SomeUnifies M L R
      → (asked answers : List (List ℕ))
      × (PagesAsked M L R start asked × ValuesAsked M L R (together asked) answers)
      × (PagesAsked M' L' R' start asked × ValuesAsked M' L' R' (together asked) answers)
  lists_exist none some =
      let found = pages_and_answers none some in (
        found.0,
        found.1,
        (found.2, found.3),
        (pages_carried found.2, answers_carried found.3),
      )
