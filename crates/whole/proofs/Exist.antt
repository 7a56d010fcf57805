-- The pages and answers that `whole` speaks of exist for every pair within the limits that has a unifier: one
-- page with all keys is enough (`pages_and_answers`). So they do wherever Page, asked for anywhere, gives none of
-- its numbers (`pages_wherever_given`).
use Prim.Native.Nat.{ℕ, suc, ◌≤◌}
use native.Mathlib.Omega.{arith}
use mathlib.Core.Path.{refl, subst}
use mathlib.Core.List.{List, [], ◌∷◌, Memᴰ}
use borrow.Author.Tests.{le-ltb}
use lib.ListN.{length, replicate, length-replicate}
use Rattle.ac.specs.Pair.{Mode}
use Rattle.ac.specs.Rows.{Groups, GroupsOf}
use Rattle.ac.specs.Keys.{layout, keys, Beginning, start}
use Rattle.ac.specs.Pages.{together}
use Rattle.ac.proofs.Groups.{groups_exist}
use Rattle.numbers.specs.First.{NoneOf}
use Rattle.numbers.proofs.Carried.{none_of, none_front}
use Rattle.list.proofs.Given.{start_not_after, list_gives_none}
use Rattle.ac.specs.Limits.{limits}
use Rattle.pair.specs.Given.{PairGiven}
use Rattle.numbers.specs.Order.{sides_numbers, rows_numbers, beginning_numbers, page_numbers}
use Rattle.numbers.specs.Outcome.{is_given}
use Rattle.solver.specs.Page.{PageGiven, of_the_sides, next}
use Rattle.solver.specs.Existence.{SomeUnifies}
use Rattle.solver.specs.Pages.{PagesAsked, no_more as no_more_pages}
use Rattle.solver.proofs.Given.{page_none, values_none}
use Rattle.solver.proofs.Limits.{sides_give_none, within_limits}
use Rattle.solver.proofs.Existence.{unifier_listed, page_existence}
use Rattle.solver.proofs.Pages.{pages_hold_the_list}
use Rattle.solver.specs.Values.{values_buffer, values}
use Rattle.whole.specs.Whole.{ValuesAsked, no_more, one_more}

-- a buffer of n places
abbrev room : ℕ → List ℕ
room n = replicate n 0

-- it has them
room_enough : (n : ℕ) → n ≤ length (room n)
room_enough n = omega (arith, length-replicate {A = ℕ} n 0)

module _ {M : Mode} {L R : List ℕ} (none : NoneOf (PairGiven limits M L R) sides_numbers)
    {G : Groups} (of : GroupsOf M L R G) where
  -- one page from the start, with room for more than all keys
  all_keys : {key : ℕ} → Memᴰ key (keys M layout L R G)
      → (pages : List (List ℕ)) × PagesAsked M L R start pages
  all_keys m =
      let wanted = suc (length (keys M layout L R G)) in
      let nothing =
      none_of (λ n. list_gives_none (λ k same. absurd (start_not_after same)) m) beginning_numbers in (
        _,
        no_more_pages {wanted = wanted} {out = room wanted}
            (is_given (page_none of none (room_enough wanted) nothing) (next of))
            (le-ltb wanted (length (keys M layout L R G)) (omega arith)),
      )

  -- Values answers each listed key
  all_answered : (asked : List ℕ) → ((key : ℕ) → Memᴰ key asked → Memᴰ key (keys M layout L R G))
      → (answers : List (List ℕ)) × ValuesAsked M L R asked answers
  all_answered [] listed = ([], no_more)
  all_answered (key ∷ asked) listed =
      let m = listed key (Memᴰ.head refl) in
      let others = all_answered asked (λ other m. listed other (Memᴰ.tail m)) in (
        _,
        one_more {out = room values_buffer}
            (is_given (values_none of none (room_enough values_buffer) m) (values of))
            others.1,
      )

-- Sides that give none of 7 to 12 and 19 and have a unifier have pages, and answers to their keys.
pub pages_and_answers : {M : Mode} {L R : List ℕ}
    → NoneOf (PairGiven limits M L R) sides_numbers → SomeUnifies M L R
    → (pages answers : List (List ℕ)) × PagesAsked M L R start pages × ValuesAsked M L R (together pages) answers
pages_and_answers {M} {L} {R} none some =
    let of = groups_exist M L R in
    let pages = all_keys none of (unifier_listed (within_limits none) of some.1).1 in
    let whole = (pages_hold_the_list of pages.1).whole in
    let answers = all_answered none of (together pages.0) (λ key m. subst (Memᴰ key) whole m) in
    (pages.0, answers.0, pages.1, answers.1)

-- So have sides of which Page gives none of its numbers, wherever it begins and whatever is wanted and lent.
pub pages_wherever_given : {M : Mode} {L R : List ℕ} {begin : Beginning} {wanted : ℕ} {out : List ℕ}
    → NoneOf (PageGiven M L R begin wanted out) page_numbers
    → (pages answers : List (List ℕ)) × PagesAsked M L R start pages × ValuesAsked M L R (together pages) answers
pages_wherever_given {M} {L} {R} none =
    pages_and_answers
    (sides_give_none (λ n number. of_the_sides number) (none_front rows_numbers beginning_numbers none))
    ((page_existence (is_given none (next (groups_exist M L R)))).page_where_some refl)
