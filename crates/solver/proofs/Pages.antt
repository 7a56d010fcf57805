-- Pages asked for one after the other hold together the whole list, no key twice.
use Prim.Native.Nat.{ℕ, ◌<◌}
use mathlib.Core.Path.{◌≡◌, refl, sym, ◌∙◌, ap, subst}
use mathlib.Core.List.{List, ◌++◌, append-nil}
use borrow.Author.Tests.{ltb-false}
use lib.ListN.{length, take, drop, take-append-drop}
use lib.Seq.{take_all, take-append_seam}
use Rattle.ac.specs.Lists.{Ascending}
use Rattle.ac.specs.Pair.{Mode}
use Rattle.ac.specs.Rows.{Groups, GroupsOf}
use Rattle.ac.specs.Keys.{layout, keys, Beginning, start, remaining}
use Rattle.ac.specs.Pages.{together, WholeList}
use Rattle.ac.proofs.Groups.{groups_exist, groups_unique}
use Rattle.ac.proofs.Listed.{keys_ascending}
use Rattle.ac.proofs.Pages.{remaining_after_page}
use Rattle.numbers.proofs.Carried.{first_given, its_member}
use Rattle.numbers.proofs.Promises.{refused_first}
use Rattle.list.proofs.Given.{given_15}
use Rattle.numbers.specs.Order.{beginning_numbers}
use Rattle.numbers.specs.Outcome.{given, is_given}
use Rattle.solver.specs.Page.{wanted_count, next_keys, PageWritten, page_written, next, PagePromise}
use Rattle.solver.specs.Pages.{PagesAsked, one_more, no_more, was_last}
use Rattle.solver.proofs.Given.{page_given}
use Rattle.solver.proofs.Limits.{WithinLimits}
use Rattle.solver.proofs.Existence.{fine_page}

module _ {M : Mode} {L R : List ℕ} {G : Groups} (of : GroupsOf M L R G) where
  -- what a page's promise says of it: the next keys, whether more follow, and how many candidates were weighed
  pub page_written_lem : {begin : Beginning} {wanted : ℕ} {page : PageWritten} {out out' : List ℕ}
      → PagePromise M L R begin wanted out (given page) out'
      → (take page.written out' ≡ next_keys M L R G begin wanted) × (page ≡ page_written M L R G begin wanted)
  page_written_lem {begin} {wanted} {out = out} (is_given none (next {G = H} others)) =
      let same : H ≡ G = groups_unique M L R others of in (
        take-append_seam (next_keys M L R H begin wanted) (drop (length (next_keys M L R H begin wanted)) out)
            ∙ ap (λ K. next_keys M L R K begin wanted) same,
        ap (λ K. page_written M L R K begin wanted) same,
      )

  -- together they are what remains from the beginning
  pub pages_together : {begin : Beginning} {pages : List (List ℕ)} → Ascending ◌<◌ (keys M layout L R G)
      → PagesAsked M L R begin pages
      → together pages ≡ remaining begin (keys M layout L R G)
  pages_together ascending (one_more {begin = begin} {wanted = wanted} {pages = pages} before last promise
      ends rest) =
      let this = page_written_lem promise in
      ap (λ (l : List ℕ). l ++ together pages) this.0
      ∙ ap (λ (l : List ℕ). next_keys M L R G begin wanted ++ l)
      (pages_together ascending rest ∙ remaining_after_page ascending begin (wanted_count wanted) before last
      (sym this.0 ∙ ends))
      ∙ take-append-drop (wanted_count wanted) (remaining begin (keys M layout L R G))
  pages_together ascending (no_more {begin = begin} {wanted = wanted} promise ends) =
      let this = page_written_lem promise in
      append-nil _ ∙ this.0
      ∙ take_all (wanted_count wanted) (remaining begin (keys M layout L R G))
      (ltb-false (wanted_count wanted) (length (remaining begin (keys M layout L R G)))
      (sym (ap (λ p. p.more) this.1) ∙ ends))
  pages_together ascending (was_last promise) =
      sym (given_15 refl (page_given of (its_member beginning_numbers refl) (first_given (refused_first promise)))).0

-- a page tells that the pair is within the limits
page_within : {M : Mode} {L R : List ℕ} {begin : Beginning} {wanted : ℕ} {page : PageWritten} {out out' : List ℕ}
    → PagePromise M L R begin wanted out (given page) out' → WithinLimits M L R
page_within (is_given none (next of)) = fine_page none of

pub asked_within : {M : Mode} {L R : List ℕ} {begin : Beginning} {pages : List (List ℕ)} → begin ≡ start
    → PagesAsked M L R begin pages → WithinLimits M L R
asked_within from_start (one_more before last promise ends rest) = page_within promise
asked_within from_start (no_more promise ends) = page_within promise
asked_within {M} {L} {R} from_start (was_last promise) =
    absurd ((given_15 refl (page_given (groups_exist M L R) (its_member beginning_numbers refl)
    (first_given (refused_first promise)))).1 from_start)

-- Pages asked for one after the other from the start hold together the whole list, no key twice.
pub pages_hold_the_list : {M : Mode} {L R : List ℕ} {G : Groups} {pages : List (List ℕ)} → GroupsOf M L R G
    → PagesAsked M L R start pages
    → WholeList (keys M layout L R G) pages
pages_hold_the_list {M} {L} {R} {G} of asked =
    let ascending = keys_ascending ((asked_within refl asked).groups_fit G of) M L R in
    let whole = pages_together of ascending asked in
    record { whole = whole; none_twice = subst (Ascending ◌<◌) (sym whole) ascending }
