-- How many unifiers there are (document 02, R-7), by what Count, Page and Rows promise, in every mode.
--
-- `count_exists`. Where the sides give none of 7 to 12 and 19, some number meets Count's promise. Where they give one,
-- Count is refused with what Rows is refused with (`refused_as_rows`).
-- `pages_hold_as_many`. Pages asked for one after the other hold together exactly as many keys as Count says.
-- `thirteen_where_none`. Page gives 13, wherever it begins, exactly where the number is 0, if its lent buffer is long
-- enough; and that is exactly where nothing unifies (`none_counted`).
-- `count_fits`. The number is at most that of all keys, 2 ^ 32.
use Prim.Native.Nat.{ℕ, ◌+◌, ◌*◌, ◌^◌, ◌≤◌}
use native.Mathlib.Omega.{arith}
use native.Mathlib.Nat.{le_trans}
use mathlib.Core.Path.{◌≡◌, refl, sym, ap, subst, ◌∙◌}
use mathlib.Core.Logic.{◌↔◌}
use mathlib.Core.List.{List, [], ◌∷◌}
use lib.ListN.{length}
use Rattle.ac.specs.Limits.{limits}
use Rattle.ac.specs.Pair.{Mode}
use Rattle.ac.specs.Search.{groups}
use Rattle.ac.specs.Keys.{layout, keys, Beginning, start}
use Rattle.ac.specs.Pages.{together}
use Rattle.ac.proofs.Counting.{keys_at_most, selections_fit}
use Rattle.ac.proofs.Groups.{groups_exist, groups_unique}
use Rattle.numbers.specs.First.{NoneOf, here}
use Rattle.numbers.specs.Numbers.{said_of}
use Rattle.numbers.specs.Order.{sides_numbers, beginning_numbers}
use Rattle.numbers.specs.Outcome.{Said, Outcome, refused, given, is_refused, is_given}
use Rattle.numbers.specs.declared.Refusal.TheVariants.{NoUnifier}
use Rattle.numbers.proofs.Carried.{first_given, its_member}
use Rattle.numbers.proofs.Parts.{first_of_sides}
use Rattle.numbers.proofs.Promises.{given_none, refused_first, refused_rightly, outcome_determined}
use Rattle.numbers.proofs.Said.{refuses_carried, refuses_other}
use Rattle.pair.specs.Given.{PairGiven}
use Rattle.list.specs.Given.{none_admissible}
use Rattle.list.proofs.Given.{given_13}
use Rattle.solver.specs.Rows.{rows_buffer, RowsPromise}
use Rattle.solver.specs.Page.{wanted_count, PageWritten, PagePromise}
use Rattle.solver.specs.Pages.{PagesAsked}
use Rattle.solver.specs.Count.{CountPromise, as_listed}
use Rattle.solver.specs.Existence.{NoneUnifies}
use Rattle.solver.proofs.Determined.{one_page}
use Rattle.solver.proofs.Existence.{empty_none, none_empty}
use Rattle.solver.proofs.Given.{rows_made, page_given, page_first}
use Rattle.solver.proofs.Limits.{WithinLimits, within_limits}
use Rattle.solver.proofs.Pages.{pages_hold_the_list}

-- a list is empty exactly where its length is 0
none_there : (ks : List ℕ) → length ks ≡ 0 → ks ≡ []
none_there [] e = refl
none_there (k ∷ ks) e = absurd (omega arith)

module _ {M : Mode} {L R : List ℕ} where
  -- Some number meets the promise, where the sides give none of theirs.
  pub count_exists : NoneOf (PairGiven limits M L R) sides_numbers → (n : ℕ) × CountPromise M L R (given n)
  count_exists none = (_, is_given none (as_listed (groups_exist M L R)))

  -- Where Count is refused, so is Rows, if its lent buffer is long enough, and with the same number and atom.
  pub refused_as_rows : {said : Said} → CountPromise M L R (refused said) → {out : List ℕ} → rows_buffer ≤ length out
      → RowsPromise M L R out (refused said) out
  refused_as_rows promise enough =
      is_refused (refuses_carried (first_of_sides rows_made enough []) (refused_rightly promise))

  module _ {n : ℕ} (counted : CountPromise M L R (given n)) where
    -- it is the length of the list
    as_long : {m : ℕ} → CountPromise M L R (given m) → m ≡ length (keys M layout L R (groups M L R))
    as_long (is_given none (as_listed of)) =
        ap (λ H. length (keys M layout L R H)) (groups_unique M L R of (groups_exist M L R))

    fine : WithinLimits M L R
    fine = within_limits (given_none counted)

    -- Pages asked for one after the other from the start hold together exactly as many keys.
    pub pages_hold_as_many : {pages : List (List ℕ)} → PagesAsked M L R start pages → length (together pages) ≡ n
    pages_hold_as_many asked = ap length (pages_hold_the_list (groups_exist M L R) asked).whole ∙ sym (as_long counted)

    empty_list : n ≡ 0 → keys M layout L R (groups M L R) ≡ []
    empty_list none = none_there (keys M layout L R (groups M L R)) (sym (as_long counted) ∙ none)

    none_listed : keys M layout L R (groups M L R) ≡ [] → n ≡ 0
    none_listed empty = as_long counted ∙ ap length empty

    -- 13 is what Page gives exactly where the number is 0.
    pub thirteen_where_none : {begin : Beginning} {wanted : ℕ} {out out' : List ℕ} {outcome : Outcome PageWritten}
        → wanted_count wanted ≤ length out → PagePromise M L R begin wanted out outcome out'
        → (outcome ≡ refused (said_of NoUnifier)) ↔ (n ≡ 0)
    thirteen_where_none {begin} {wanted} {out} {out'} enough page = (
      λ thirteen. none_listed (given_13 refl (page_given (groups_exist M L R) (its_member beginning_numbers refl)
          (first_given (refused_first (subst (λ o. PagePromise M L R begin wanted out o out') thirteen page))))),
      λ none. (outcome_determined one_page page (is_refused (refuses_other NoUnifier refl
          (page_first (groups_exist M L R) (given_none counted) enough (here (none_admissible (empty_list none))))))).0,
    )

    -- The number is 0 exactly where nothing unifies.
    pub none_counted : (n ≡ 0) ↔ NoneUnifies M L R
    none_counted = (
      λ none. empty_none fine (groups_exist M L R) (empty_list none),
      λ nothing. none_listed (none_empty fine (groups_exist M L R) nothing),
    )

    -- The number is at most 2 ^ 32.
    pub count_fits : n ≤ 2 ^ (layout.index_bits * layout.constants + layout.rows)
    count_fits =
        subst (λ m. m ≤ 2 ^ (layout.index_bits * layout.constants + layout.rows)) (sym (as_long counted))
        (le_trans (keys_at_most M layout L R (groups M L R))
        (selections_fit (fine.groups_fit (groups M L R) (groups_exist M L R))))
