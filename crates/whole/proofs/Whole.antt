-- What Page and Values give together (document 01, "What every promise has to say", demand 3). This is the file
-- to read first; the words of the statements stand in specs/Whole.antt. They speak of promises and bytes alone,
-- not of code, and hold in every mode: whichever atoms are variables, and whether or not a value may be empty.
--
-- `whole`. For all sides, whatever lists of bytes they are: let pages be asked for one after the other from the
-- start until no more follow, each after the last key of the one before, with any counts and any lent buffers;
-- and let Values be asked for each key on them, with any lent buffer, and answer. If all of these meet the
-- promises, the replacements read back from the bytes each unify, every unifier comes from one of them, none
-- comes from another, and none stands twice. That there are such pages and answers wherever there is a unifier is
-- `pages_and_answers` of Exist.antt.
-- `none_at_all` and `values_none_at_all`. The other end: Page and Values give 13 exactly where no replacement
-- unifies, unless a number that comes before it is given.
--
-- What a client may ask on, and is answered, is in OnPages.antt. The same from the bytes of a block, with the
-- terms and unifiers of source document 000, is in Unifiers.antt.
use Prim.Native.Nat.{ℕ}
use mathlib.Core.Path.{◌≡◌, refl, subst}
use mathlib.Core.Logic.{◌↔◌}
use mathlib.Core.List.{List}
use Rattle.ac.specs.Pair.{Mode}
use Rattle.ac.specs.Keys.{Beginning, start}
use Rattle.ac.specs.Pages.{together}
use Rattle.ac.proofs.Groups.{groups_exist}
use Rattle.numbers.specs.First.{First, NoneOf, here}
use Rattle.numbers.proofs.Carried.{first_after, first_given, first_past, its_member}
use Rattle.numbers.proofs.Parts.{given_list}
use Rattle.numbers.specs.Numbers.{said_of}
use Rattle.numbers.specs.Order.{rows_numbers, key_numbers, beginning_numbers, values_numbers}
use Rattle.numbers.specs.Outcome.{Outcome, refused, is_refused}
use Rattle.numbers.specs.declared.Refusal.TheVariants.{NoUnifier}
use Rattle.numbers.proofs.Promises.{refused_first, outcome_determined}
use Rattle.numbers.proofs.Said.{refuses_other}
use Rattle.list.specs.Given.{none_admissible}
use Rattle.list.proofs.Given.{given_13}
use Rattle.solver.specs.Page.{PageGiven, PageWritten, PagePromise}
use Rattle.solver.specs.Values.{ValuesGiven, of_the_sides, of_the_list, ValuesPromise}
use Rattle.solver.specs.Existence.{NoneUnifies}
use Rattle.solver.specs.Pages.{PagesAsked}
use Rattle.solver.proofs.Determined.{one_values}
use Rattle.solver.proofs.Existence.{page_existence, empty_none, none_empty}
use Rattle.solver.proofs.Given.{values_made}
use Rattle.solver.proofs.Limits.{WithinLimits, within_limits, sides_give_none}
use Rattle.whole.specs.Whole.{ValuesAsked, WholeSet}
use Rattle.whole.proofs.Answered.{whole_set}

pub whole : {M : Mode} {L R : List ℕ} {pages answers : List (List ℕ)} → PagesAsked M L R start pages
    → ValuesAsked M L R (together pages) answers
    → WholeSet M L R answers
whole asked answered = whole_set asked answered

module _ {M : Mode} {L R : List ℕ} {begin : Beginning} {wanted : ℕ} {out : List ℕ} where
  none_before_13 : {out' : List ℕ} → PagePromise M L R begin wanted out (refused (said_of NoUnifier)) out'
      → NoneOf (PageGiven M L R begin wanted out) rows_numbers
  none_before_13 promise = first_past rows_numbers beginning_numbers refl (refused_first promise)

  -- Page gives 13 exactly where no replacement unifies, unless a number that comes before it is given.
  pub none_at_all : {outcome : Outcome PageWritten} {out' : List ℕ}
      → PagePromise M L R begin wanted out outcome out'
      → (outcome ≡ refused (said_of NoUnifier))
      ↔ (NoneOf (PageGiven M L R begin wanted out) rows_numbers × NoneUnifies M L R)
  none_at_all {out' = out'} promise =
      let exists = page_existence promise in (
        λ e. (
          none_before_13 (subst (λ o. PagePromise M L R begin wanted out o out') e promise),
          exists.only_where_none e,
        ),
        λ none. exists.always_where_none none.0 none.1,
      )

module _ {M : Mode} {L R : List ℕ} {key : ℕ} {out : List ℕ} where
  fine_sides : NoneOf (ValuesGiven M L R key out) rows_numbers → WithinLimits M L R
  fine_sides none = within_limits (sides_give_none (λ n number. of_the_sides number) none)

  -- where nothing unifies, the list is empty, and 13 the next number of Values
  next_13 : NoneOf (ValuesGiven M L R key out) rows_numbers → NoneUnifies M L R
      → First (ValuesGiven M L R key out) values_numbers 13
  next_13 none nothing =
      let of = groups_exist M L R in
      first_after none (here (of_the_list of (none_admissible (none_empty (fine_sides none) of nothing))))

  -- and where 13 is the first number, the list is empty
  first_13 : First (ValuesGiven M L R key out) values_numbers 13
      → NoneOf (ValuesGiven M L R key out) rows_numbers × NoneUnifies M L R
  first_13 first =
      let none = first_past rows_numbers key_numbers refl first in
      let of = groups_exist M L R in (
        none,
        empty_none (fine_sides none) of
            (given_13 refl (given_list (values_made of) (its_member beginning_numbers refl) (first_given first))),
      )

  -- So does Values, whatever the key.
  pub values_none_at_all : {outcome : Outcome ℕ} {out' : List ℕ} → ValuesPromise M L R key out outcome out'
      → (outcome ≡ refused (said_of NoUnifier))
      ↔ (NoneOf (ValuesGiven M L R key out) rows_numbers × NoneUnifies M L R)
  values_none_at_all {out' = out'} promise = (
    λ e. first_13 (refused_first (subst (λ o. ValuesPromise M L R key out o out') e promise)),
    λ none. (outcome_determined one_values promise
        (is_refused (refuses_other NoUnifier refl (next_13 none.0 none.1)))).0,
  )
