-- What a client may ask on (document 01, "The questions"), by what Page and Values promise, in every mode.
--
-- `never_empty`. A page that is given has at least one key, and so a last one (`last_key`). What is written at a
-- place of the buffer stands on the page (`stands_on_page`).
-- `key_answered`. Values answers a key that stands on a page, whatever the page's beginning and count, if its
-- lent buffer is long enough. So none of its numbers but 16 is given of such a key.
-- `asked_on`. Where more follow, Page asked for after the last key gives a page if its lent buffer is long
-- enough; so 16 is the only number that it gives there (`refused_by_16_alone`).
--
-- Of a key that stands on no page nothing is said here: of one that is not on the list Values gives 14, by its
-- promise.
use Prim.Native.Nat.{ℕ, zero, suc, ◌<◌, ◌≤◌}
use native.Mathlib.Omega.{arith}
use native.Mathlib.Decide.{dec_le}
use mathlib.Core.Path.{◌≡◌, refl, sym, ap, subst, ◌∙◌}
use mathlib.Core.Bool.{true}
use mathlib.Core.List.Memᴰ
use mathlib.Core.List.{List, [], ◌∷◌, ◌++◌, Memᴰ}
use borrow.Author.Tests.{ltb-true}
use lib.ListN.{length, get_or, take, drop, length-drop}
use lib.Seq.{take-append_seam, get_or-take}
use Rattle.ac.specs.Limits.{limits}
use Rattle.ac.specs.Pair.{Mode}
use Rattle.ac.specs.Search.{groups}
use Rattle.ac.specs.Keys.{layout, keys, Beginning, start, after, remaining}
use Rattle.ac.proofs.Groups.{groups_exist}
use Rattle.ac.proofs.Listed.{keys_ascending}
use Rattle.ac.proofs.Pages.{page_members, remaining_after_page}
use Rattle.ac.proofs.Places.{get_or_member}
use Rattle.numbers.specs.First.{NoneOf}
use Rattle.numbers.specs.Numbers.{said_of}
use Rattle.numbers.specs.Order.{sides_numbers, rows_numbers, beginning_numbers}
use Rattle.numbers.specs.Outcome.{Said, Outcome, refused, given, is_given}
use Rattle.numbers.specs.declared.Refusal.TheVariants.{ShortBuffer}
use Rattle.numbers.proofs.Said.{refuses_other}
use Rattle.numbers.proofs.Carried.{none_front, none_given, none_of}
use Rattle.numbers.proofs.Parts.{first_short}
use Rattle.numbers.proofs.Promises.{refused_not_given, refused_rightly, given_none, said_unique, outcome_determined}
use Rattle.pair.specs.Given.{PairGiven}
use Rattle.pair.proofs.NetCounts.{lowest_unique}
use Rattle.list.specs.Given.{ListGiven, none_admissible, not_listed, last_listed}
use Rattle.list.proofs.Given.{list_number, listed_after, list_gives_none}
use Rattle.solver.specs.Page.{wanted_count, next_keys, PageWritten, PagePromise, of_the_sides, of_the_list, next}
use Rattle.solver.specs.Values.{values_buffer, values, ValuesPromise}
use Rattle.solver.proofs.Determined.{one_page, one_values}
use Rattle.solver.proofs.Given.{page_made, page_none, values_none}
use Rattle.solver.proofs.Limits.{within_limits, sides_give_none}
use Rattle.solver.proofs.Pages.{page_written_lem}

-- a list that is not empty has a front that is not
some_taken : (n : ℕ) (xs : List ℕ) → 0 < n → (xs ≡ [] → ⊥) → 0 < length (take n xs)
some_taken zero xs wanted some = absurd (omega arith)
some_taken (suc n) [] wanted some = absurd (some refl)
some_taken (suc n) (x ∷ xs) wanted some = omega arith

-- a first member
first_of : (xs : List ℕ) → 0 < length xs → (x : ℕ) × Memᴰ x xs
first_of [] some = absurd (omega arith)
first_of (x ∷ xs) some = (x, Memᴰ.head refl)

-- and a last one
last_of : (xs : List ℕ) → 0 < length xs → (before : List ℕ) × (last : ℕ) × (xs ≡ before ++ last ∷ [])
last_of [] some = absurd (omega arith)
last_of (x ∷ xs) some = go xs (last_of xs)
  where
    go : (rest : List ℕ) → (0 < length rest → (before : List ℕ) × (last : ℕ) × (rest ≡ before ++ last ∷ []))
        → (before : List ℕ) × (last : ℕ) × (x ∷ rest ≡ before ++ last ∷ [])
    go [] later = ([], x, refl)
    go (y ∷ rest) later = let t = later (omega arith) in (x ∷ t.0, t.1, ap {B = List ℕ} (λ l. x ∷ l) t.2)

-- how many are wanted, where 0 means 200, is never 0
some_wanted : (wanted : ℕ) → 0 < wanted_count wanted
some_wanted zero = omega arith
some_wanted (suc n) = omega arith

-- where the list gives no number, a key remains
list_remains : (begin : Beginning) {listed : List ℕ} → ((n : ℕ) → ListGiven listed begin n → ⊥)
    → remaining begin listed ≡ [] → ⊥
list_remains start never empty = never 13 (none_admissible empty)
list_remains (after k) never empty = never 14 (not_listed refl (λ m. never 15 (last_listed refl m empty)))

-- a page is as long as Page says
page-length : {M : Mode} {L R : List ℕ} {begin : Beginning} {wanted : ℕ} {answer : PageWritten} {out out' : List ℕ}
    → PagePromise M L R begin wanted out (given answer) out'
    → length (take answer.written out') ≡ answer.written
page-length {M} {L} {R} {begin} {wanted} {out = out} (is_given none (next {G = G} of)) =
    ap length
    (take-append_seam (next_keys M L R G begin wanted) (drop (length (next_keys M L R G begin wanted)) out))

module _ {M : Mode} {L R : List ℕ} {begin : Beginning} {wanted : ℕ} {answer : PageWritten} {out out' : List ℕ}
    (page : PagePromise M L R begin wanted out (given answer) out') where
  -- the sides of a page that is given give no number
  none_of_sides : NoneOf (PairGiven limits M L R) sides_numbers
  none_of_sides =
      sides_give_none (λ n number. of_the_sides number) (none_front rows_numbers beginning_numbers (given_none page))

  -- and its keys are on the list
  on_list : {key : ℕ} → Memᴰ key (take answer.written out') → Memᴰ key (keys M layout L R (groups M L R))
  on_list {key} m =
      page_members begin (wanted_count wanted)
      (subst (Memᴰ key) (page_written_lem (groups_exist M L R) page).0 m)

  -- of which some remain
  some_keys : 0 < length (take answer.written out')
  some_keys =
      subst (λ (l : List ℕ). 0 < length l) (sym (page_written_lem (groups_exist M L R) page).0)
      (some_taken (wanted_count wanted) (remaining begin (keys M layout L R (groups M L R))) (some_wanted wanted)
      (list_remains begin (λ n number.
      none_given (given_none page) (Memᴰ.append_right rows_numbers (list_number number))
      (of_the_list (groups_exist M L R) number))))

  -- A page is never empty.
  pub never_empty : 0 < answer.written
  never_empty = subst (λ n. 0 < n) (page-length page) some_keys

  -- So it has a last key, after which the next page can be asked for.
  pub last_key : (before : List ℕ) × (last : ℕ) × (take answer.written out' ≡ before ++ last ∷ [])
  last_key = last_of (take answer.written out') some_keys

  -- What stands in the buffer before the written end stands on the page.
  pub stands_on_page : (i : ℕ) → i < answer.written → Memᴰ (get_or out' i 0) (take answer.written out')
  stands_on_page i h =
      Memᴰ.cast (sym (get_or-take answer.written out' i 0 h))
      (get_or_member (take answer.written out') i 0 (subst (λ n. i < n) (sym (page-length page)) h))

  -- A key that stands on a page is answered, and not refused, where the lent buffer is long enough.
  pub key_answered : {key : ℕ} → Memᴰ key (take answer.written out') → {lent lent' : List ℕ}
      → values_buffer ≤ length lent → {outcome : Outcome ℕ}
      → ValuesPromise M L R key lent outcome lent' → (n : ℕ) × (outcome ≡ given n)
  key_answered m enough promise =
      let of = groups_exist M L R in (
        _,
        (outcome_determined one_values promise
            (is_given (values_none of none_of_sides enough (on_list m)) (values of))).0,
      )

module _ {M : Mode} {L R : List ℕ} {begin : Beginning} {wanted : ℕ} {answer : PageWritten} {out out' : List ℕ}
    (page : PagePromise M L R begin wanted out (given answer) out') (follow : answer.more ≡ true)
    (before : List ℕ) (last : ℕ) (ends : take answer.written out' ≡ before ++ last ∷ []) where
  -- keys remain after the last one of a page after which more follow
  some_remain : 0 < length (remaining (after last) (keys M layout L R (groups M L R)))
  some_remain =
      let of = groups_exist M L R in
      let listed = remaining begin (keys M layout L R (groups M L R)) in
      let ascending = keys_ascending ((within_limits (none_of_sides page)).groups_fit _ of) M L R in
      let left = remaining_after_page ascending begin (wanted_count wanted) before last
      (sym (page_written_lem of page).0 ∙ ends) in
      omega (
        arith,
        ap length left,
        length-drop (wanted_count wanted) listed,
        ltb-true (wanted_count wanted) (length listed)
            (sym (ap (λ p. p.more) (page_written_lem of page).1) ∙ follow),
      )

  -- so the list gives no number after it
  none_after_last : NoneOf (ListGiven (keys M layout L R (groups M L R)) (after last)) beginning_numbers
  none_after_last =
      let stands = subst (Memᴰ last) (sym ends) (Memᴰ.append_right before (Memᴰ.head refl)) in
      none_of (λ n. list_gives_none (listed_after (on_list page stands)) (first_of _ some_remain).1) beginning_numbers

  module _ {wanted' : ℕ} {lent lent' : List ℕ} where
    -- Where more follow, a page asked for after the last key is given where the lent buffer is long enough.
    pub asked_on : wanted_count wanted' ≤ length lent → {outcome : Outcome PageWritten}
        → PagePromise M L R (after last) wanted' lent outcome lent'
        → (following : PageWritten) × (outcome ≡ given following)
    asked_on enough promise =
        let of = groups_exist M L R in (
          _,
          (outcome_determined one_page promise
              (is_given (page_none of (none_of_sides page) enough none_after_last) (next of))).0,
        )

    -- It is never refused but by 16.
    pub refused_by_16_alone : {said : Said} → PagePromise M L R (after last) wanted' lent (refused said) lent'
        → said ≡ said_of ShortBuffer
    refused_by_16_alone {said} promise = go (dec_le (wanted_count wanted') (length lent))
      where
        go : Dec (wanted_count wanted' ≤ length lent) → said ≡ said_of ShortBuffer
        go (yes enough) = absurd (refused_not_given (asked_on enough promise).1)
        go (no short) =
            said_unique lowest_unique (refused_rightly promise)
            (refuses_other ShortBuffer refl (first_short (page_made (groups_exist M L R)) (omega arith)))
