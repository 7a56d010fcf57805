-- Demand 3 follows from Page's promise: 13 exactly where nothing unifies, all else only where something does.
-- The keys that are written unify, none comes from another, and on a page with the whole list every unifier
-- comes from one.
use Prim.Native.Nat.{ℕ, ◌<◌}
use native.Mathlib.Omega.{arith}
use mathlib.Core.Path.{◌≡◌, refl, sym, ◌∙◌, ap, subst}
use mathlib.Core.Bool.{true, false}
use mathlib.Core.Logic.{◌⊎◌, inl, inr, ⊎_elim}
use mathlib.Core.List.Memᴰ
use mathlib.Core.List.{List, [], ◌∷◌, ◌++◌, Memᴰ}
use borrow.Author.Tests.{ltb-false}
use lib.Dec.{lit≤}
use lib.ListN.{length, get_or, get_or-append}
use lib.Seq.{take_all}
use Rattle.ac.specs.Lists.{receives}
use Rattle.ac.specs.Pair.{Mode}
use Rattle.ac.specs.Rows.{Groups, GroupsOf}
use Rattle.ac.specs.Selection.{Selection, value}
use Rattle.ac.specs.Keys.{layout, keys, key_of, Beginning, start, remaining}
use Rattle.ac.specs.Replacement.{Replacement, Unifies, ComesFrom}
use Rattle.ac.proofs.Groups.{groups_exist, groups_unique}
use Rattle.ac.proofs.Keys.{taken_apart, packed, candidate_selection}
use Rattle.ac.proofs.Listed.{keys_ascending, listed_exactly, listed_candidates}
use Rattle.ac.proofs.Pages.{page_members, page_ascending}
use Rattle.ac.proofs.Places.{get_or_member, one_place}
use Rattle.ac.proofs.Theorems.{sound, complete, independent}
use Rattle.numbers.specs.First.{First, NoneOf, here}
use Rattle.numbers.specs.Order.{rows_numbers, page_numbers, beginning_numbers}
use Rattle.numbers.specs.Outcome.{Outcome, refused, is_refused, is_given}
use Rattle.numbers.specs.declared.Refusal.TheVariants.{NoUnifier}
use Rattle.numbers.proofs.Laws.{first_not_none}
use Rattle.numbers.proofs.Said.{refuses_other}
use Rattle.numbers.proofs.Carried.{first_after, none_front, first_given, none_given, its_member, elsewhere, first_past}
use Rattle.pair.proofs.Lists.{member_at}
use Rattle.list.specs.Given.{none_admissible}
use Rattle.list.proofs.Given.{given_13}
use Rattle.solver.specs.Page.{wanted_count, next_keys, more_follow, PageGiven, of_the_sides, of_the_list, PageWritten, next, PagePromise}
use Rattle.numbers.proofs.Promises.{refused_not_given, same_values, same_number, said_unique}
use Rattle.pair.proofs.NetCounts.{lowest_unique}
use Rattle.solver.specs.Existence.{SomeUnifies, NoneUnifies, replacement_of, PageExistence}
use Rattle.solver.proofs.Given.{page_given}
use Rattle.solver.proofs.Limits.{WithinLimits, within_limits, sides_give_none}

empty_or_member : (bs : List ℕ) → (bs ≡ []) ⊎ ((b : ℕ) × Memᴰ b bs)
empty_or_member [] = inl refl
empty_or_member (b ∷ bs) = inr (b, Memᴰ.head refl)

-- The list and the pair's unifiers.
module _ {M : Mode} {L R : List ℕ} (fine : WithinLimits M L R) {G : Groups} (of : GroupsOf M L R G) where
  pub key_unifies : {key : ℕ} → Memᴰ key (keys M layout L R G) → Unifies M L R (replacement_of M L R G key)
  key_unifies m =
      let candidate = (listed_candidates (fine.groups_fit G of) M L R).0 m in
      sound M layout.new L R fine.left_side fine.right_side of
      (candidate_selection (fine.groups_fit G of) candidate.0) candidate.1

  pub unifier_listed : {θ : Replacement} → Unifies M L R θ
      → (key : ℕ) × Memᴰ key (keys M layout L R G)
      × ComesFrom M layout.new L R (replacement_of M L R G key) θ
  unifier_listed {θ} unifies =
      let found = complete M layout.new L R fine.left_side fine.right_side (lit≤ tt) of unifies in (
        key_of layout found.0,
        (listed_exactly (fine.groups_fit G of) M L R).1
            (record { selection = found.0; of_the_groups = found.1; is_admissible = found.2; its_key = refl }),
        subst (λ (s : Selection). ComesFrom M layout.new L R (value M layout.new L R G s) θ)
            (sym (taken_apart (fine.groups_fit G of) found.1))
            found.3,
      )

  -- of two keys of the list neither names a replacement that comes from the other's
  pub keys_independent : {key other : ℕ} → Memᴰ key (keys M layout L R G)
      → Memᴰ other (keys M layout L R G)
      → ComesFrom M layout.new L R (replacement_of M L R G key) (replacement_of M L R G other) → key ≡ other
  keys_independent m m' comes =
      let fits = fine.groups_fit G of in
      let one = (listed_candidates fits M L R).0 m in
      let two = (listed_candidates fits M L R).0 m' in
      sym (packed fits one.0)
      ∙ ap (key_of layout)
      (independent M layout.new L R (lit≤ tt) of (candidate_selection fits one.0)
      (candidate_selection fits two.0) one.1 two.1 comes)
      ∙ packed fits two.0

  pub empty_none : keys M layout L R G ≡ [] → NoneUnifies M L R
  empty_none e θ unifies = let found =
      unifier_listed unifies in Memᴰ.not-nil (subst (Memᴰ found.0) e found.1)

  pub none_empty : NoneUnifies M L R → keys M layout L R G ≡ []
  none_empty nothing =
      ⊎_elim (λ empty. empty) (λ some. absurd
      (nothing (replacement_of M L R G some.0) (key_unifies some.1)))
      (empty_or_member (keys M layout L R G))

  pub listed_some : (keys M layout L R G ≡ [] → ⊥) → SomeUnifies M L R
  listed_some some =
      ⊎_elim (λ empty. absurd (some empty)) (λ one. (replacement_of M L R G one.0, key_unifies one.1))
      (empty_or_member (keys M layout L R G))

-- the numbers up to the one that says that the list is empty
abbrev upto_empty : List ℕ
upto_empty = rows_numbers ++ (13 ∷ [])

module _ {M : Mode} {L R : List ℕ} {begin : Beginning} {wanted : ℕ} {out : List ℕ} where
  -- where nothing up to 12 is given, the sides and the groups are within the limits
  fine_sides : NoneOf (PageGiven M L R begin wanted out) rows_numbers → WithinLimits M L R
  fine_sides none = within_limits (sides_give_none (λ n number. of_the_sides number) none)

  -- 13 is the answer where nothing before it is given and nothing unifies
  first_13 : NoneOf (PageGiven M L R begin wanted out) rows_numbers → NoneUnifies M L R
      → First (PageGiven M L R begin wanted out) page_numbers 13
  first_13 none nothing =
      let empty = none_empty (fine_sides none) (groups_exist M L R) nothing in
      first_after none (here (of_the_list (groups_exist M L R) (none_admissible empty)))

  -- and something unifies where 13 is not given either
  some_past_13 : NoneOf (PageGiven M L R begin wanted out) upto_empty
      → SomeUnifies M L R
  some_past_13 none =
      listed_some (fine_sides (none_front rows_numbers (13 ∷ []) none))
      (groups_exist M L R)
      (λ e. none_given none (its_member upto_empty refl) (of_the_list (groups_exist M L R) (none_admissible e)))

  -- Of a refusal.
  module _ {n : ℕ} (first : First (PageGiven M L R begin wanted out) page_numbers n) where
    only_13 : n ≡ 13 → NoneUnifies M L R
    only_13 e =
        let at-13 = subst (First (PageGiven M L R begin wanted out) page_numbers) e first in
        let none = first_past rows_numbers beginning_numbers refl at-13 in
        empty_none (fine_sides none) (groups_exist M L R)
        (given_13 e (page_given (groups_exist M L R)
        (subst (λ k. Memᴰ k beginning_numbers) (sym e) (its_member beginning_numbers refl)) (first_given first)))

    some_later : {m : ℕ} → elsewhere m upto_empty ≡ true → n ≡ m → SomeUnifies M L R
    some_later {m} past e =
        let at_m = subst (First (PageGiven M L R begin wanted out) page_numbers) e first in
        some_past_13 (first_past upto_empty (14 ∷ 15 ∷ []) past at_m)

  -- Of a page.
  module _ {G : Groups} (none : NoneOf (PageGiven M L R begin wanted out) page_numbers) (of : GroupsOf M L R G) where
    pub fine_page : WithinLimits M L R
    fine_page = fine_sides (none_front rows_numbers beginning_numbers none)

    page_some : SomeUnifies M L R
    page_some = some_past_13 (none_front upto_empty (14 ∷ 15 ∷ []) none)

    -- what stands in the buffer is a key of the page, and so of the list
    at_place : (i : ℕ) → i < length (next_keys M L R G begin wanted)
        → get_or (receives out (next_keys M L R G begin wanted)) i 0 ≡ get_or (next_keys M L R G begin wanted) i 0
    at_place i h = get_or-append (next_keys M L R G begin wanted) _ 0 i h

    on_list : (i : ℕ) → i < length (next_keys M L R G begin wanted)
        → Memᴰ (get_or (receives out (next_keys M L R G begin wanted)) i 0) (keys M layout L R G)
    on_list i h =
        Memᴰ.cast (at_place i h)
        (page_members begin (wanted_count wanted) (get_or_member (next_keys M L R G begin wanted) i 0 h))

    pub page_unifies : (i : ℕ) → i < length (next_keys M L R G begin wanted)
        → Unifies M L R (replacement_of M L R G (get_or (receives out (next_keys M L R G begin wanted)) i 0))
    page_unifies i h = key_unifies fine_page of (on_list i h)

    -- the keys of a page ascend, so none of them stands at two places
    pub page_independent : (i j : ℕ) → i < length (next_keys M L R G begin wanted)
        → j < length (next_keys M L R G begin wanted)
        → ComesFrom M layout.new L R
        (replacement_of M L R G (get_or (receives out (next_keys M L R G begin wanted)) i 0))
        (replacement_of M L R G (get_or (receives out (next_keys M L R G begin wanted)) j 0))
        → i ≡ j
    page_independent i j h h' comes =
        one_place (page_ascending begin (wanted_count wanted) (keys_ascending (fine_page.groups_fit G of) M L R))
        i j h h'
        (sym (at_place i h) ∙ keys_independent fine_page of (on_list i h) (on_list j h') comes ∙ at_place j h')

    -- a page from the start after which no more follow is the whole list
    pub page_covers : begin ≡ start → more_follow M L R G begin wanted ≡ false → (θ : Replacement) → Unifies M L R θ
        → (i : ℕ) × (i < length (next_keys M L R G begin wanted))
        × ComesFrom M layout.new L R (replacement_of M L R G
        (get_or (receives out (next_keys M L R G begin wanted)) i 0)) θ
    page_covers from_start no_more θ unifies =
        let found = unifier_listed fine_page of unifies in
        let place = member_at (subst (Memᴰ found.0) (sym whole) found.1) in (
          place.0,
          place.1,
          subst (λ key. ComesFrom M layout.new L R (replacement_of M L R G key) θ)
              (sym (at_place place.0 place.1 ∙ place.2)) found.2,
        )
      where
        whole : next_keys M L R G begin wanted ≡ keys M layout L R G
        whole =
            take_all (wanted_count wanted) (remaining begin (keys M layout L R G))
            (ltb-false (wanted_count wanted) (length (remaining begin (keys M layout L R G))) no_more)
            ∙ ap (λ b. remaining b (keys M layout L R G)) from_start

-- Whatever meets Page's promise meets demand 3.
pub page_existence : {M : Mode} {L R : List ℕ} {begin : Beginning} {wanted : ℕ} {out : List ℕ}
    {outcome : Outcome PageWritten} {out' : List ℕ}
    → PagePromise M L R begin wanted out outcome out' → PageExistence M L R begin wanted out outcome out'
page_existence (is_refused refuses) =
    record {
      only_where_none = λ e. only_13 refuses.first (same_number e);
      always_where_none = λ none nothing. ap refused
          (said_unique lowest_unique refuses (refuses_other NoUnifier refl (first_13 none nothing)));
      unlisted_where_some = λ e. some_later refuses.first {m = 14} refl (same_number e);
      last_where_some = λ e. some_later refuses.first {m = 15} refl (same_number e);
      page_where_some = λ e. absurd (refused_not_given e);
      written_unify = λ i of e h. absurd (refused_not_given e);
      written_cover = λ of from_start e ends θ unifies. absurd (refused_not_given e);
      written_independent = λ i j of e h h' comes. absurd (refused_not_given e);
    }
page_existence {M} {L} {R} {begin} {wanted} {out} (is_given none (next {G = G} of)) =
    record {
      only_where_none = λ e. absurd (refused_not_given (sym e));
      always_where_none = λ up-to-12 nothing. absurd (first_not_none (first_13 up-to-12 nothing) none);
      unlisted_where_some = λ e. absurd (refused_not_given (sym e));
      last_where_some = λ e. absurd (refused_not_given (sym e));
      page_where_some = λ e. page_some none of;
      written_unify =
          λ i other e h.
          subst (λ H. Unifies M L R (replacement_of M L R H
          (get_or (receives out (next_keys M L R G begin wanted)) i 0)))
          (groups_unique M L R of other) (page_unifies none of i (omega (arith, ap (λ p. p.written) (same_values e))));
      written_cover =
          λ other from_start e ends θ unifies.
          let covered = page_covers none of from_start (ap (λ p. p.more) (same_values e) ∙ ends) θ unifies in (
            covered.0,
            omega (arith, covered.1, ap (λ p. p.written) (same_values e)),
            subst
                (λ H. ComesFrom M layout.new L R
                (replacement_of M L R H (get_or (receives out (next_keys M L R G begin wanted)) covered.0 0)) θ)
                (groups_unique M L R of other) covered.2,
          );
      written_independent =
          λ i j other e h h' comes.
          let written = ap (λ p. p.written) (same_values e) in
          page_independent none of i j (omega (arith, written)) (omega (arith, written))
          (subst
          (λ H. ComesFrom M layout.new L R
          (replacement_of M L R H (get_or (receives out (next_keys M L R G begin wanted)) i 0))
          (replacement_of M L R H (get_or (receives out (next_keys M L R G begin wanted)) j 0)))
          (groups_unique M L R other of) comes);
    }
