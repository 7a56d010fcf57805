-- The answers of Values to the keys of all pages are the pair's unifiers, in every mode.
use Prim.Native.Nat.{ℕ, ◌<◌}
use native.Mathlib.Omega.{arith}
use mathlib.Core.Path.{◌≡◌, refl, ap, sym, subst, ◌∙◌}
use mathlib.Core.List.{List, Memᴰ}
use lib.ListN.{length, get_or}
use Rattle.ac.specs.Pair.{Mode, variables}
use Rattle.ac.specs.Search.{groups}
use Rattle.ac.specs.Keys.{layout, keys, start}
use Rattle.ac.specs.Pages.{together, WholeList}
use Rattle.ac.specs.Replacement.{Replacement, Unifies, ComesFrom}
use Rattle.ac.proofs.Filled.{same_comes}
use Rattle.ac.proofs.Groups.{groups_exist}
use Rattle.ac.proofs.Places.{get_or_member, one_place}
use Rattle.ac.proofs.Agree.{Agree, unifies_alike, comes_alike}
use Rattle.pair.proofs.Lists.{member_at}
use Rattle.solver.specs.Existence.{replacement_of}
use Rattle.solver.specs.Pages.{PagesAsked}
use Rattle.solver.proofs.Existence.{key_unifies, unifier_listed, keys_independent}
use Rattle.solver.proofs.Pages.{asked_within, pages_hold_the_list}
use Rattle.whole.specs.Whole.{replacement_at, ValuesAsked, WholeSet}
use Rattle.whole.proofs.Named.{as_many_answers, answers_name}

module _ {M : Mode} {L R : List ℕ} {pages answers : List (List ℕ)} (asked : PagesAsked M L R start pages)
    (answered : ValuesAsked M L R (together pages) answers) where
  -- the pages hold together the list of the pair's groups
  list : WholeList (keys M layout L R (groups M L R)) pages
  list = pages_hold_the_list (groups_exist M L R) asked

  -- an answer's key, by its place, is on the list, and the answer is read back as what the key names
  at_key : (i : ℕ) → i < length answers → i < length (together pages)
  at_key i h = omega (arith, as_many_answers answered)

  -- so it is on the list
  listed : (i : ℕ) → i < length answers → Memᴰ (get_or (together pages) i 0) (keys M layout L R (groups M L R))
  listed i h = subst (Memᴰ (get_or (together pages) i 0)) list.whole
      (get_or_member (together pages) i 0 (at_key i h))

  -- and what is read back of its answer is what it names
  named : (i : ℕ) → i < length answers
      → Agree (variables M L R) (replacement_at answers i)
      (replacement_of M L R (groups M L R) (get_or (together pages) i 0))
  named = answers_name (groups_exist M L R) answered

  -- each unifies, since its key does
  each_unifies : (i : ℕ) → i < length answers → Unifies M L R (replacement_at answers i)
  each_unifies i h =
      let fine = asked_within refl asked in
      unifies_alike M L R fine.left_side fine.right_side (λ x m. sym (named i h x m))
      (key_unifies fine (groups_exist M L R) (listed i h))

  -- every unifier comes from one, since it comes from a key on the list
  every_comes_from_one : (θ : Replacement) → Unifies M L R θ
      → (i : ℕ) × (i < length answers) × ComesFrom M layout.new L R (replacement_at answers i) θ
  every_comes_from_one θ unifies =
      let found = unifier_listed (asked_within refl asked) (groups_exist M L R) unifies in
      let place = member_at (subst (Memᴰ found.0) (sym list.whole) found.1) in
      let within : place.0 < length answers = omega (arith, place.1, as_many_answers answered) in (
        place.0,
        within,
        comes_alike M layout.new L R
            (λ x m. ap (λ key. replacement_of M L R (groups M L R) key x) (sym place.2)
            ∙ sym (named place.0 within x m)) (λ x m. refl) found.2,
      )

  -- none comes from another, since no key does
  none_from_another : (i j : ℕ) → i < length answers → j < length answers
      → ComesFrom M layout.new L R (replacement_at answers i) (replacement_at answers j) → i ≡ j
  none_from_another i j h h' comes =
      one_place list.none_twice i j (at_key i h) (at_key j h')
      (keys_independent (asked_within refl asked) (groups_exist M L R) (listed i h) (listed j h')
      (comes_alike M layout.new L R (named i h) (named j h') comes))

  -- all of it
  pub whole_set : WholeSet M L R answers
  whole_set =
      record {
        each_unifies = each_unifies;
        every_comes_from_one = every_comes_from_one;
        none_from_another = none_from_another;
        none_twice = λ i j h h' same. none_from_another i j h h' (same_comes M layout.new L R same);
      }
