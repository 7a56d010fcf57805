-- The theorems on matching against a fixed subject (document 02, R-4): "Every replacement of the left variables by
-- non-empty sums that makes the sides equal is listed, and exactly once." This is the file to read first; the words of
-- the statements stand in specs/Match.antt. L is the left side, R the right side, and no variable stands on both; G are
-- the groups of their rows, `new` is the first new variable, above all atoms. They follow from those on unifiers in any
-- mode (Theorems.antt): the matches are the replacements that unify (`match_unifies`, Pattern.antt), and no new variable
-- stands in a value (`no_balanced`, `values_of_constants`, Subject.antt).
use Prim.Native.Nat.{ℕ, ◌≤◌}
use mathlib.Core.Path.{◌≡◌, refl, sym, ap, subst, ◌∙◌}
use mathlib.Core.Logic.{◌↔◌}
use mathlib.Core.Bool.{true}
use mathlib.Core.List.Memᴰ
use mathlib.Core.List.{List, [], Memᴰ}
use Rattle.ac.specs.Pair.{IsSide, matching}
use Rattle.ac.specs.Rows.{Groups, GroupsOf}
use Rattle.ac.specs.Selection.{Selection, SelectionOf, admissible, value}
use Rattle.ac.specs.Keys.{Layout, Fits, key_of, selection_at, keys}
use Rattle.ac.specs.Replacement.{Replacement}
use Rattle.ac.specs.Match.{Match, NoMatch, Separate, SameMatch, ExactlyOne, SelectsMatch, ListsMatch}
use Rattle.ac.proofs.Filled.{same_comes}
use Rattle.ac.proofs.Keys.{taken_apart, packed, candidate_selection}
use Rattle.ac.proofs.Listed.{listed_exactly, listed_candidates}
use Rattle.ac.proofs.Pattern.{left_variables, match_unifies}
use Rattle.ac.proofs.Subject.{comes_from_same, no_members}
use Rattle.ac.proofs.Theorems.{sound, complete, independent}

module _ {L R : List ℕ} (left : IsSide L) (right : IsSide R) (separate : Separate L R) {G : Groups}
    (groups : GroupsOf (matching L) L R G) where
  module _ {new : ℕ} (above : 128 ≤ new) where
    -- The values of an admissible selection are a match.
    pub selection_matches : {s : Selection} → SelectionOf G s → admissible (matching L) new L R G s ≡ true
        → Match L R (value (matching L) new L R G s)
    selection_matches selection ok =
        (match_unifies L R separate).1 (sound (matching L) new L R left right groups selection ok)

    -- Two admissible selections whose values are the same match are one.
    pub one_selection : {s t : Selection} {θ : Replacement} → SelectsMatch new L R G θ s
        → SelectsMatch new L R G θ t → s ≡ t
    one_selection one two =
        independent (matching L) new L R above groups one.of_the_groups two.of_the_groups one.is_admissible
        two.is_admissible
        (same_comes (matching L) new L R
        (λ x m b.
        let is_left = (left_variables L R).0 m in
        sym (one.its_values x is_left b) ∙ two.its_values x is_left b))

    -- EXACTLY ONCE. For every match there is exactly one admissible selection whose values are it, sum for sum.
    pub selected_once : {θ : Replacement} → Match L R θ → ExactlyOne (SelectsMatch new L R G θ)
    selected_once {θ} match =
        let found = complete (matching L) new L R left right above groups ((match_unifies L R separate).0 match) in
        let has : SelectsMatch new L R G θ found.0 =
        record {
          of_the_groups = found.1;
          is_admissible = found.2;
          its_values = (comes_from_same right above (selection_matches found.1 found.2)).0 found.3;
        } in
        record { one = found.0; has = has; no_other = λ other its. one_selection its has }

  -- Over keys, where the groups fit a layout.
  module _ {lay : Layout} (above : 128 ≤ lay.new) (fits : Fits lay G) where
    -- the selection of a key that lists a match selects it
    lists_selects : {θ : Replacement} {key : ℕ} → ListsMatch lay L R G θ key
        → SelectsMatch lay.new L R G θ (selection_at lay G key)
    lists_selects lists =
        let candidate = (listed_candidates fits (matching L) L R).0 lists.on_list in
        record {
          of_the_groups = candidate_selection fits candidate.0;
          is_admissible = candidate.1;
          its_values = lists.its_values;
        }

    -- and the key of a selection that selects a match lists it
    selects_lists : {θ : Replacement} {s : Selection} → SelectsMatch lay.new L R G θ s
        → ListsMatch lay L R G θ (key_of lay s)
    selects_lists {θ} {s} selects =
        record {
          on_list = (listed_exactly fits (matching L) L R).1
              (record {
                selection = s;
                of_the_groups = selects.of_the_groups;
                is_admissible = selects.is_admissible;
                its_key = refl;
              });
          its_values = subst (λ t. SameMatch L θ (value (matching L) lay.new L R G t))
              (sym (taken_apart fits selects.of_the_groups)) selects.its_values;
        }

    -- The values of a listed key are a match.
    pub key_matches : {key : ℕ} → Memᴰ key (keys (matching L) lay L R G)
        → Match L R (value (matching L) lay.new L R G (selection_at lay G key))
    key_matches m =
        let candidate = (listed_candidates fits (matching L) L R).0 m in
        selection_matches above (candidate_selection fits candidate.0) candidate.1

    -- EXACTLY ONCE. Every match is listed, and exactly once: exactly one key of the list has it for its values, sum for
    -- sum.
    pub listed_once : {θ : Replacement} → Match L R θ → ExactlyOne (ListsMatch lay L R G θ)
    listed_once {θ} match =
        let selected = selected_once above match in
        record {
          one = key_of lay selected.one;
          has = selects_lists selected.has;
          no_other = λ other lists.
              sym (packed fits ((listed_candidates fits (matching L) L R).0 lists.on_list).0)
              ∙ ap (key_of lay) (selected.no_other (selection_at lay G other) (lists_selects lists));
        }

    -- EMPTY. The list is empty exactly where there is no match.
    pub empty_no_match : (keys (matching L) lay L R G ≡ []) ↔ NoMatch L R
    empty_no_match = (
      λ empty θ match.
          let once = listed_once match in
          Memᴰ.not-nil (subst (Memᴰ once.one) empty once.has.on_list),
      λ nothing. no_members (keys (matching L) lay L R G) (λ key m. nothing _ (key_matches m)),
    )
