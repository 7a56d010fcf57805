-- The one answer of each question, for sides that keep the limits and for their groups.
use Prim.Native.Nat.{ℕ, ◌≤◌}
use native.Mathlib.Omega.{arith}
use mathlib.Core.Path.{◌≡◌, refl, sym, ap, subst, subst₂, ◌∙◌}
use mathlib.Core.Bool.{false}
use mathlib.Core.List.{List, [], ◌∷◌, map, Memᴰ}
use borrow.Author.Tests.{le-ltb}
use lib.Dec.{ltb}
use lib.Seq.{take_all}
use lib.ListN.{length, take}
use Rattle.ac.specs.Lists.{receives}
use Rattle.ac.specs.Pair.{unifying, variables}
use Rattle.ac.specs.Rows.{Groups, GroupsOf}
use Rattle.ac.specs.Selection.{Selection, SelectionOf, value, admissible}
use Rattle.ac.specs.Keys.{layout, key_of, selections, listed, keys, Beginning, start, after, remaining, Fits}
use Rattle.ac.specs.Weighed.{candidates, weighed}
use Rattle.ac.specs.Values.{laid_out, bindings}
use Rattle.ac.proofs.Order.{filter_member}
use Rattle.ac.proofs.Members.{members_map}
use Rattle.ac.proofs.Listed.{selections_are}
use Rattle.ac.proofs.Keys.{taken_apart}
use Rattle.numbers.specs.First.{NoneOf, here}
use Rattle.numbers.proofs.Carried.{none_of}
use Rattle.ac.specs.Limits.{limits}
use Rattle.pair.specs.Given.{PairGiven}
use Rattle.numbers.specs.Order.{sides_numbers, beginning_numbers}
use Rattle.numbers.specs.Outcome.{given, is_refused, is_given}
use Rattle.numbers.proofs.Parts.{none_of_sides}
use Rattle.numbers.specs.declared.Refusal.TheVariants.{NoUnifier}
use Rattle.numbers.proofs.Promises.{outcome_determined}
use Rattle.numbers.proofs.Said.{refuses_other}
use Rattle.solver.specs.Rows.{sizes_of, all_rows, rows}
use Rattle.list.specs.Given.{none_admissible}
use Rattle.list.proofs.Given.{start_not_after, list_gives_none}
use Rattle.solver.specs.Page.{wanted_count, next_keys, page_written, next}
use Rattle.solver.proofs.Determined.{one_rows, one_page, one_values}
use Rattle.solver.proofs.Given.{rows_made, page_first, page_none, values_none}
use Rattle.solver.proofs.Limits.{within_limits}
use Rattle.solver.specs.Values.{values, values_of}
use Rattle.worked.specs.Questions.{page_question}
use Rattle.worked.specs.Answers.{Answers, page_of, RowsAnswers, PageAnswers, ValuesAnswers, ValuesGiveInTurn}
use Rattle.worked.specs.Answers as turn

module _ {L R : List ℕ} {G : Groups}
    (groups : GroupsOf unifying L R G) (never : (n : ℕ) → PairGiven limits unifying L R n → ⊥) where
  nothing : NoneOf (PairGiven limits unifying L R) sides_numbers
  nothing = none_of never sides_numbers

  -- Rows gives the groups of the pair
  pub rows_of_groups : RowsAnswers L R (sizes_of G) (all_rows G)
  rows_of_groups out enough =
      let met = is_given (none_of_sides rows_made enough nothing) (rows groups) in
      record { meets = met; alone = λ other exit p. outcome_determined one_rows p met }

  module _ (begin : Beginning) (on_List : (k : ℕ) → begin ≡ after k → Memᴰ k (keys unifying layout L R G)) where
    -- where a key remains after the beginning, the next ones are the page
    pub page_wanted : (wanted key : ℕ) → Memᴰ key (remaining begin (keys unifying layout L R G))
        → (out : List ℕ) → wanted_count wanted ≤ length out
        → Answers page_question (record { left = L; right = R; also = record { begin = begin; wanted = wanted } }) out
        (given (page_written unifying L R G begin wanted)) (receives out (next_keys unifying L R G begin wanted))
    page_wanted wanted key remains out enough =
        let none_left = none_of (λ n. list_gives_none on_List remains) beginning_numbers in
        let met = is_given (page_none groups nothing enough none_left) (next groups) in
        record { meets = met; alone = λ other exit p. outcome_determined one_page p met }

    -- at most 200 that remain are one page
    pub page_from : (key : ℕ) (others : List ℕ) → remaining begin (keys unifying layout L R G) ≡ key ∷ others
        → length (key ∷ others) ≤ 200
        → (out : List ℕ) → 200 ≤ length out
        → Answers page_question (record { left = L; right = R; also = record { begin = begin; wanted = 0 } }) out
        (given (page_of (length (key ∷ others)) false (weighed begin (key ∷ others) (candidates unifying layout G))))
        (receives out (key ∷ others))
    page_from key others e few out enough =
        subst₂ (λ ks more. Answers page_question
        (record { left = L; right = R; also = record { begin = begin; wanted = 0 } }) out
        (given (page_of (length ks) more (weighed begin ks (candidates unifying layout G)))) (receives out ks)) whole no_more
        (page_wanted 0 key (subst (Memᴰ key) (sym e) (Memᴰ.head refl)) out enough)
      where
        whole : take 200 (remaining begin (keys unifying layout L R G)) ≡ key ∷ others
        whole = ap (take 200) e ∙ take_all 200 (key ∷ others) few

        no_more : ltb 200 (length (remaining begin (keys unifying layout L R G))) ≡ false
        no_more = le-ltb 200 (length (remaining begin (keys unifying layout L R G))) (omega (arith, ap length e))

  -- a list of at most 200 keys is one page; an empty one is 13
  pub page_of_list : (ks : List ℕ) → keys unifying layout L R G ≡ ks → length ks ≤ 200
      → PageAnswers L R (weighed start ks (candidates unifying layout G)) ks
  page_of_list [] e few out enough =
      let first = page_first groups nothing enough (here (none_admissible e)) in
      let met = is_refused (refuses_other NoUnifier refl first) in
      record { meets = met; alone = λ other exit p. outcome_determined one_page p met }
  page_of_list (key ∷ others) e few out enough =
      page_from start (λ k same. absurd (start_not_after same)) key others e few out enough

  -- a listed key has its values
  pub values_of_key : (key : ℕ) → Memᴰ key (keys unifying layout L R G)
      → ValuesAnswers L R key (values_of unifying L R G key)
  values_of_key key listed_key out enough =
      let met = is_given (values_none groups nothing enough listed_key) (values groups) in
      record { meets = met; alone = λ other exit p. outcome_determined one_values p met }

  -- the groups are within the limits of a key
  fits : Fits layout G
  fits = (within_limits nothing).groups_fit G groups

  -- of the keys of listed selections in turn, the values of those selections
  pub in_turn : (ss : List Selection)
      → ((s : Selection) → Memᴰ s ss → Memᴰ s (listed unifying layout L R G))
      → ValuesGiveInTurn L R (map (key_of layout) ss)
      (map (λ s. bindings (value unifying layout.new L R G s) (variables unifying L R)) ss)
  in_turn [] from = turn.none
  in_turn (s ∷ ss) from = turn.next first (in_turn ss (λ t m. from t (Memᴰ.tail m)))
    where
      of_groups : SelectionOf G s
      of_groups = (selections_are G).0 (filter_member (admissible unifying layout.new L R G) (selections G)
          (from s (Memᴰ.head refl))).0

      first : ValuesAnswers L R (key_of layout s)
          (laid_out (bindings (value unifying layout.new L R G s) (variables unifying L R)))
      first =
          subst (λ t. ValuesAnswers L R (key_of layout s)
          (laid_out (bindings (value unifying layout.new L R G t) (variables unifying L R))))
          (taken_apart fits of_groups) (values_of_key (key_of layout s)
          (members_map (key_of layout) (from s (Memᴰ.head refl))))
