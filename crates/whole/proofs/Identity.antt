-- Sums with an identity (document 02, R-10), by what Rows, Page and Values promise in the mode `identity` and by their
-- bytes. The words of the statements stand in specs/Identity.antt and ac/specs/Identity.antt. They follow from what holds
-- in every mode (Whole.antt, Exist.antt).
--
-- `whole_identity`. For all sides, whatever lists of bytes they are: let pages be asked for one after the other from the
-- start, and Values for each key on them. If all of these meet the promises, the replacements read back from the bytes
-- each make the sides equal, every replacement that does is filled from one of them, and none from another, where values
-- and sums for new variables may be empty.
-- `identity_unifiers` and `identity_general`. The same in the words of source document 002: of two terms in which 0 may
-- stand, asked for by their flattened sides, the substitutions read back are a complete set of minimal, and of most
-- general, unifiers modulo associativity, commutativity and identity.
-- `identity_none` and `values_identity_none`. Page and Values give 13 exactly where some unbalanced constant has no row,
-- unless a number that comes before it is given; and exactly there no replacement makes the sides equal.
-- `identity_seven`. 7 says that a side has more than 64 atoms.
-- `identity_rows`. Rows is Rows in unifying wherever unifying does not give 7.
use Prim.Native.Nat.{ℕ, ◌<◌}
use native.Mathlib.Omega.{arith}
use mathlib.Core.Path.{◌≡◌, refl, sym}
use mathlib.Core.Logic.{◌↔◌, ◌⊎◌, inl, inr, ⊎_elim}
use mathlib.Core.Bool.{true≢false}
use mathlib.Core.List.{List, map}
use borrow.Author.Tests.{le-ltb}
use lib.ListN.{length}
use Rattle.ac.specs.Limits.{limits}
use Rattle.ac.specs.Pair.{unifying, identity}
use Rattle.ac.specs.Keys.{layout, Beginning, start}
use Rattle.ac.specs.Pages.{together}
use Rattle.ac.specs.Theory.{MinimalSet}
use Rattle.ac.specs.Identity.{TermWithZero, flatten, AC1, MostGeneralSet, WithoutRow}
use Rattle.ac.proofs.Groups.{identity-groups}
use Rattle.ac.proofs.Identity.{unifies_equal, comes_filled, ac1_sums, most_general}
use Rattle.ac.proofs.WithoutRow.{unifies_without_row}
use Rattle.numbers.specs.First.{NoneOf}
use Rattle.numbers.specs.Numbers.{said_of}
use Rattle.numbers.specs.Order.{rows_numbers}
use Rattle.numbers.specs.Outcome.{Outcome, refused}
use Rattle.numbers.specs.declared.Refusal.TheVariants.{NoUnifier}
use Rattle.numbers.proofs.Alike.{Agree, outcomes_agree}
use Rattle.pair.specs.Given.{left, right, LowestFar, PairGiven, side_length, no_atom, on_both_sides, many_variables, far_net_count, many_constants, many_rows}
use Rattle.solver.specs.Rows.{GroupSizes, RowsGiven, RowsGives, RowsPromise, rows}
use Rattle.solver.specs.Rows as its_rows
use Rattle.solver.specs.Page.{PageGiven, PageWritten, PagePromise}
use Rattle.solver.specs.Page as its_page
use Rattle.solver.specs.Values.{ValuesGiven, ValuesPromise}
use Rattle.solver.specs.Values as its_values
use Rattle.solver.specs.Existence.{NoneUnifies}
use Rattle.solver.specs.Pages.{PagesAsked}
use Rattle.solver.proofs.Determined.{one_rows}
use Rattle.solver.proofs.Limits.{within_limits, sides_give_none}
use Rattle.whole.specs.Whole.{ValuesAsked}
use Rattle.whole.specs.Unifiers.{read_substitution}
use Rattle.whole.specs.Identity.{WholeIdentity}
use Rattle.whole.proofs.Whole.{whole, none_at_all, values_none_at_all}
use Rattle.whole.proofs.Substitutions.{answers_minimal_set}

module _ {L R : List ℕ} where
  -- Each makes the sides equal, every one that does is filled from one of them, and none from another.
  pub whole_identity : {pages answers : List (List ℕ)} → PagesAsked identity L R start pages
      → ValuesAsked identity L R (together pages) answers → WholeIdentity L R answers
  whole_identity asked answered =
      let set = whole asked answered in
      record {
        each_equal = λ i h. unifies_equal.0 (set.each_unifies i h);
        every_filled_from_one =
            λ θ equal.
            let found = set.every_comes_from_one θ (unifies_equal.1 equal) in
            (found.0, found.1, comes_filled.0 found.2);
        none_from_another = λ i j h h' from. set.none_from_another i j h h' (comes_filled.1 from);
      }

  -- so what a question says where nothing unifies it says where a constant has no row
  none_without_row : {Given : ℕ → Type 0} → ((n : ℕ) → PairGiven limits identity L R n → Given n) → {Says : Type 0}
      → Says ↔ (NoneOf Given rows_numbers × NoneUnifies identity L R)
      → Says ↔ (NoneOf Given rows_numbers × WithoutRow identity L R)
  none_without_row {Given} of_the_sides says = (
    λ said. let none = says.0 said in (none.0, (lacking none.0).0 none.1),
    λ none. says.1 (none.0, (lacking none.0).1 none.1),
  )
    where
      lacking : NoneOf Given rows_numbers → NoneUnifies identity L R ↔ WithoutRow identity L R
      lacking none =
          let fine = within_limits (sides_give_none of_the_sides none) in
          unifies_without_row identity L R refl fine.left_side fine.right_side

  -- Page gives 13 exactly where some unbalanced constant has no row, unless a number that comes before it is given.
  pub identity_none : {begin : Beginning} {wanted : ℕ} {out out' : List ℕ} {outcome : Outcome PageWritten}
      → PagePromise identity L R begin wanted out outcome out'
      → (outcome ≡ refused (said_of NoUnifier))
      ↔ (NoneOf (PageGiven identity L R begin wanted out) rows_numbers × WithoutRow identity L R)
  identity_none promise = none_without_row (λ n number. its_page.of_the_sides number) (none_at_all promise)

  -- So does Values, whatever the key.
  pub values_identity_none : {key : ℕ} {out out' : List ℕ} {outcome : Outcome ℕ}
      → ValuesPromise identity L R key out outcome out'
      → (outcome ≡ refused (said_of NoUnifier))
      ↔ (NoneOf (ValuesGiven identity L R key out) rows_numbers × WithoutRow identity L R)
  values_identity_none promise =
      none_without_row (λ n number. its_values.of_the_sides number) (values_none_at_all promise)

  -- 7 is given exactly where a side has more than 64 atoms.
  pub identity_seven : PairGiven limits identity L R 7
      ↔ ((limits.most_atoms < length L) ⊎ (limits.most_atoms < length R))
  identity_seven = (its, ⊎_elim (λ many. side_length left (inr many)) (λ many. side_length right (inr many)))
    where
      its : PairGiven limits identity L R 7 → (limits.most_atoms < length L) ⊎ (limits.most_atoms < length R)
      its (side_length left (inl few)) = absurd (omega arith)
      its (side_length left (inr many)) = inl many
      its (side_length right (inl few)) = absurd (omega arith)
      its (side_length right (inr many)) = inr many

-- The substitutions read back from the answers to the flattened sides of two terms are a complete set of minimal unifiers
-- of them, ..
pub identity_unifiers : (s t : TermWithZero) {pages answers : List (List ℕ)}
    → PagesAsked identity (flatten s) (flatten t) start pages
    → ValuesAsked identity (flatten s) (flatten t) (together pages) answers
    → MinimalSet AC1 identity layout.new s t (map (read_substitution AC1) answers)
identity_unifiers = answers_minimal_set (ac1_sums refl) (λ a new. le-ltb a 64 (omega arith))

-- .. and of most general ones.
pub identity_general : (s t : TermWithZero) {pages answers : List (List ℕ)}
    → PagesAsked identity (flatten s) (flatten t) start pages
    → ValuesAsked identity (flatten s) (flatten t) (together pages) answers
    → MostGeneralSet layout.new s t (map (read_substitution AC1) answers)
identity_general s t asked answered = most_general (identity_unifiers s t asked answered)

-- ---- Rows is Rows in unifying

module _ {L R : List ℕ} (not_7 : PairGiven limits unifying L R 7 → ⊥) where
  -- what the one mode gives of 7 to 12 and 19 the other gives
  to_unifying : {n : ℕ} → PairGiven limits identity L R n → PairGiven limits unifying L R n
  to_unifying (side_length one (inl few)) = absurd (omega arith)
  to_unifying (side_length one (inr many)) = side_length one (inr many)
  to_unifying (no_atom one wrong) = no_atom one wrong
  to_unifying (on_both_sides separate shared) = absurd (true≢false (sym separate))
  to_unifying (many_variables many) = many_variables many
  to_unifying (far_net_count a far) = far_net_count a far
  to_unifying (many_constants many) = many_constants many
  to_unifying (many_rows of many) = many_rows (identity-groups.0 of) many

  to_identity : {n : ℕ} → PairGiven limits unifying L R n → PairGiven limits identity L R n
  to_identity (side_length one wrong) = absurd (not_7 (side_length one wrong))
  to_identity (no_atom one wrong) = no_atom one wrong
  to_identity (on_both_sides separate shared) = absurd (true≢false (sym separate))
  to_identity (many_variables many) = many_variables many
  to_identity (far_net_count a far) = far_net_count a far
  to_identity (many_constants many) = many_constants many
  to_identity (many_rows of many) = many_rows (identity-groups.1 of) many

  rows_agree : (out : List ℕ)
      → Agree (RowsGiven identity L R out) (RowsGiven unifying L R out) (LowestFar limits L R) (LowestFar limits L R)
      rows_numbers (RowsGives identity L R out) (RowsGives unifying L R out)
  rows_agree out = record { same_numbers = λ n m. (there, back); same_atom = λ a lowest. lowest; same_result = result }
    where
      there : {n : ℕ} → RowsGiven identity L R out n → RowsGiven unifying L R out n
      there (its_rows.of_the_sides given) = its_rows.of_the_sides (to_unifying given)
      there (its_rows.short_buffer short) = its_rows.short_buffer short

      back : {n : ℕ} → RowsGiven unifying L R out n → RowsGiven identity L R out n
      back (its_rows.of_the_sides given) = its_rows.of_the_sides (to_identity given)
      back (its_rows.short_buffer short) = its_rows.short_buffer short

      result : (sizes : GroupSizes) (exit : List ℕ) → RowsGives identity L R out sizes exit
          → RowsGives unifying L R out sizes exit
      result _ _ (rows of) = rows (identity-groups.0 of)

  -- Whatever meets the promises of Rows in the two modes is identical, result or refusal, where unifying does not give 7.
  pub identity_rows : {out : List ℕ} {o o' : Outcome GroupSizes} {b b' : List ℕ} → RowsPromise identity L R out o b
      → RowsPromise unifying L R out o' b'
      → (o ≡ o') × (b ≡ b')
  identity_rows {out} = outcomes_agree (rows_agree out) one_rows
