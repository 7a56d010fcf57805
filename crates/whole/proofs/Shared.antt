-- A variable on both sides (document 02, R-4): "19, a variable on both sides, after 8".
--
-- `rows_nineteen`, `page_nineteen`, `values_nineteen`. Matching, each of the questions gives 19 exactly where a variable
-- stands on both sides and none of 16, 7 and 8 is given.
-- `rows_without_19`, `page_without_19`, `values_without_19`, `count_without_19`. Where a variable may stand on both
-- sides, as in unifying, 19 is never given, and a question promises what it promises over its list without 19.
-- `read_never_19`. Of the sides that Read gave of a block it is never given, in no way of listing.
use Prim.Native.Nat.{ℕ}
use native.Mathlib.Omega.{arith}
use mathlib.Core.Path.{◌≡◌, refl, sym, subst, ◌∙◌}
use mathlib.Core.Logic.{◌↔◌}
use mathlib.Core.Bool.{true, false, true≢false}
use mathlib.Core.List.{List, [], ◌∷◌, ◌++◌}
use borrow.Author.Tests.{ltb-true}
use lib.ListN.{take}
use Rattle.ac.specs.Limits.{limits}
use Rattle.ac.specs.Pair.{Mode, matching}
use Rattle.ac.specs.Keys.{Beginning}
use Rattle.ac.proofs.Groups.{groups_exist}
use Rattle.numbers.specs.First.{NoneOf}
use Rattle.numbers.specs.Numbers.{said_of}
use Rattle.numbers.specs.Order.{sides_numbers}
use Rattle.numbers.specs.Outcome.{Outcome, refused, given, Promise, is_refused}
use Rattle.numbers.specs.declared.Refusal.TheVariants as why
use Rattle.numbers.proofs.Carried.{first_exactly, its_member}
use Rattle.numbers.proofs.Dropped.{never_given_dropped}
use Rattle.numbers.proofs.Parts.{given_sides}
use Rattle.numbers.proofs.Promises.{OneResult, refused_first, outcome_determined}
use Rattle.numbers.proofs.Said.{refuses_other}
use Rattle.block.specs.Read.{SideLengths, ReadPromise}
use Rattle.pair.specs.Given.{LowestFar, OnBothSides, PairGiven, side_length, no_atom, on_both_sides, many_variables, far_net_count, many_constants, many_rows}
use Rattle.solver.specs.Rows.{GroupSizes, RowsGiven, RowsGives, RowsPromise}
use Rattle.solver.specs.Rows as its_rows
use Rattle.solver.specs.Page.{PageWritten, PageGiven, PageGives, PagePromise}
use Rattle.solver.specs.Page as its_page
use Rattle.solver.specs.Values.{ValuesGiven, ValuesGives, ValuesPromise}
use Rattle.solver.specs.Values as its_values
use Rattle.solver.specs.Count.{CountGives, CountPromise}
use Rattle.solver.proofs.Determined.{one_rows, one_page, one_values}
use Rattle.solver.proofs.Given.{rows_made, page_made, values_made}
use Rattle.whole.proofs.Apart.{no_variable_on_both}

-- the numbers before 19, in order
abbrev pub before_nineteen : List ℕ
before_nineteen = 16 ∷ 7 ∷ 8 ∷ []

module _ {M : Mode} {L R : List ℕ} where
  -- what 19 says of the sides
  of_both : {n : ℕ} → n ≡ 19 → PairGiven limits M L R n → (M.separate ≡ true) × OnBothSides L R
  of_both e (side_length side wrong) = absurd (omega arith)
  of_both e (no_atom side wrong) = absurd (omega arith)
  of_both e (on_both_sides separate both) = (separate, both)
  of_both e (many_variables many) = absurd (omega arith)
  of_both e (far_net_count atom far) = absurd (omega arith)
  of_both e (many_constants many) = absurd (omega arith)
  of_both e (many_rows groups many) = absurd (omega arith)

  -- a question that gives it exactly where the sides do never gives it where a variable may stand on both
  never : {ItsNineteen : Type 0} → PairGiven limits M L R 19 ↔ ItsNineteen → M.separate ≡ false → ItsNineteen → ⊥
  never same shared nineteen = true≢false (sym (of_both refl (same.1 nineteen)).0 ∙ shared)

  -- and where none may, exactly where one does and no number before it is given
  nineteen_exactly : {Given : ℕ → Type 0} → PairGiven limits M L R 19 ↔ Given 19 → M.separate ≡ true
      → {Values Buffers : Type 0} (others : List ℕ) {Gives : Values → Buffers → Type 0} {entry exit : Buffers}
      {outcome : Outcome Values}
      → OneResult (LowestFar limits L R) Gives
      → Promise Given (LowestFar limits L R) (before_nineteen ++ 19 ∷ others) Gives entry outcome exit
      → (outcome ≡ refused (said_of why.OnBothSides)) ↔ (NoneOf Given before_nineteen × OnBothSides L R)
  nineteen_exactly {Given} same separate others {Gives} {entry} {exit} one promise = (
    λ e.
        let first = refused_first (subst
        (λ o. Promise Given (LowestFar limits L R) (before_nineteen ++ 19 ∷ others) Gives entry o exit) e promise) in
        let both = (first_exactly before_nineteen others refl).0 first in
        (both.0, (of_both refl (same.1 both.1)).1),
    λ both.
        let nineteen = same.0 (on_both_sides separate both.1) in
        let first = (first_exactly before_nineteen others refl).1 (both.0, nineteen) in
        (outcome_determined one promise (is_refused (refuses_other why.OnBothSides refl first))).0,
  )

  -- the three questions give it exactly where the sides do
  rows_of_sides : {out : List ℕ} → PairGiven limits M L R 19 ↔ RowsGiven M L R out 19
  rows_of_sides = (its_rows.of_the_sides, given_sides rows_made (its_member sides_numbers refl))

  page_of_sides : {begin : Beginning} {wanted : ℕ} {out : List ℕ}
      → PairGiven limits M L R 19 ↔ PageGiven M L R begin wanted out 19
  page_of_sides =
      (its_page.of_the_sides, given_sides (page_made (groups_exist M L R)) (its_member sides_numbers refl))

  values_of_sides : {key : ℕ} {out : List ℕ} → PairGiven limits M L R 19 ↔ ValuesGiven M L R key out 19
  values_of_sides =
      (its_values.of_the_sides, given_sides (values_made (groups_exist M L R)) (its_member sides_numbers refl))

module _ {L R : List ℕ} where
  pub rows_nineteen : {out out' : List ℕ} {outcome : Outcome GroupSizes}
      → RowsPromise (matching L) L R out outcome out'
      → (outcome ≡ refused (said_of why.OnBothSides))
      ↔ (NoneOf (RowsGiven (matching L) L R out) before_nineteen × OnBothSides L R)
  rows_nineteen = nineteen_exactly rows_of_sides refl (9 ∷ 10 ∷ 11 ∷ 12 ∷ []) one_rows

  pub page_nineteen : {begin : Beginning} {wanted : ℕ} {out out' : List ℕ} {outcome : Outcome PageWritten}
      → PagePromise (matching L) L R begin wanted out outcome out'
      → (outcome ≡ refused (said_of why.OnBothSides))
      ↔ (NoneOf (PageGiven (matching L) L R begin wanted out) before_nineteen × OnBothSides L R)
  page_nineteen = nineteen_exactly page_of_sides refl (9 ∷ 10 ∷ 11 ∷ 12 ∷ 13 ∷ 14 ∷ 15 ∷ []) one_page

  pub values_nineteen : {key : ℕ} {out out' : List ℕ} {outcome : Outcome ℕ}
      → ValuesPromise (matching L) L R key out outcome out'
      → (outcome ≡ refused (said_of why.OnBothSides))
      ↔ (NoneOf (ValuesGiven (matching L) L R key out) before_nineteen × OnBothSides L R)
  values_nineteen = nineteen_exactly values_of_sides refl (9 ∷ 10 ∷ 11 ∷ 12 ∷ 13 ∷ 14 ∷ []) one_values

module _ {M : Mode} (shared : M.separate ≡ false) {L R : List ℕ} where
  pub rows_without_19 : {out out' : List ℕ} {outcome : Outcome GroupSizes}
      → RowsPromise M L R out outcome out'
      ↔ Promise (RowsGiven M L R out) (LowestFar limits L R) (16 ∷ 7 ∷ 8 ∷ 9 ∷ 10 ∷ 11 ∷ 12 ∷ []) (RowsGives M L R out)
      out outcome out'
  rows_without_19 = never_given_dropped 19 (never rows_of_sides shared) before_nineteen (9 ∷ 10 ∷ 11 ∷ 12 ∷ [])

  pub page_without_19 : {begin : Beginning} {wanted : ℕ} {out out' : List ℕ} {outcome : Outcome PageWritten}
      → PagePromise M L R begin wanted out outcome out'
      ↔ Promise (PageGiven M L R begin wanted out) (LowestFar limits L R)
      (16 ∷ 7 ∷ 8 ∷ 9 ∷ 10 ∷ 11 ∷ 12 ∷ 13 ∷ 14 ∷ 15 ∷ []) (PageGives M L R begin wanted out) out outcome out'
  page_without_19 =
      never_given_dropped 19 (never page_of_sides shared) before_nineteen (9 ∷ 10 ∷ 11 ∷ 12 ∷ 13 ∷ 14 ∷ 15 ∷ [])

  pub values_without_19 : {key : ℕ} {out out' : List ℕ} {outcome : Outcome ℕ}
      → ValuesPromise M L R key out outcome out'
      ↔ Promise (ValuesGiven M L R key out) (LowestFar limits L R)
      (16 ∷ 7 ∷ 8 ∷ 9 ∷ 10 ∷ 11 ∷ 12 ∷ 13 ∷ 14 ∷ []) (ValuesGives M L R key out) out outcome out'
  values_without_19 =
      never_given_dropped 19 (never values_of_sides shared) before_nineteen (9 ∷ 10 ∷ 11 ∷ 12 ∷ 13 ∷ 14 ∷ [])

  pub count_without_19 : {outcome : Outcome ℕ}
      → CountPromise M L R outcome
      ↔ Promise (PairGiven limits M L R) (LowestFar limits L R) (7 ∷ 8 ∷ 9 ∷ 10 ∷ 11 ∷ 12 ∷ []) (CountGives M L R) tt
      outcome tt
  count_without_19 = never_given_dropped 19 (never itself shared) (7 ∷ 8 ∷ []) (9 ∷ 10 ∷ 11 ∷ 12 ∷ [])
    where
      itself : PairGiven limits M L R 19 ↔ PairGiven limits M L R 19
      itself = (λ given. given, λ given. given)

-- Read gives the right term's variables other numbers than the left one's.
pub read_never_19 : {M : Mode} {block : List ℕ} {number : ℕ} {left right left' right' : List ℕ} {lengths : SideLengths}
    → ReadPromise block number left right (given lengths) left' right'
    → PairGiven limits M (take lengths.left left') (take lengths.right right') 19 → ⊥
read_never_19 read shared =
    let both = (of_both refl shared).1 in
    no_variable_on_both read both.variable (ltb-true both.variable 64 both.is_variable)
    both.on_left both.on_right
