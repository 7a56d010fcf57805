-- The atom that 10 names (document 02, R-2): "the refusal shall carry the lowest atom whose net count is further than
-- 8 from 0, and each question passes it on". Rows, Page and Values give 10 with an atom exactly where no number before
-- it is given and the atom is the lowest; beside any other number none of them names one. The lowest atom is one atom,
-- it stands on a side, and there is one wherever 10 is given (pair/proofs/NetCounts.antt).
use Prim.Native.Nat.{ℕ}
use mathlib.Core.Path.{◌≡◌, refl, subst}
use mathlib.Core.Logic.{◌↔◌}
use mathlib.Core.List.{List, [], ◌∷◌, ◌++◌}
use mathlib.Core.Option.{some}
use mathlib.Core.Option as option
use Rattle.ac.specs.Limits.{limits}
use Rattle.ac.specs.Pair.{Mode}
use Rattle.ac.specs.Keys.{Beginning}
use Rattle.numbers.specs.First.{NoneOf}
use Rattle.numbers.specs.Numbers.{said_of}
use Rattle.numbers.specs.Outcome.{Said, Outcome, refused, Beside, an_atom, Promise, is_refused}
use Rattle.numbers.specs.declared.Refusal.TheVariants.{NetCount}
use Rattle.numbers.proofs.Carried.{first_exactly}
use Rattle.numbers.proofs.Promises.{OneResult, refused_rightly, refused_alone, outcome_determined}
use Rattle.numbers.proofs.Said.{refuses_naming}
use Rattle.pair.specs.Given.{LowestFar, PairGiven, far_net_count}
use Rattle.solver.specs.Rows.{GroupSizes, RowsGiven, RowsPromise}
use Rattle.solver.specs.Rows as its_rows
use Rattle.solver.specs.Page.{PageWritten, PageGiven, PagePromise}
use Rattle.solver.specs.Page as its_page
use Rattle.solver.specs.Values.{ValuesGiven, ValuesPromise}
use Rattle.solver.specs.Values as its_values
use Rattle.solver.proofs.Determined.{one_rows, one_page, one_values}

-- the numbers before 10, in order; 19 is given in matching alone (Shared.antt)
abbrev pub before_ten : List ℕ
before_ten = 16 ∷ 7 ∷ 8 ∷ 19 ∷ 9 ∷ []

-- an atom that stands beside a number is named
beside_named : {Names : ℕ → Type 0} {n atom : ℕ} → Beside Names n (some atom) → Names atom
beside_named (an_atom names) = names

-- of any question on two sides
ten_exactly : {Values Buffers : Type 0} {Given : ℕ → Type 0} {M : Mode} {L R : List ℕ} (others : List ℕ)
    {Gives : Values → Buffers → Type 0} {entry exit : Buffers} {outcome : Outcome Values} {atom : ℕ}
    → (PairGiven limits M L R 10 → Given 10) → OneResult (LowestFar limits L R) Gives
    → Promise Given (LowestFar limits L R) (before_ten ++ 10 ∷ others) Gives entry outcome exit
    → (outcome ≡ refused (said_of (NetCount atom))) ↔ (NoneOf Given before_ten × LowestFar limits L R atom)
ten_exactly {Given = Given} {L = L} {R} others {Gives} {entry} {exit} {atom = atom} of_sides one promise = (
  λ e.
      let refuses = refused_rightly (subst
      (λ o. Promise Given (LowestFar limits L R) (before_ten ++ 10 ∷ others) Gives entry o exit) e promise) in
      (((first_exactly before_ten others refl).0 refuses.first).0, beside_named refuses.beside),
  λ both.
      let given = of_sides (far_net_count atom both.1.far) in
      let first = (first_exactly before_ten others refl).1 (both.0, given) in
      (outcome_determined one promise (is_refused (refuses_naming first both.1))).0,
)

module _ {M : Mode} {L R : List ℕ} {atom : ℕ} where
  pub rows_ten : {out out' : List ℕ} {outcome : Outcome GroupSizes} → RowsPromise M L R out outcome out'
      → (outcome ≡ refused (said_of (NetCount atom)))
      ↔ (NoneOf (RowsGiven M L R out) before_ten × LowestFar limits L R atom)
  rows_ten = ten_exactly (11 ∷ 12 ∷ []) its_rows.of_the_sides one_rows

  pub page_ten : {begin : Beginning} {wanted : ℕ} {out out' : List ℕ} {outcome : Outcome PageWritten}
      → PagePromise M L R begin wanted out outcome out'
      → (outcome ≡ refused (said_of (NetCount atom)))
      ↔ (NoneOf (PageGiven M L R begin wanted out) before_ten × LowestFar limits L R atom)
  page_ten = ten_exactly (11 ∷ 12 ∷ 13 ∷ 14 ∷ 15 ∷ []) its_page.of_the_sides one_page

  pub values_ten : {key : ℕ} {out out' : List ℕ} {outcome : Outcome ℕ} → ValuesPromise M L R key out outcome out'
      → (outcome ≡ refused (said_of (NetCount atom)))
      ↔ (NoneOf (ValuesGiven M L R key out) before_ten × LowestFar limits L R atom)
  values_ten = ten_exactly (11 ∷ 12 ∷ 13 ∷ 14 ∷ []) its_values.of_the_sides one_values

-- "Its number alone" for every other number.
module _ {M : Mode} {L R : List ℕ} {said : Said} (not_ten : said.number ≡ 10 → ⊥) where
  pub rows_alone : {out out' : List ℕ} → RowsPromise M L R out (refused said) out' → said.atom ≡ option.none
  rows_alone promise = refused_alone promise not_ten

  pub page_alone : {begin : Beginning} {wanted : ℕ} {out out' : List ℕ}
      → PagePromise M L R begin wanted out (refused said) out' → said.atom ≡ option.none
  page_alone promise = refused_alone promise not_ten

  pub values_alone : {key : ℕ} {out out' : List ℕ} → ValuesPromise M L R key out (refused said) out'
      → said.atom ≡ option.none
  values_alone promise = refused_alone promise not_ten
