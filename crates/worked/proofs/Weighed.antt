-- How many candidate keys Page weighs (document 02, R-8), at pairs worked by hand, and wrong programs for it.
use Prim.Native.Nat.{ℕ, ◌≤◌}
use native.Mathlib.Omega.{arith}
use mathlib.Core.Path.{◌≡◌, refl, sym, ap, ◌∙◌}
use mathlib.Core.Bool.{true, false}
use mathlib.Core.List.{List, [], ◌∷◌, Memᴰ}
use lib.ListN.{length}
use Rattle.ac.specs.Lists.{receives}
use Rattle.ac.specs.Pair.{unifying}
use Rattle.ac.specs.Search.{groups}
use Rattle.ac.specs.Keys.{layout, keys, Beginning, start, after, remaining}
use Rattle.ac.specs.Pages.{page}
use Rattle.ac.proofs.Groups.{groups_exist}
use Rattle.numbers.specs.Outcome.{given}
use Rattle.numbers.proofs.Promises.{same_values}
use Rattle.list.proofs.Given.{start_not_after, listed_after}
use Rattle.solver.specs.Page.{wanted_count, page_written}
use Rattle.worked.specs.Questions.{SidesAsked, Request, page_question}
use Rattle.worked.specs.Answers.{Answers, page_of, numbered, of_pair}
use Rattle.worked.specs.Programs.{Program, MeetsAt, ConstantWeighed}
use Rattle.worked.proofs.Within.{within, never_given}
use Rattle.worked.proofs.Answering.{page_wanted}
use Rattle.worked.proofs.Wrong as wrong

-- the pair of that number, from a beginning, with so many keys wanted
abbrev asked : ℕ → Beginning → ℕ → SidesAsked Request
asked n begin wanted = of_pair n (record { begin = begin; wanted = wanted })

-- the list of that pair
abbrev list : ℕ → List ℕ
list n = keys unifying layout (numbered n).left (numbered n).right (groups unifying (numbered n).left (numbered n).right)

-- what Page answers where the pair keeps the limits and a key remains
page-of_pair : (n : ℕ) → within unifying (numbered n).left (numbered n).right ≡ true → (begin : Beginning)
    → ((k : ℕ) → begin ≡ after k → Memᴰ k (list n)) → (wanted key : ℕ) → Memᴰ key (remaining begin (list n))
    → (out : List ℕ) → wanted_count wanted ≤ length out
    → Answers page_question (asked n begin wanted) out
    (given (page_written unifying (numbered n).left (numbered n).right
    (groups unifying (numbered n).left (numbered n).right) begin wanted))
    (receives out (page begin (wanted_count wanted) (list n)))
page-of_pair n kept =
    page_wanted (groups_exist unifying (numbered n).left (numbered n).right)
    (λ m. never_given unifying (numbered n).left (numbered n).right kept)

-- no key comes before the start
from_start : {listed : List ℕ} (k : ℕ) → start ≡ after k → Memᴰ k listed
from_start k same = absurd (start_not_after same)

-- Pair 2 has keys 6, 7, 9, 11, 13, 14, 15 of sixteen candidates. Three wanted from the start: candidates 0 to 9.
pub first_three : (out : List ℕ) → 3 ≤ length out
    → Answers page_question (asked 2 start 3) out (given (page_of 3 true 10)) (receives out (6 ∷ 7 ∷ 9 ∷ []))
first_three = page-of_pair 2 refl start from_start 3 6 (Memᴰ.head refl)

-- Two wanted after key 9: candidates 10 to 13.
pub two_after_9 : (out : List ℕ) → 2 ≤ length out
    → Answers page_question (asked 2 (after 9) 2) out (given (page_of 2 true 4)) (receives out (11 ∷ 13 ∷ []))
two_after_9 = page-of_pair 2 refl (after 9) (listed_after nine) 2 11 (Memᴰ.head refl)
  where
    nine : Memᴰ 9 (list 2)
    nine = Memᴰ.tail (Memᴰ.tail (Memᴰ.head refl))

-- Pair 12 has keys 16,777,216 and 268,435,456, the second and the third of four candidates. One wanted: two candidates.
pub first_of_12 : (out : List ℕ) → 1 ≤ length out
    → Answers page_question (asked 12 start 1) out (given (page_of 1 true 2)) (receives out (16777216 ∷ []))
first_of_12 = page-of_pair 12 refl start from_start 1 16777216 (Memᴰ.head refl)

-- Five wanted: both keys, and three candidates.
pub both_of_12 : (out : List ℕ) → 5 ≤ length out
    → Answers page_question (asked 12 start 5) out (given (page_of 2 false 3)) (receives out (16777216 ∷ 268435456 ∷ []))
both_of_12 = page-of_pair 12 refl start from_start 5 16777216 (Memᴰ.head refl)

module _ (program : Program page_question) {out : List ℕ} where
  -- It looks ahead to tell that more follow, and counts the candidates up to key 11, which it has seen there.
  pub looking_ahead_fails : 3 ≤ length out → (program (asked 2 start 3) out).outcome ≡ given (page_of 3 true 12)
      → MeetsAt program (asked 2 start 3) out → ⊥
  looking_ahead_fails enough returns =
      wrong.other_outcome_fails program (first_three out enough)
      (λ e. let z : ◌≡◌ {A = ℕ} 12 10 = ap (λ p. p.weighed) (same_values (sym returns ∙ e)) in omega arith)

  -- It tells one count of every page: from the start it is 10, after key 9 it is 4.
  pub constant_weighed_fails : 3 ≤ length out → ConstantWeighed program → MeetsAt program (asked 2 start 3) out
      → MeetsAt program (asked 2 (after 9) 2) out → ⊥
  constant_weighed_fails enough constant meets meets' =
      let one = ((first_three out enough).alone _ _ meets).0 in
      let other = ((two_after_9 out (omega arith)).alone _ _ meets').0 in
      let z : ◌≡◌ {A = ℕ} 10 4 = constant (asked 2 start 3) (asked 2 (after 9) 2) out out _ _ one other in
      omega arith
