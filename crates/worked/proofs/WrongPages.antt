-- Document 01's wrong programs, as programs for Page: at a pair worked by hand none of them meets the promise.
use Prim.Native.Nat.{ℕ, ◌≤◌}
use native.Mathlib.Omega.{arith}
use mathlib.Core.Path.{◌≡◌, refl, ap, subst}
use mathlib.Core.Bool.{Bool, false}
use mathlib.Core.List.{List, [], ◌∷◌, Memᴰ}
use lib.ListN.{length, replicate}
use Rattle.ac.specs.Lists.{receives}
use Rattle.ac.specs.Pair.{unifying}
use Rattle.ac.specs.Search.{groups}
use Rattle.ac.specs.Keys.{layout, keys, Beginning, start, after}
use Rattle.ac.proofs.Groups.{groups_exist}
use Rattle.numbers.specs.Outcome.{given}
use Rattle.numbers.proofs.Promises.{same_values}
use Rattle.worked.specs.Questions.{SidesAsked, Request, page_question}
use Rattle.worked.specs.Answers.{Answers, PageAnswers, page_of, numbered, of_pair}
use Rattle.worked.specs.Programs.{Program, MeetsAt, RefusesEverything, ConstantResult, WritesNothing, ThenFifteen}
use Rattle.worked.proofs.Within.{never_given}
use Rattle.worked.proofs.Answering.{page_from}
use Rattle.worked.proofs.Worked.{worked_groups}
use Rattle.worked.proofs.Wrong as wrong

-- the pair of that number, from a beginning; 0 wanted, meaning 200
abbrev asked : ℕ → Beginning → SidesAsked Request
asked n begin = of_pair n (record { begin = begin; wanted = 0 })

-- pair 2: keys 6, 7, 9, 11, 13, 14, 15, of sixteen candidates
seven_keys : PageAnswers (numbered 2).left (numbered 2).right 16 (6 ∷ 7 ∷ 9 ∷ 11 ∷ 13 ∷ 14 ∷ 15 ∷ [])
seven_keys = (worked_groups 2 (omega arith) (omega arith)).the_list

-- pair 7: one, key 1, of two candidates
one_key : PageAnswers (numbered 7).left (numbered 7).right 2 (1 ∷ [])
one_key = (worked_groups 7 (omega arith) (omega arith)).the_list

-- pair 2: after key 6, six follow
six_follow : (out : List ℕ) → 200 ≤ length out
    → Answers page_question (asked 2 (after 6)) out (given (page_of 6 false 9)) (receives out (7 ∷ 9 ∷ 11 ∷ 13 ∷ 14 ∷ 15 ∷ []))
six_follow = page_from (groups_exist unifying L R) (λ n. never_given unifying L R refl) (after 6) on_list 7
    (9 ∷ 11 ∷ 13 ∷ 14 ∷ 15 ∷ []) refl (omega arith)
  where
    L : List ℕ
    L = (numbered 2).left

    R : List ℕ
    R = (numbered 2).right

    on_list : (key : ℕ) → after 6 ≡ after key → Memᴰ key (keys unifying layout L R (groups unifying L R))
    on_list key e = let six : 6 ≡ key = cc e in subst
        (λ k. Memᴰ k (keys unifying layout L R (groups unifying L R))) six (Memᴰ.head refl)

module _ (program : Program page_question) where
  module _ {out : List ℕ} (enough : 200 ≤ length out) where
    -- It refuses everything: pair 2 has seven unifiers.
    pub refusing_fails : RefusesEverything program → MeetsAt program (asked 2 start) out → ⊥
    refusing_fails = wrong.refusing_fails program (seven_keys out enough)

    -- It has a constant result: pair 2 has seven keys, pair 7 has one.
    pub constant_fails : ConstantResult program → MeetsAt program (asked 2 start) out
        → MeetsAt program (asked 7 start) out → ⊥
    constant_fails =
        wrong.constant_fails program (seven_keys out enough) (one_key out enough)
        (λ e. let z : ◌≡◌ {A = ℕ} 7 1 = ap (λ p. p.written) (same_values e) in omega arith)

    -- It finds the first key and then claims 15: after key 6 of pair 2 others follow.
    pub then_fifteen_fails : ThenFifteen program → MeetsAt program (asked 2 (after 6)) out → ⊥
    then_fifteen_fails claims =
        wrong.other_outcome_fails program (six_follow out enough)
        (λ e. cc (e, claims (asked 2 (after 6)) out 6 refl))

    -- It invents the number of keys, that more follow, or what was weighed: pair 2 has seven keys, of sixteen
    -- candidates, and no more follow.
    pub invented_count_fails : (number : ℕ) (more : Bool) (weighed : ℕ)
        → (program (asked 2 start) out).outcome ≡ given (page_of number more weighed)
        → ((number ≡ 7) × (more ≡ false) × (weighed ≡ 16) → ⊥) → MeetsAt program (asked 2 start) out → ⊥
    invented_count_fails number more weighed returns others =
        wrong.other_outcome_fails program (seven_keys out enough)
        (λ e. let same : page_of number more weighed ≡ page_of 7 false 16 = cc (e, returns) in
        others (ap (λ p. p.written) same, ap (λ p. p.more) same, ap (λ p. p.weighed) same))

  -- It writes nothing: where zeros are lent, key 6 of pair 2 is missing.
  pub writing_nothing_fails : WritesNothing program → MeetsAt program (asked 2 start) (replicate 200 0) → ⊥
  writing_nothing_fails =
      wrong.writing_nothing_fails program (seven_keys (replicate 200 0) (omega arith))
      (λ e. cc e)
