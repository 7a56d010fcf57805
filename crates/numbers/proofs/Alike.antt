-- Two questions that agree: what meets the promise of the one meets that of the other, and whatever meets the two is
-- identical.
use Rattle.std.proofs.Common.{ℕ, ◌≡◌, ◌↔◌, List}
use mathlib.Core.List.{Memᴰ}
use mathlib.Core.Option.{Option}
use Rattle.numbers.specs.Outcome.{Said, Outcome, Beside, an_atom, nothing, Refuses, Promise, is_refused, is_given}
use Rattle.numbers.proofs.Carried.{first_carried, none_carried}
use Rattle.numbers.proofs.Promises.{OneResult, outcome_determined}

-- an atom that the one question names is one that the other names, so what stands beside a number stays right
beside_carried : {Names Others : ℕ → Type 0} {n : ℕ} {o : Option ℕ} → ((atom : ℕ) → Names atom → Others atom)
    → Beside Names n o → Beside Others n o
beside_carried carried (an_atom names) = an_atom (carried _ names)
beside_carried carried (nothing not_ten) = nothing not_ten

-- The two questions agree on a list of numbers: each number is given by both or by neither, and the atom that the one
-- names and what it gives are those of the other.
pub record Agree {Values Buffers : Type 0} (Given Given' Names Names' : ℕ → Type 0) (numbers : List ℕ)
    (Gives Gives' : Values → Buffers → Type 0) : Type 0 where
  pub same_numbers : (n : ℕ) → Memᴰ n numbers → Given n ↔ Given' n
  pub same_atom : (atom : ℕ) → Names atom → Names' atom
  pub same_result : (values : Values) (exit : Buffers) → Gives values exit → Gives' values exit

module _ {Values Buffers : Type 0} {Given Given' Names Names' : ℕ → Type 0} {numbers : List ℕ}
    {Gives Gives' : Values → Buffers → Type 0} (agree : Agree Given Given' Names Names' numbers Gives Gives') where
  -- then what is rightly said by the one is rightly said by the other, ..
  refuses_agreed : {said : Said} → Refuses Given Names numbers said → Refuses Given' Names' numbers said
  refuses_agreed refuses =
      record {
        first = first_carried agree.same_numbers refuses.first;
        beside = beside_carried agree.same_atom refuses.beside;
      }

  -- .. what meets the promise of the one meets that of the other, ..
  pub promise_carried : {entry : Buffers} {outcome : Outcome Values} {exit : Buffers}
      → Promise Given Names numbers Gives entry outcome exit → Promise Given' Names' numbers Gives' entry outcome exit
  promise_carried (is_refused refuses) = is_refused (refuses_agreed refuses)
  promise_carried (is_given none gives) =
      is_given (none_carried (λ n m. (agree.same_numbers n m).1) none) (agree.same_result _ _ gives)

  -- .. and two outcomes, each with its buffers, that meet the two promises are identical.
  pub outcomes_agree : OneResult Names' Gives' → {entry : Buffers} {o o' : Outcome Values} {b b' : Buffers}
      → Promise Given Names numbers Gives entry o b → Promise Given' Names' numbers Gives' entry o' b'
      → (o ≡ o') × (b ≡ b')
  outcomes_agree one promise promise' = outcome_determined one (promise_carried promise) promise'
