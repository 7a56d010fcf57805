-- The question Count (document 02, R-7): what it promises.
use Rattle.std.specs.Prelude.{ℕ, List, length, Result, Ok, Err}
use Rattle.ac.specs.Limits.{limits}
use Rattle.ac.specs.Pair.{Mode}
use Rattle.ac.specs.Rows.{Groups, GroupsOf}
use Rattle.ac.specs.Keys.{layout, keys}
use Rattle.numbers.specs.Order.{count_numbers}
use Rattle.numbers.specs.Told.{told}
use Rattle.numbers.specs.Outcome.{Outcome, refused, given, Promise}
use Rattle.numbers.specs.declared.Refusal.{Refusal}
use Rattle.pair.specs.Given.{LowestFar, PairGiven}

-- the number of unifiers, or document 01's number, for each case of the result
abbrev pub told_count : Result ℕ Refusal → Outcome ℕ
told_count = told (λ unifiers. unifiers)

-- "the exact number of unifiers", which is "the length of the list"; nothing is lent
pub data CountGives (M : Mode) (L R : List ℕ) : ℕ → Unit {0} → Type 0 where
  as_listed : {G : Groups} → GroupsOf M L R G → CountGives M L R (length (keys M layout L R G)) tt

-- What Count promises of its outcome.
abbrev pub CountPromise : Mode → List ℕ → List ℕ → Outcome ℕ → Type 0
CountPromise M L R outcome =
    Promise (PairGiven limits M L R) (LowestFar limits L R) count_numbers (CountGives M L R) tt outcome tt
