-- The question Write (document 02, R-3): what it promises.
use Rattle.std.specs.Prelude.{ℕ, List, Result}
use Rattle.ac.specs.Lists.{receives}
use Rattle.numbers.specs.Order.{write_numbers}
use Rattle.numbers.specs.Outcome.{Outcome, NamesNone, Promise}
use Rattle.numbers.specs.Told.{told}
use Rattle.numbers.specs.declared.Refusal.{Refusal}
use Rattle.writing.specs.Written.{block_of}
use Rattle.writing.specs.Table.{WriteGiven}

-- the number and the values for each case of the result: where a block is written, nothing is returned beside it
abbrev pub told_write : Result (Unit {0}) Refusal → Outcome (Unit {0})
told_write = told (λ nothing. nothing)

-- A lent buffer receives the block of the two sides and the number.
pub data WriteGives (left right : List ℕ) (number : ℕ) (block : List ℕ) : Unit {0} → List ℕ → Type 0 where
  written : WriteGives left right number block tt (receives block (block_of number left right))

-- What Write promises of its outcome and of the lent buffer at exit.
abbrev pub WritePromise : List ℕ → List ℕ → ℕ → List ℕ → Outcome (Unit {0}) → List ℕ → Type 0
WritePromise left right number block =
    Promise (WriteGiven left right block) NamesNone write_numbers (WriteGives left right number block) block
