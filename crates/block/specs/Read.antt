-- The question Read (document 01, "The questions"): what it promises.
use Rattle.std.specs.Prelude.{ℕ, List, length, Result}
use Rattle.ac.specs.Lists.{receives}
use Rattle.ac.specs.Term.{Term}
use Rattle.numbers.specs.Order.{read_numbers}
use Rattle.numbers.specs.Outcome.{Outcome, NamesNone, Promise}
use Rattle.numbers.specs.Told.{told}
use Rattle.numbers.specs.declared.Refusal.{Refusal}
use Rattle.block.specs.Front.{Writes, left_side, right_side}
use Rattle.block.specs.Block.{left_term, right_term}
use Rattle.block.specs.Table.{ReadGiven}
use Rattle.block.specs.declared.Sides.{Sides}

-- What Read returns: the lengths of the flattened sides.
pub record SideLengths : Type 0 where
  pub left : ℕ
  pub right : ℕ

-- document 01's number and values for each case of the result
abbrev pub told_read : Result Sides Refusal → Outcome SideLengths
told_read = told (λ sides. record { left = sides.left; right = sides.right })

-- Two lent buffers receive the flattened sides; the lengths are returned.
pub data ReadGives (block left right : List ℕ) : SideLengths → List ℕ × List ℕ → Type 0 where
  sides : {s t : Term} → Writes (left_term block) s → Writes (right_term block) t
      → ReadGives block left right
      (record { left = length (left_side s); right = length (right_side t) })
      (receives left (left_side s), receives right (right_side t))

-- What Read promises of its outcome and of the two lent buffers at exit.
abbrev pub ReadPromise : List ℕ → ℕ → List ℕ → List ℕ → Outcome SideLengths → List ℕ → List ℕ → Type 0
ReadPromise block number left right outcome left' right' =
    Promise (ReadGiven block number left right) NamesNone read_numbers (ReadGives block left right) (left, right)
    outcome (left', right')
