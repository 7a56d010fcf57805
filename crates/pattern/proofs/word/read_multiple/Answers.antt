-- `pattern::word::read_multiple` meets its contract. Assumes nothing.
use Rattle.std.proofs.Common.{arith}
use Rattle.pattern.specs.Inner.{tells, tells_none}
use Rattle.pattern.proofs.Words.{nothing_is_once, no_leading_zero, often_says}
use Rattle.pattern.proofs.word.read_multiple.Goals as goal

pub returns-in-empty : goal.returns-in-empty
returns-in-empty c = tells (nothing_is_once c.args.digits.now (omega arith))

pub returns-in-48 : goal.returns-in-48
returns-in-48 c = tells_none (no_leading_zero (λ empty. omega arith) (omega arith))

pub returns-in_default : goal.returns-in_default
returns-in_default c =
    often_says c.args.digits.now (λ empty. omega arith) (λ zero. omega arith) c.read_number.ensures
