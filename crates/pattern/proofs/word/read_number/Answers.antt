-- `pattern::word::read_number` meets its contract: one or two digits say a number, and no others. Assumes nothing.
use Rattle.std.proofs.Common.{arith}
use Rattle.pattern.specs.Inner.{tells, tells_none}
use Rattle.pattern.proofs.Words.{one_says, two_say, others_say_none}
use Rattle.pattern.proofs.word.read_number.Goals as goal

pub returns-in-len1 : goal.returns-in-len1
returns-in-len1 c = tells (one_says c.args.digits.now c.requires (omega arith) c.worth.ensures.value)

pub returns-in-len2 : goal.returns-in-len2
returns-in-len2 c =
    tells (two_say c.args.digits.now c.requires (omega arith) c.worth-in-len2.ensures.value
    c.worth-in-len2-2.ensures.value)

pub returns-in_default : goal.returns-in_default
returns-in_default c = tells_none (others_say_none (λ one. omega arith) (λ two. omega arith))

pub returns-in_default-2 : goal.returns-in_default-2
returns-in_default-2 c = tells_none (others_say_none (λ one. omega arith) (λ two. omega arith))
