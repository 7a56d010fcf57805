-- `pattern::word::name` meets its contract: each arm places the letter and the number. Assumes nothing.
use Rattle.std.proofs.Common.{arith}
use Rattle.pattern.specs.Inner.{variable, constant, unwritable, no_atom}
use Rattle.pattern.proofs.word.name.Goals as goal

pub returns-in-118 : goal.returns-in-118
returns-in-118 c = variable (omega arith) (omega arith)

pub returns-in-118-2 : goal.returns-in-118-2
returns-in-118-2 c = unwritable (omega arith) (omega arith) (omega arith)

pub returns-in-99 : goal.returns-in-99
returns-in-99 c = constant (omega arith) (omega arith)

pub returns-in_default : goal.returns-in_default
returns-in_default c = no_atom (λ letter small. omega arith) (λ letter small. omega arith)

pub returns-in_default-2 : goal.returns-in_default-2
returns-in_default-2 c = no_atom (λ letter small. omega arith) (λ letter small. omega arith)

pub returns-in_default-3 : goal.returns-in_default-3
returns-in_default-3 c = no_atom (λ letter small. omega arith) (λ letter small. omega arith)
