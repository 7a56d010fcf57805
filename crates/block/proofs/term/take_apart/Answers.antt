-- `block::term::take_apart` meets its contract: the bytes are a term exactly if the term that they begin with
-- uses all of them. Assumes nothing.
use Rattle.block.proofs.Begins.{nothing_is_no_term}
use Rattle.block.proofs.Flattens.{left_over_is_no_term}
use Rattle.block.proofs.term.take_apart.Goals as goal

pub returns-in_err-term : goal.returns-in_err-term
returns-in_err-term c = rw c.from_residual.ensures (nothing_is_no_term c.in_err-term.ensures)

pub returns-then-term-bytes : goal.returns-then-term-bytes
returns-then-term-bytes c = left_over_is_no_term c.in_ok-term.ensures c.if-term-bytes.true
