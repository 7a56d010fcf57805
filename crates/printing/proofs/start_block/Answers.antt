-- `printing::start_block` meets its contract: what is printed is what was asked and tallied. Assumes nothing.
use Rattle.printing.proofs.Starting.{starts}
use Rattle.printing.proofs.start_block.Goals as goal

pub returns : goal.returns
returns c =
    starts c.ask-asked.result c.expected_number.ensures c.ask-asked.ensures
    c.tally-tallied.ensures
