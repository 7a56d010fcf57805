-- `equation::find_rows` meets its contract. Assumes nothing.
use Rattle.equation.proofs.find_rows.Goals as goal

pub returns : goal.returns
returns c =
    let of = c.of.ensures in rw (of.of_left, of.of_right, of.same_limit) at c.search.ensures
