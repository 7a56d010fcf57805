-- `equation::searched::Searched::search` meets its contract: nothing has to be found before the first place, and when
-- the walk has ended, all rows are. Assumes nothing.
use Rattle.std.proofs.Common.{sym}
use Rattle.std.specs.Prelude.{Some, None}
use Rattle.equation.specs.Found.{equation_with}
use Rattle.equation.proofs.Whole.{stands_start, holds_start, finds_all}
use Rattle.equation.proofs.searched.Searched.search.Goals as goal

pub returns-in_err-number : goal.returns-in_err-number
returns-in_err-number c =
    let self = c.args.self.now in
    let E = equation_with self.left.now self.right.now c.args.offsets in
    rw c.from_residual.ensures
    (finds_all E self.limit c.walk.new.rows None
    (c.in_err-number.ensures.found E (stands_start {E = E} (sym self.level) c.start.ensures) (holds_start E)))

pub returns : goal.returns
returns c =
    let self = c.args.self.now in
    let E = equation_with self.left.now self.right.now c.args.offsets in
    finds_all E self.limit c.walk.new.rows (Some c.in_ok-number.number)
    (c.in_ok-number.ensures.found E (stands_start {E = E} (sym self.level) c.start.ensures) (holds_start E))
