-- `pattern::side::take_token` meets its contract: where the byte at the place leads. Assumes nothing.
use Rattle.std.proofs.lemmas.Result.{err_from_is_err_and}
use Rattle.pattern.specs.Inner.{is_wrong}
use Rattle.pattern.proofs.Reached.{byte_goes, byte_fault}
use Rattle.pattern.proofs.side.take_token.Goals as goal

pub returns-in_err-depth : goal.returns-in_err-depth
returns-in_err-depth c =
    let p = err_from_is_err_and c.from_residual.result c.from_residual.ensures.1 in
    rw (p.1, p.2) (is_wrong (byte_fault c.requires.reached c.requires.at_in_bounds c.in_err-depth.ensures))

pub returns-in-To : goal.returns-in-To
returns-in-To c =
    byte_goes c.requires.reached c.requires.at_in_bounds (rw c.in-To.is at c.in_ok-depth.ensures)
