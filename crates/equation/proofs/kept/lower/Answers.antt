-- `equation::kept::lower` meets its contract: the rows before the one that is tried are not below the vector, and
-- the places before the one that is compared are fine. Assumes nothing.
use Rattle.std.proofs.Common.{arith, sym}
use mathlib.Core.Bool.{true≢false}
use Rattle.equation.proofs.Below.{tried_all, tried_more, compared_all}
use Rattle.equation.proofs.kept.lower.Goals as goal

pub rows-preserved : goal.rows-preserved
rows-preserved c = tried_more c.rows.invariant c.loop-place-test.true c.if-vector-place.true

pub returns-in-rows : goal.returns-in-rows
returns-in-rows c = record {
  if_true = λ t. compared_all c.loop-place.invariant (omega arith) c.rows-test.true c.requires;
  if_false = λ f. absurd (true≢false f);
}

pub returns : goal.returns
returns c = record {
  if_true = λ t. absurd (true≢false (sym t));
  if_false = λ f. tried_all c.rows.invariant c.rows-test.false;
}
