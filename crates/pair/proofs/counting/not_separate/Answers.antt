-- `pair::counting::not_separate` meets its contract: where the way asks for it, 19 is given where a variable stands on
-- both sides; else never. Assumes nothing.
use Rattle.std.proofs.Common.{◌∙◌}
use Rattle.pair.proofs.Counts.{tells_separate}
use Rattle.pair.proofs.counting.not_separate.Goals as goal

pub returns-then-is_separate : goal.returns-then-is_separate
returns-then-is_separate c L R of_left of_right =
    tells_separate (c.is_separate.ensures L R ∙ c.if-is_separate.true) (c.shares_variable.ensures L R of_left of_right)
