-- `pair::part` meets its contract: it is told whether 9, 10 and 11 are given, and the first that is refuses.
-- Assumes nothing.
use borrow.Author.Rules.{rules}
use mathlib.Core.Path.{refl}
use native.Mathlib.Omega.{arith}
use borrow.Author.Tests.{lt-ltb, le-ltb}
use Rattle.numbers.specs.First.{here, later, also, end}
use Rattle.numbers.proofs.Verdicts.{decides_refused, decides_naming, decides_accepted}
use Rattle.pair.specs.Given.{far_net_count}
use Rattle.numbers.specs.declared.Refusal.TheVariants.{Variables, Constants}
use Rattle.pair.proofs.Parting.{tells_9, tells_11, far_found, near_found, pair_held}
use Rattle.pair.proofs.part.Goals as goal

pub returns-then-many_variables : goal.returns-then-many_variables
returns-then-many_variables c M L R counted =
    let nine = tells_9 (c.gather-variables.ensures M L R counted).how_many in
    decides_refused {why = Variables} refl refl (here (nine.if_true (lt-ltb _ _ c.if-many_variables.true)))

pub returns-in-Some : goal.returns-in-Some
returns-in-Some c M L R counted =
    let nine = tells_9 (c.gather-variables.ensures M L R counted).how_many in
    let lowest = far_found (c.lowest_far-lowest_far.ensures M L R counted) c.in-Some.is in
    decides_naming refl
    (later (nine.if_false (le-ltb _ _ c.if-many_variables.false)) (here (far_net_count _ lowest.far)))
    lowest

pub returns-then-many_constants : goal.returns-then-many_constants
returns-then-many_constants c M L R counted =
    let nine = tells_9 (c.gather-variables.ensures M L R counted).how_many in
    let eleven = tells_11 (c.gather-constants.ensures M L R counted).how_many in
    decides_refused {why = Constants} refl refl
    (later (nine.if_false (le-ltb _ _ (omega arith)))
    (later (near_found (c.lowest_far-lowest_far.ensures M L R counted) (search rules))
    (here (eleven.if_true (lt-ltb _ _ c.if-many_constants.true)))))

pub returns : goal.returns
returns c M L R counted =
    let nine = tells_9 (c.gather-variables.ensures M L R counted).how_many in
    let eleven = tells_11 (c.gather-constants.ensures M L R counted).how_many in
    let not9 = nine.if_false (le-ltb _ _ c.if-many_variables.false) in
    let not10 = near_found (c.lowest_far-lowest_far.ensures M L R counted) c.in_default.is in
    let not11 = eleven.if_false (le-ltb _ _ c.if-many_constants.false) in
    decides_accepted refl (also not9 (also not10 (also not11 end)))
    (pair_held (c.gather-variables.ensures M L R counted) (c.gather-constants.ensures M L R counted) not9 not11)
