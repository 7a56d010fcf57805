-- A pair of which no number is given is within its room.
use Prim.Native.Nat.{ℕ}
use native.Mathlib.Omega.{arith}
use mathlib.Core.List.{List}
use Rattle.ac.specs.Limits.{limits}
use Rattle.ac.specs.Pair.{Mode}
use Rattle.numbers.specs.First.{NoneOf}
use Rattle.numbers.specs.Order.{parting_numbers}
use Rattle.pair.specs.Given.{PairGiven}
use Rattle.pair.specs.Parted.{PairOf}
use Rattle.pair.proofs.Laws.{within_limits}
use Rattle.pair.specs.declared.Pair.{Pair}
use Rattle.table.specs.Groups.{Roomy}

pub pair_roomy : {M : Mode} {L R : List ℕ} {pair : Pair} → NoneOf (PairGiven limits M L R) parting_numbers
    → PairOf M L R pair → Roomy pair
pair_roomy none of =
    let within = within_limits none in
    record {
      variables_fit = omega (arith, within.few_variables, of.the_variables.how_many);
      constants_fit = omega (arith, within.few_constants, of.the_constants.how_many);
    }
