-- What taking two sides apart gives (document 01, "From sides to equations"): the first number that is given,
-- or the pair of exactly these sides.
use Rattle.std.specs.Prelude.{ℕ, List, Result}
use Rattle.ac.specs.Pair.{Mode, variables, unbalanced}
use Rattle.numbers.specs.Order.{counted_numbers, parting_numbers}
use Rattle.numbers.specs.Verdict.{Decides}
use Rattle.numbers.specs.declared.Refusal.{Refusal}
use Rattle.ac.specs.Limits.{limits}
use Rattle.pair.specs.Given.{LowestFar, PairGiven}
use Rattle.pair.specs.Counts.{CountsOf}
use Rattle.pair.specs.Gathered.{Held}
use Rattle.pair.specs.declared.Pair.{Pair}
use Rattle.pair.specs.declared.counting.AtomCounts.{AtomCounts}

-- the pair holds exactly these sides' variables and unbalanced constants
pub record PairOf (M : Mode) (L R : List ℕ) (pair : Pair) : Type 0 where
  pub the_variables : Held L R (variables M L R) pair.variables
  pub the_constants : Held L R (unbalanced M L R) pair.constants

-- Refused with the first of the numbers that is given; accepted where none is, and then the pair is that of
-- the sides.
abbrev pub PartedOf : List ℕ → Mode → List ℕ → List ℕ → Result Pair Refusal → Type 0
PartedOf numbers M L R parted =
    Decides (PairGiven limits M L R) (LowestFar limits L R) numbers (PairOf M L R) parted

-- of the sides whose atoms were counted the pair is made, or the first of the numbers 9 to 11 is given
abbrev pub Parts : AtomCounts → Result Pair Refusal → Type 0
Parts counts parted = (M : Mode) (L R : List ℕ) → CountsOf M L R counts → PartedOf counted_numbers M L R parted

-- two sides are taken apart, or the first of the numbers 7 to 11 is given
abbrev pub TakesApart : Mode → List ℕ → List ℕ → Result Pair Refusal → Type 0
TakesApart = PartedOf parting_numbers
