-- The counts add up: in a listing every block has one line of the three kinds, so B is L, U and F together.
use Rattle.std.proofs.Common.{ℕ, ◌+◌, ◌-◌, ◌^◌, ◌<◌, arith, ◌≡◌, refl}
use Rattle.tally.specs.Counts.{counted}
use Rattle.tally.specs.declared.Line.{Line}
use Rattle.tally.specs.declared.Line.TheVariants.{Listed, Counted, NoUnifier, Refused}
use Rattle.tally.specs.declared.Totals.{Totals}

-- B is L, U and F together
abbrev pub AddUp : Totals → Type 0
AddUp c = c.blocks ≡ c.listed + c.none + c.refused

-- they add up after a block that is not of a census, if they did before and there is a number of 64 bits for it
pub counted-add-up : (c : Totals) (line : Line) → ((n : ℕ) → line ≡ Counted n → ⊥) → c.blocks < 2 ^ 64 - 1 → AddUp c
    → AddUp (counted c line)
counted-add-up c (Listed balanced constants lines more) listing few before = omega arith
counted-add-up c (Counted n) listing few before = absurd (listing n refl)
counted-add-up c NoUnifier listing few before = omega arith
counted-add-up c (Refused n atom) listing few before = omega arith
