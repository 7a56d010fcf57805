-- The tally's contract determines what it gives.
use Rattle.std.proofs.Common.{◌≡◌, sym, ◌∙◌}
use Rattle.numbers.specs.Outcome.{Outcome}
use Rattle.tally.specs.Line.{BlockFound, line_of}
use Rattle.tally.specs.Counts.{Tallies, counted}
use Rattle.tally.specs.declared.Totals.{Totals}
use Rattle.tally.specs.declared.Tallied.{Tallied}

-- the result that this contract asks for
tallied : Totals → Outcome BlockFound → Tallied
tallied c returned = record { place = c.blocks; line = line_of returned; counts = counted c (line_of returned) }

-- what meets the promise is this one
tallies_one : {c : Totals} {returned : Outcome BlockFound} (r : Tallied) → Tallies c returned r → r ≡ tallied c returned
unfolding tallied
tallies_one {c} {returned} r p =
    let whole : record { place = r.place; line = r.line; counts = r.counts } ≡ tallied c returned =
    cc (p.the_place, p.the_line, p.the_counts) in
    whole

-- Two results that meet the contract are identical.
pub tally_determined : {c : Totals} {returned : Outcome BlockFound} (r s : Tallied) → Tallies c returned r
    → Tallies c returned s → r ≡ s
tally_determined r s p q = tallies_one r p ∙ sym (tallies_one s q)
