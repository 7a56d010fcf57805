-- The counts, and the lines that stand at the end, of a listing (document 01, "The nightly program") and of a census
-- (document 02, R-7).
use Rattle.std.specs.Prelude.{ℕ, ◌+◌, ◌-◌, ◌^◌, min, ◌≡◌, Bool, if◌then◌else◌, ◌==◌}
use Rattle.numbers.specs.Outcome.{Outcome}
use Rattle.tally.specs.Line.{BlockFound, line_of}
use Rattle.tally.specs.declared.Line.{Line}
use Rattle.tally.specs.declared.Line.TheVariants.{Listed, Counted, NoUnifier, Refused}
use Rattle.tally.specs.declared.Totals.{Totals}
use Rattle.tally.specs.declared.Tallied.{Tallied}
use Rattle.tally.specs.declared.Report.{Report}
use Rattle.tally.specs.declared.Report.TheVariants.{Listing, Census}
use Rattle.tally.specs.declared.LastLine.{LastLine}
use Rattle.tally.specs.declared.LastLine.TheVariants.{NothingRead, Counts, Total}
use Rattle.tally.specs.declared.Closing.{Closing}

-- the sum of two numbers, and one more, as far as a number of 64 bits goes
abbrev pub added : ℕ → ℕ → ℕ
added m n = min (m + n) (2 ^ 64 - 1)

abbrev pub one_more : ℕ → ℕ
one_more n = added n 1

-- the counts B, L, U and F, and T
abbrev pub totals : ℕ → ℕ → ℕ → ℕ → ℕ → Totals
totals B L U F T = record { blocks = B; listed = L; none = U; refused = F; unifiers = T }

-- `blocks B listed L none U refused F`, each counted by its own kind of line; "`total T`, the sum over the blocks that
-- were counted".
abbrev pub counted : Totals → Line → Totals
counted c (Listed balanced constants lines more) =
    totals (one_more c.blocks) (one_more c.listed) c.none c.refused c.unifiers
counted c (Counted unifiers) =
    totals (one_more c.blocks) c.listed c.none c.refused (added c.unifiers unifiers)
counted c NoUnifier =
    totals (one_more c.blocks) c.listed (one_more c.none) c.refused c.unifiers
counted c (Refused n atom) =
    totals (one_more c.blocks) c.listed c.none (one_more c.refused) c.unifiers

-- What is said of a block, from the counts so far and what the questions returned for it.
pub record Tallies (c : Totals) (returned : Outcome BlockFound) (r : Tallied) : Type 0 where
  -- P, the place in the file from 0, is the number of blocks before it
  pub the_place : r.place ≡ c.blocks
  pub the_line : r.line ≡ line_of returned
  pub the_counts : r.counts ≡ counted c (line_of returned)

-- Last comes `blocks B listed L none U refused F`, and for an empty input `nothing read`; in a census `total T`.
abbrev pub last_of : Report → Totals → LastLine
last_of (Listing way) c = if c.blocks == 0 then NothingRead else Counts c
last_of Census c = Total c.unifiers

-- If input remains, the line `too long` stands before the last line.
abbrev pub closing_of : Report → Totals → Bool → Closing
closing_of report c remains = record { remains = remains; last = last_of report c }
