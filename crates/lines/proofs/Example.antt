-- Document 01's example: the lines of its two blocks and the last line, as they stand there.
use Rattle.std.proofs.Common.{◌≡◌, refl, false, List, [], ◌∷◌, ◌++◌, ℕ}
use Rattle.ac.specs.Values.{Binding}
use Rattle.text.specs.Ascii.{ascii}
use Rattle.text.specs.Decimal.{decimal}
use Rattle.pair.specs.declared.ways.Way.TheVariants.{Unifying}
use Rattle.tally.specs.Counts.{totals, closing_of}
use Rattle.tally.specs.declared.Line.{Line}
use Rattle.tally.specs.declared.Line.TheVariants.{Listed, NoUnifier}
use Rattle.tally.specs.declared.Totals.{Totals}
use Rattle.tally.specs.declared.Report.TheVariants.{Listing}
use Rattle.lines.specs.Lines.{block_line, substitution_line, end_line, closing_lines}

-- v0 and v1 with a constant each
abbrev pair : ℕ → ℕ → List Binding
pair a b = record { variable = 0; value = a ∷ [] } ∷ record { variable = 1; value = b ∷ [] } ∷ []

-- block 0 has two substitutions
abbrev listed : Line
listed = Listed 0 4 2 false

-- two blocks were read, of which one is listed and one has no unifier
abbrev counts : Totals
counts = totals 2 1 1 0 0

pub example :
    block_line 0 listed
    ++ substitution_line (pair 65 64)
    ++ substitution_line (pair 64 65)
    ++ end_line listed
    ++ block_line 1 NoUnifier
    ++ end_line NoUnifier
    ++ closing_lines (closing_of (Listing Unifying) counts false)
    ≡ ascii "block 0 rows 0 4\nv0=c1 v1=c0\nv0=c0 v1=c1\nend 2\nblock 1 none\nblocks 2 listed 1 none 1 refused 0\n"
unfolding decimal
example = refl
