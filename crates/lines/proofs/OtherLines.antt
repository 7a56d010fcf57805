-- The lines that document 01's example does not have, as the documents print them.
use Rattle.std.proofs.Common.{ℕ, ◌≡◌, refl, true, false, List, [], ◌∷◌, ◌++◌, None, Some}
use Rattle.ac.specs.Values.{Binding}
use Rattle.text.specs.Ascii.{ascii}
use Rattle.text.specs.Decimal.{decimal}
use Rattle.pair.specs.declared.ways.Way.TheVariants.{Unifying}
use Rattle.tally.specs.Counts.{totals, closing_of}
use Rattle.tally.specs.declared.Line.{Line}
use Rattle.tally.specs.declared.Line.TheVariants.{Listed, Counted, Refused}
use Rattle.tally.specs.declared.Totals.{Totals}
use Rattle.tally.specs.declared.Report.TheVariants.{Listing, Census}
use Rattle.lines.specs.Lines.{block_line, substitution_line, end_line, closing_lines}

-- v0 and v1 with their values
abbrev two : List ℕ → List ℕ → List Binding
two a b = record { variable = 0; value = a } ∷ record { variable = 1; value = b } ∷ []

-- New variables are n0, n1 and so on: pairs 5 and 6 worked by hand.
pub with_new_variables :
    substitution_line (two (64 ∷ []) (64 ∷ []))
    ++ substitution_line (two (64 ∷ 192 ∷ []) (64 ∷ 192 ∷ 192 ∷ []))
    ++ substitution_line (two (192 ∷ 192 ∷ []) (192 ∷ 192 ∷ 192 ∷ []))
    ≡ ascii "v0=c0 v1=c0\nv0=c0+n0 v1=c0+n0+n0\nv0=n0+n0 v1=n0+n0+n0\n"
unfolding decimal
with_new_variables = refl

-- The last atoms of each kind: v63, c63 and n15.
pub with_last_atoms :
    substitution_line (record { variable = 63; value = 127 ∷ 207 ∷ [] } ∷ []) ≡ ascii "v63=c63+n15\n"
unfolding decimal
with_last_atoms = refl

-- One without variables is `-`.
pub without_variables : substitution_line [] ≡ ascii "-\n"
without_variables = refl

-- a block with more than the first page
abbrev longer : Line
longer = Listed 16 0 200 true

-- After the first page of 200, where more follow, stands `more`.
pub where_more_follow : block_line 7 longer ++ end_line longer ≡ ascii "block 7 rows 16 0\nmore\n"
unfolding decimal
where_more_follow = refl

-- Any other number gives `block P refused X`, and no page.
pub where_refused : block_line 65_536 (Refused 16 None) ++ end_line (Refused 16 None) ≡ ascii "block 65536 refused 16\n"
unfolding decimal
where_refused = refl

-- Where it names an atom, the atom follows: `block P refused 10 v7` (document 02, R-2), and a constant is `c3`.
pub where_named : block_line 3 (Refused 10 (Some 7)) ++ end_line (Refused 10 (Some 7)) ≡ ascii "block 3 refused 10 v7\n"
unfolding decimal
where_named = refl

pub where_a_constant_is_named : block_line 0 (Refused 10 (Some 67)) ≡ ascii "block 0 refused 10 c3\n"
unfolding decimal
where_a_constant_is_named = refl

-- as many blocks as are read at most
abbrev most : Totals
most = totals 1_048_576 1 20 1_048_555 0

-- If input remains, the line `too long` stands before the last line.
pub where_input_remains :
    closing_lines (closing_of (Listing Unifying) most true) ≡ ascii "too long\nblocks 1048576 listed 1 none 20 refused 1048555\n"
unfolding decimal
where_input_remains = refl

-- For an empty input only `nothing read`.
pub where_nothing_is_read :
    closing_lines (closing_of (Listing Unifying) (totals 0 0 0 0 0) false) ≡ ascii "nothing read\n"
where_nothing_is_read = refl

-- In a census `block P unifiers N` for each block, 0 where there are none, and no page (document 02, R-7).
pub where_counted :
    block_line 0 (Counted 265) ++ end_line (Counted 265) ++ block_line 1 (Counted 0)
    ≡ ascii "block 0 unifiers 265\nblock 1 unifiers 0\n"
unfolding decimal
where_counted = refl

-- Last comes `total T`, for an empty input too; if input remains, after `too long`.
pub total_at_the_end : closing_lines (closing_of Census (totals 3 0 0 1 265) false) ≡ ascii "total 265\n"
unfolding decimal
total_at_the_end = refl

pub total_of_nothing : closing_lines (closing_of Census (totals 0 0 0 0 0) false) ≡ ascii "total 0\n"
unfolding decimal
total_of_nothing = refl

pub total_where_input_remains :
    closing_lines (closing_of Census (totals 32_768 0 0 32_767 32_677) true) ≡ ascii "too long\ntotal 32677\n"
unfolding decimal
total_where_input_remains = refl
