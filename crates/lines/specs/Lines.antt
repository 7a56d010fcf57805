-- The lines of a listing (document 01, "The nightly program") and of a census (document 02, R-7). Numbers are decimal; a
-- line ends in a line feed.
use Rattle.std.specs.Prelude.{ℕ, Bool, if◌then◌else◌, None, Some, List, [], ◌∷◌, ◌++◌, map}
use Rattle.ac.specs.Values.{Binding}
use Rattle.text.specs.Ascii.{ascii}
use Rattle.text.specs.Decimal.{decimal}
use Rattle.text.specs.Text.{name, substitution}
use Rattle.tally.specs.declared.Line.{Line}
use Rattle.tally.specs.declared.Line.TheVariants.{Listed, Counted, NoUnifier, Refused}
use Rattle.tally.specs.declared.Totals.{Totals}
use Rattle.tally.specs.declared.LastLine.{LastLine}
use Rattle.tally.specs.declared.LastLine.TheVariants.{NothingRead, Counts, Total}
use Rattle.tally.specs.declared.Closing.{Closing}

-- a word and a number behind it
abbrev pub labelled : List ℕ → ℕ → List ℕ
labelled word number = word ++ decimal number

-- `block P rows H K` (place in the file from 0, balanced rows, rows of all constants)
abbrev pub rows_line : ℕ → ℕ → ℕ → List ℕ
rows_line P H K = labelled (ascii "block ") P ++ labelled (ascii " rows ") H ++ labelled (ascii " ") K ++ ascii "\n"

-- in a census `block P unifiers N`
abbrev pub unifiers_line : ℕ → ℕ → List ℕ
unifiers_line P N = labelled (ascii "block ") P ++ labelled (ascii " unifiers ") N ++ ascii "\n"

-- No unifier gives `block P none`; ..
abbrev pub none_line : ℕ → List ℕ
none_line P = labelled (ascii "block ") P ++ ascii " none\n"

-- .. any other number `block P refused X`, ..
abbrev pub refusal : ℕ → ℕ → List ℕ
refusal P X = labelled (ascii "block ") P ++ labelled (ascii " refused ") X

abbrev pub refused_line : ℕ → ℕ → List ℕ
refused_line P X = refusal P X ++ ascii "\n"

-- .. and where it names an atom, the atom follows: `block P refused 10 v7` (document 02, R-2).
abbrev pub naming_line : ℕ → ℕ → ℕ → List ℕ
naming_line P X atom = refusal P X ++ (ascii " " ++ name atom) ++ ascii "\n"

-- the line that a block has, whatever was found
abbrev pub block_line : ℕ → Line → List ℕ
block_line P (Listed H K N more) = rows_line P H K
block_line P (Counted N) = unifiers_line P N
block_line P NoUnifier = none_line P
block_line P (Refused X None) = refused_line P X
block_line P (Refused X (Some atom)) = naming_line P X atom

-- then the first page, one substitution a line
abbrev pub substitution_line : List Binding → List ℕ
substitution_line bs = substitution bs ++ ascii "\n"

-- then `end N` (lines printed) or `more`
abbrev pub page_end : ℕ → Bool → List ℕ
page_end N more = if more then ascii "more\n" else labelled (ascii "end ") N ++ ascii "\n"

-- where there is no page, nothing
abbrev pub end_line : Line → List ℕ
end_line (Listed H K N more) = page_end N more
end_line (Counted N) = []
end_line NoUnifier = []
end_line (Refused X atom) = []

-- the lines of a block at its place in the file, of which the page may have none
abbrev pub block_lines : ℕ → Line → List (List Binding) → List (List ℕ)
block_lines P line page = block_line P line ∷ map substitution_line page ++ (end_line line ∷ [])

-- `blocks B listed L none U refused F`
abbrev pub counts_line : Totals → List ℕ
counts_line c =
    labelled (ascii "blocks ") c.blocks
    ++ labelled (ascii " listed ") c.listed
    ++ labelled (ascii " none ") c.none
    ++ labelled (ascii " refused ") c.refused
    ++ ascii "\n"

-- in a census `total T`
abbrev pub total_line : ℕ → List ℕ
total_line T = labelled (ascii "total ") T ++ ascii "\n"

-- the last line; for an empty input `nothing read`, but in a census `total 0`
abbrev pub last_line : LastLine → List ℕ
last_line NothingRead = ascii "nothing read\n"
last_line (Counts c) = counts_line c
last_line (Total T) = total_line T

-- If input remains, the line `too long` stands before the last line.
abbrev pub too_long : Bool → List ℕ
too_long remains = if remains then ascii "too long\n" else []

abbrev pub closing_lines : Closing → List ℕ
closing_lines c = too_long c.remains ++ last_line c.last
