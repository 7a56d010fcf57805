-- What is printed of a block: its lines, from what the program keeps of it.
use Rattle.std.specs.Prelude.{ℕ, ◌+◌, ◌%◌, ◌<◌, ◌≤◌, ◌≡◌, length, take, ℤ, Option, Some, None, Result, Ok, Err, IsSome, IsSomeAnd}
use mathlib.Core.List.{List, [], ◌++◌, map, Memᴰ}
use Rattle.ac.specs.Keys.{layout, keys}
use Rattle.ac.specs.Rows.{Groups}
use Rattle.ac.specs.Values.{Binding}
use Rattle.buffer.specs.Filled.{Puts}
use Rattle.buffer.specs.declared.filled.Filled.{Filled}
use Rattle.pair.specs.Ways.{mode_of}
use Rattle.pair.specs.declared.ways.Way.{Way}
use Rattle.table.specs.Table.{groups_in}
use Rattle.table.specs.declared.Table.{Table}
use Rattle.tally.specs.Line.{BlockFound, line_of}
use Rattle.numbers.specs.Outcome.{Outcome}
use Rattle.tally.specs.Counts.{counted}
use Rattle.tally.specs.declared.Line.{Line}
use Rattle.tally.specs.declared.Line.TheVariants.{Listed, Counted, NoUnifier, Refused}
use Rattle.tally.specs.declared.Totals.{Totals}
use Rattle.tally.specs.declared.Report.{Report}
use Rattle.output.specs.Step.{lines_joined}
use Rattle.output.specs.Room.{HasRoom, StillHeld}
use Rattle.lines.specs.Lines.{substitution_line, block_lines}
use Rattle.lines.specs.Library.{bindings_of, Returns}
use Rattle.printing.specs.Asked.{SolvedPair}
use Rattle.printing.specs.declared.print.Listing.{Listing}

-- how many keys are printed under a block's line
abbrev pub key_count : Line → ℕ
key_count (Listed H K N more) = N
key_count (Counted N) = 0
key_count NoUnifier = 0
key_count (Refused X atom) = 0

-- one line for each key, the block's own before them, and what stands after the page
abbrev pub line_count : Listing → ℕ
line_count l = key_count l.line + 2

-- the groups of a table, and none where there is no table
abbrev pub groups_of : Option Table → Groups
groups_of (Some table) = groups_in table
groups_of None = record { balanced = []; constants = [] }

-- the substitutions of the page, of the sides that the table is of
abbrev pub page_of : Way → List ℕ → List ℕ → Listing → List (List Binding)
page_of way L R l = map (bindings_of way L R (groups_of l.table)) (take (key_count l.line) l.keys)

-- the lines of the block
abbrev pub lines_of : Way → List ℕ → List ℕ → Listing → List (List ℕ)
lines_of way L R l = block_lines l.place l.line (page_of way L R l)

-- there are no more keys than there is room for, and if there are some, the table is there
pub record ReadyToPrint (l : Listing) : Type 0 where
  pub few : key_count l.line ≤ 200
  pub there : 0 < key_count l.line → IsSome l.table

-- what is printed is a page of these sides
pub record Prints (way : Way) (L R : List ℕ) (l : Listing) : Type 0 where
  pub enough : key_count l.line ≤ length l.keys
  pub solved : 0 < key_count l.line → IsSomeAnd l.table (SolvedPair way L R)
  pub listed : (key : ℕ) → Memᴰ key (take (key_count l.line) l.keys)
      → Memᴰ key (keys (mode_of way L R) layout L R (groups_of l.table))

-- the line of a key is put, where the key is on the list of the sides that the table is of
abbrev pub KeyPut : Table → ℕ → Filled → Filled → Type 0
KeyPut table key before after =
    (way : Way) (L R : List ℕ) → SolvedPair way L R table → Memᴰ key (keys (mode_of way L R) layout L R (groups_in table))
    → Puts before (substitution_line (bindings_of way L R (groups_in table) key)) after

-- Printing a block begins: what is printed of it are the lines of what its questions return, where its number is
-- its place modulo 65,536; and the counts after it are those of its line.
pub record StartsBlock (report : Report) (block : List ℕ) (before : Totals) (l : Listing) (after : Totals) : Type 0 where
  pub way : Way
  pub left : List ℕ
  pub right : List ℕ
  pub returned : Outcome BlockFound
  pub page : List (List Binding)
  pub found : Returns report block (before.blocks % 65536) returned page
  pub the_lines : lines_of way left right l ≡ block_lines before.blocks (line_of returned) page
  pub the_counts : after ≡ counted before (line_of returned)
  pub prints : Prints way left right l
  pub ready : ReadyToPrint l

-- The block's lines were put behind what stood before the place. Of all that, what was not written out stands
-- before the place after it, which has room for a line behind it. Or writing out failed.
pub data BlockPut (l : Listing) (out : List ℕ) (at : ℕ) : Result ℕ ℤ → List ℕ → Type 0 where
  lines_put : {next : ℕ} {out' : List ℕ} → HasRoom (length out) next
      → ((way : Way) (L R : List ℕ) → Prints way L R l → StillHeld (take at out ++ lines_joined (lines_of way L R l)) out' next [])
      → BlockPut l out at (Ok next) out'
  not_put : {error : ℤ} {out' : List ℕ} → BlockPut l out at (Err error) out'
