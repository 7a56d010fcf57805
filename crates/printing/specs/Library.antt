-- What is printed of a library: the blocks that reading it hands on, one after the other, and last what stands
-- at the end.
use Rattle.std.specs.Prelude.{ℕ, ◌+◌, ◌≤◌, Bool, true, false, List, [], ◌∷◌, ◌++◌, length, ℤ, Result, Ok, Err}
use Rattle.buffer.specs.Put.{Put}
use Rattle.tally.specs.Counts.{totals, closing_of}
use Rattle.tally.specs.declared.Line.{Line}
use Rattle.tally.specs.declared.Totals.{Totals}
use Rattle.tally.specs.declared.Report.{Report}
use Rattle.library.specs.Library.{Call, AtEnd, AtLimit, AtFailure}
use Rattle.library.specs.declared.Next.{Next}
use Rattle.library.specs.declared.Next.TheVariants as next
use Rattle.output.specs.Step.{lines_joined, Stepped}
use Rattle.output.specs.Room.{StillHeld}
use Rattle.lines.specs.Lines.{closing_lines}
use Rattle.lines.specs.Library.{most_blocks, BlocksText, LibraryText}
use Rattle.printing.specs.Printed.{lines_of, StartsBlock}
use Rattle.printing.specs.declared.print.Listing.{Listing}
use Rattle.printing.specs.declared.Stopped.{Stopped}
use Rattle.printing.specs.declared.Stopped.TheVariants.{Unread, Unwritten}

-- nothing is counted before the first block
abbrev pub no_counts : Totals
no_counts = totals 0 0 0 0 0

-- Printing of blocks begins one after the other, from the counts so far: the lines of all of them, and the counts
-- after them.
pub data Started (report : Report) : List (List ℕ) → List ℕ → Totals → Type 0 where
  nothing : Started report [] [] no_counts
  a_block : {blocks : List (List ℕ)} {text : List ℕ} {before after : Totals} {block : List ℕ} {l : Listing}
      → Started report blocks text before → (starts : StartsBlock report block before l after)
      → Started report (blocks ++ (block ∷ [])) (text ++ lines_joined (lines_of starts.way starts.left starts.right l)) after

-- The same, where the lines of each block are put in steps: all that the steps put, joined.
pub data PutInSteps (report : Report) : List (List ℕ) → List ℕ → Totals → Type 0 where
  nothing : PutInSteps report [] [] no_counts
  a_block : {blocks : List (List ℕ)} {text put : List ℕ} {before after : Totals} {block : List ℕ} {l : Listing}
      → PutInSteps report blocks text before → (starts : StartsBlock report block before l after)
      → Stepped (lines_of starts.way starts.left starts.right l) 0 put
      → PutInSteps report (blocks ++ (block ∷ [])) (text ++ put) after

-- no block is left to hand on
pub data Over : Next → Type 0 where
  at_end : Over next.End
  input_remains : Over next.Remains
  failed : {error : ℤ} → Over (next.Failed error)

-- The closing lines are put from a place on, and take at most so many bytes.
pub record Closes (report : Report) (c : Totals) (remains : Bool) (out : List ℕ) (at end : ℕ) (out' : List ℕ) : Type 0 where
  pub put : Put out at (closing_lines (closing_of report c remains)) end out'
  pub within : end ≤ at + 128

-- What stands at the end is put: the closing lines, or nothing where a read failed.
pub data Finishes (report : Report) (c : Totals) (out : List ℕ) (at : ℕ) : Next → Result ℕ Stopped → List ℕ → Type 0 where
  ended : {end : ℕ} {out' : List ℕ} → Closes report c false out at end out'
      → Finishes report c out at next.End (Ok end) out'
  remains : {end : ℕ} {out' : List ℕ} → Closes report c true out at end out'
      → Finishes report c out at next.Remains (Ok end) out'
  not_read : {error : ℤ} → Finishes report c out at (next.Failed error) (Err (Unread at error)) out

-- a text was printed: what was not written out of it stands in the buffer before the place
pub record PrintedTo (text out : List ℕ) (at : ℕ) : Type 0 where
  pub inside : at ≤ length out
  pub holds : StillHeld text out at []

-- Printing a library, of whatever came by the calls that read it: its text is the definition's.
pub data LibraryPrinted (report : Report) : Result ℕ Stopped → List ℕ → Type 0 where
  -- at the end of the input
  all : {calls : List Call} {blocks : List (List ℕ)} {text out : List ℕ} {at : ℕ} → AtEnd (most_blocks report) calls blocks
      → LibraryText report blocks false text → PrintedTo text out at → LibraryPrinted report (Ok at) out
  -- where input remains
  too_long : {calls : List Call} {blocks : List (List ℕ)} {text out : List ℕ} {at : ℕ}
      → AtLimit (most_blocks report) calls blocks → LibraryText report blocks true text → PrintedTo text out at
      → LibraryPrinted report (Ok at) out
  -- where a read failed, the text of the blocks before it
  not_read : {calls : List Call} {blocks : List (List ℕ)} {lines : List Line} {text out : List ℕ} {at : ℕ} {error : ℤ}
      → AtFailure error calls blocks → BlocksText report 0 blocks lines text → PrintedTo text out at
      → LibraryPrinted report (Err (Unread at error)) out
  not_written : {error : ℤ} {out : List ℕ} → LibraryPrinted report (Err (Unwritten error)) out
