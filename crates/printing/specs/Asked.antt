-- What is asked of a block: Read, and of the sides that it gives Rows and Page by a way of listing, or Count for a census.
-- What each returned is what its own promise says.
use Rattle.std.specs.Prelude.{ℕ, ◌≡◌, List, take, replicate, Option, Result, Ok, IsSomeAnd}
use Rattle.std.specs.Result.{result_unwrap_or}
use Rattle.ac.specs.Pair.{unifying}
use Rattle.ac.specs.Keys.{start}
use Rattle.block.specs.Read.{told_read, ReadPromise}
use Rattle.block.specs.declared.Sides.{Sides}
use Rattle.solver.specs.Rows.{rows_buffer, told_rows, RowsPromise}
use Rattle.solver.specs.Page.{told_page, PagePromise}
use Rattle.solver.specs.Count.{told_count, CountPromise}
use Rattle.solver.specs.declared.rows.Sizes.{Sizes}
use Rattle.solver.specs.declared.page.Written.{Written}
use Rattle.numbers.specs.First.{NoneOf}
use Rattle.numbers.specs.declared.Refusal.{Refusal}
use Rattle.ac.specs.Limits.{limits}
use Rattle.pair.specs.Given.{PairGiven}
use Rattle.pair.specs.Ways.{mode_of}
use Rattle.pair.specs.declared.ways.Way.{Way}
use Rattle.numbers.specs.Order.{sides_numbers}
use Rattle.table.specs.Table.{TableOf}
use Rattle.table.specs.declared.Table.{Table}
use Rattle.tally.specs.declared.Report.{Report}
use Rattle.tally.specs.declared.Report.TheVariants as asks
use Rattle.tally.specs.declared.Answers.{Answers}
use Rattle.tally.specs.declared.Answers.TheVariants as answers
use Rattle.printing.specs.declared.ask.Asked.{Asked}

-- the lengths of the sides that Read gave; a refused block has none
abbrev pub sides_given : Result Sides Refusal → Sides
sides_given read = result_unwrap_or read (record { left = 0; right = 0 })

-- the table is that of two sides that give none of 7 to 12
pub record SolvedPair (way : Way) (L R : List ℕ) (table : Table) : Type 0 where
  pub none_given : NoneOf (PairGiven limits (mode_of way L R) L R) sides_numbers
  pub the_table : TableOf (mode_of way L R) L R table

-- Rows and Page, of two sides, the page the first of 200
pub record PairListed (way : Way) (L R keys : List ℕ) (rows : Result Sizes Refusal) (page : Result Written Refusal)
    (table : Option Table) (keys_after : List ℕ) : Type 0 where
  pub rows_after : List ℕ
  pub rows_promise : RowsPromise (mode_of way L R) L R (replicate rows_buffer 0) (told_rows rows) rows_after
  pub page_promise : PagePromise (mode_of way L R) L R start 200 keys (told_page page) keys_after
  -- where there is a page, the table is there and that of the sides
  pub solved : {its : Written} → page ≡ Ok its → IsSomeAnd table (SolvedPair way L R)

-- the questions of the report, of two sides: those, or Count
pub data SidesAsked (L R keys : List ℕ) : Report → Answers → Option Table → List ℕ → Type 0 where
  listing : {way : Way} {rows : Result Sizes Refusal} {page : Result Written Refusal} {table : Option Table} {keys_after : List ℕ}
      → PairListed way L R keys rows page table keys_after
      → SidesAsked L R keys (asks.Listing way) (answers.Listing rows page) table keys_after
  census : {count : Result ℕ Refusal} {table : Option Table} {keys_after : List ℕ} → CountPromise unifying L R (told_count count)
      → SidesAsked L R keys asks.Census (answers.Census count) table keys_after

pub record PairAsked (report : Report) (read : Result Sides Refusal) (L R keys : List ℕ) (a : Asked) (keys_after : List ℕ)
    : Type 0 where
  pub same_read : a.read ≡ read
  pub sides : SidesAsked L R keys report a.answers a.table keys_after

-- Read, of the block and the number that it is to have, and the other questions of the sides
pub record BlockAsked (report : Report) (block : List ℕ) (number : ℕ) (keys : List ℕ) (a : Asked) (keys_after : List ℕ)
    : Type 0 where
  pub left : List ℕ
  pub right : List ℕ
  pub read_promise : ReadPromise block number (replicate 64 0) (replicate 64 0) (told_read a.read) left right
  pub pair : PairAsked report a.read (take (sides_given a.read).left left) (take (sides_given a.read).right right) keys
      a keys_after
