-- The text of a library by what is reported of it: a listing (document 01, "The nightly program"; matching, document 02,
-- R-4), of which what Read, Rows and Page promise of each block, and the values of the keys on its page, decide its
-- lines; or a census (document 02, R-7), of which what Read and Count promise decides them. The blocks' lines decide the
-- last ones.
use Rattle.std.specs.Prelude.{ℕ, ◌+◌, ◌%◌, ◌≤◌, ◌≡◌, Bool, true, false, List, [], ◌∷◌, ◌++◌, map, length, take, replicate}
use Rattle.ac.specs.Lists.{filter, sum}
use Rattle.ac.specs.Pair.{variables, unifying}
use Rattle.ac.specs.Rows.{Groups, GroupsOf}
use Rattle.ac.specs.Keys.{start}
use Rattle.ac.specs.Values.{Binding, bindings}
use Rattle.numbers.specs.Outcome.{Said, Outcome, refused, given}
use Rattle.block.specs.Read.{SideLengths, ReadPromise}
use Rattle.pair.specs.Ways.{mode_of}
use Rattle.pair.specs.declared.ways.Way.{Way}
use Rattle.solver.specs.Rows.{rows_buffer, GroupSizes, RowsPromise}
use Rattle.solver.specs.Page.{PageWritten, PagePromise}
use Rattle.solver.specs.Count.{CountPromise}
use Rattle.solver.specs.Existence.{replacement_of}
use Rattle.output.specs.Step.{lines_joined}
use Rattle.tally.specs.Line.{ListFound, BlockFound, a_list, a_number, constants_rows, line_of}
use Rattle.tally.specs.Counts.{totals, closing_of}
use Rattle.tally.specs.declared.Report.{Report}
use Rattle.tally.specs.declared.Report.TheVariants.{Listing, Census}
use Rattle.tally.specs.declared.Line.{Line}
use Rattle.tally.specs.declared.Line.TheVariants.{Listed, Counted, NoUnifier, Refused}
use Rattle.tally.specs.declared.Totals.{Totals}
use Rattle.lines.specs.Lines.{block_lines, closing_lines}

-- At most 1,048,576 blocks are read for a listing, and 32,768 for a census.
abbrev pub most_blocks : Report → ℕ
most_blocks (Listing way) = 1048576
most_blocks Census = 32768

-- lent buffers, as long as a question asks for
abbrev pub lent : ℕ → List ℕ
lent size = replicate size 0

-- A substitution gives for each variable, ascending, its value: that of the key, of the pair's groups of rows.
abbrev pub bindings_of : Way → List ℕ → List ℕ → Groups → ℕ → List Binding
bindings_of way L R G key =
    bindings (replacement_of (mode_of way L R) L R G key) (variables (mode_of way L R) L R)

-- What is found of two sides, from the sizes that Rows returned and what Page did.
abbrev pub found_by : GroupSizes → PageWritten → ListFound
found_by sizes page =
    record {
      balanced = sizes.balanced;
      constants = constants_rows sizes.first sizes.second sizes.third sizes.fourth;
      written = page.written;
      more = page.more;
    }

-- What the questions return for two sides, and the substitutions of the first page of 200. The first that
-- refuses decides.
pub data PairFound (way : Way) (L R : List ℕ) : Outcome BlockFound → List (List Binding) → Type 0 where
  rows_refused : {said : Said} {bytes : List ℕ} → RowsPromise (mode_of way L R) L R (lent rows_buffer) (refused said) bytes
      → PairFound way L R (refused said) []
  page_refused : {sizes : GroupSizes} {said : Said} {bytes keys : List ℕ}
      → RowsPromise (mode_of way L R) L R (lent rows_buffer) (given sizes) bytes
      → PagePromise (mode_of way L R) L R start 200 (lent 200) (refused said) keys
      → PairFound way L R (refused said) []
  a_page : {sizes : GroupSizes} {page : PageWritten} {bytes keys : List ℕ} {G : Groups}
      → RowsPromise (mode_of way L R) L R (lent rows_buffer) (given sizes) bytes
      → PagePromise (mode_of way L R) L R start 200 (lent 200) (given page) keys
      → GroupsOf (mode_of way L R) L R G
      → PairFound way L R (given (a_list (found_by sizes page)))
      (map (bindings_of way L R G) (take page.written keys))

-- What the questions of a report return for two sides: in a listing that, in a census what Count returns, and no page.
pub data SidesFound (L R : List ℕ) : Report → Outcome BlockFound → List (List Binding) → Type 0 where
  listed : {way : Way} {returned : Outcome BlockFound} {page : List (List Binding)} → PairFound way L R returned page
      → SidesFound L R (Listing way) returned page
  count_refused : {said : Said} → CountPromise unifying L R (refused said) → SidesFound L R Census (refused said) []
  a_count : {unifiers : ℕ} → CountPromise unifying L R (given unifiers)
      → SidesFound L R Census (given (a_number unifiers)) []

-- What they return for a block that is to have this number: Read's refusal, or what the sides that Read gives
-- come to.
pub data Returns (report : Report) (block : List ℕ) (number : ℕ) : Outcome BlockFound → List (List Binding) → Type 0 where
  read_refused : {said : Said} {left right : List ℕ}
      → ReadPromise block number (lent 64) (lent 64) (refused said) left right
      → Returns report block number (refused said) []
  sides : {lengths : SideLengths} {left right : List ℕ} {returned : Outcome BlockFound} {page : List (List Binding)}
      → ReadPromise block number (lent 64) (lent 64) (given lengths) left right
      → SidesFound (take lengths.left left) (take lengths.right right) report returned page
      → Returns report block number returned page

-- The text of blocks one after the other, from a place in the file on, and the kinds of their lines. A block's
-- number is its place, modulo 65,536.
pub data BlocksText (report : Report) : ℕ → List (List ℕ) → List Line → List ℕ → Type 0 where
  no_more : {place : ℕ} → BlocksText report place [] [] []
  one_more : {place : ℕ} {block : List ℕ} {blocks : List (List ℕ)} {returned : Outcome BlockFound} {page : List (List Binding)}
      {lines : List Line} {text : List ℕ}
      → Returns report block (place % 65536) returned page → BlocksText report (place + 1) blocks lines text
      → BlocksText report place (block ∷ blocks) (line_of returned ∷ lines)
      (lines_joined (block_lines place (line_of returned) page) ++ text)

-- the kinds of lines
abbrev pub is_listed : Line → Bool
is_listed (Listed H K N more) = true
is_listed (Counted N) = false
is_listed NoUnifier = false
is_listed (Refused X atom) = false

abbrev pub is_none : Line → Bool
is_none (Listed H K N more) = false
is_none (Counted N) = false
is_none NoUnifier = true
is_none (Refused X atom) = false

abbrev pub is_refused : Line → Bool
is_refused (Listed H K N more) = false
is_refused (Counted N) = false
is_refused NoUnifier = false
is_refused (Refused X atom) = true

-- how many lines are of a kind
abbrev pub how_many : (Line → Bool) → List Line → ℕ
how_many kind lines = length (filter kind lines)

-- how many unifiers a line says
abbrev pub unifiers_in : Line → ℕ
unifiers_in (Listed H K N more) = 0
unifiers_in (Counted N) = N
unifiers_in NoUnifier = 0
unifiers_in (Refused X atom) = 0

-- T, "the sum over the blocks that were counted"
abbrev pub total : List Line → ℕ
total lines = sum (map unifiers_in lines)

-- `blocks B listed L none U refused F`, each counted by its own kind of line, and T
abbrev pub counts_of : List Line → Totals
counts_of lines =
    totals (length lines) (how_many is_listed lines) (how_many is_none lines) (how_many is_refused lines) (total lines)

-- The text of a library, from the blocks handed on and whether input remains after them.
pub record LibraryText (report : Report) (blocks : List (List ℕ)) (remains : Bool) (text : List ℕ) : Type 0 where
  -- no more blocks are read than may be, and input remains only after so many
  pub at_most : length blocks ≤ most_blocks report
  pub only_after_most : remains ≡ true → length blocks ≡ most_blocks report
  -- the lines of each block, and last the closing lines
  pub lines : List Line
  pub before : List ℕ
  pub of_blocks : BlocksText report 0 blocks lines before
  pub whole : text ≡ before ++ closing_lines (closing_of report (counts_of lines) remains)
