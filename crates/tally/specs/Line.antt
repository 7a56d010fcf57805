-- A block's line, from what the questions returned for the block: Read, Rows and Page in a listing (document 01, "The
-- nightly program"), Read and Count in a census (document 02, R-7).
use Rattle.std.specs.Prelude.{ℕ, ◌+◌, ◌-◌, ◌^◌, min, if◌then◌else◌, ◌==◌, Bool, None, Some, Result, Ok, Err}
use Rattle.std.proofs.Math.Option.{Option, none, some}
use Rattle.numbers.specs.Numbers.{said_of}
use Rattle.numbers.specs.Outcome.{Said, Outcome, refused, given}
use Rattle.numbers.specs.Told.{told}
use Rattle.numbers.specs.declared.Refusal.{Refusal}
use Rattle.block.specs.declared.Sides.{Sides}
use Rattle.solver.specs.declared.rows.Sizes.{Sizes}
use Rattle.solver.specs.declared.page.Written.{Written}
use Rattle.tally.specs.declared.Answers.{Answers}
use Rattle.tally.specs.declared.Answers.TheVariants.{Listing, Census}
use Rattle.tally.specs.declared.Line.{Line}
use Rattle.tally.specs.declared.Line.TheVariants.{Listed, Counted, NoUnifier, Refused}

-- What Rows and Page return for two sides that neither refuses: the balanced rows, the rows of all constants, the
-- number of keys that Page wrote and whether more follow.
pub record ListFound : Type 0 where
  pub balanced : ℕ
  pub constants : ℕ
  pub written : ℕ
  pub more : Bool

-- What the questions return for a block that none of them refuses: that in a listing, in a census the number of
-- unifiers.
pub data BlockFound : Type 0 where
  a_list : ListFound → BlockFound
  a_number : ℕ → BlockFound

-- the rows of all constants, as far as a number of 64 bits goes; the sizes of constants that there are not are
-- 0
abbrev pub constants_rows : ℕ → ℕ → ℕ → ℕ → ℕ
constants_rows first second third fourth = min (first + second + third + fourth) (2 ^ 64 - 1)

-- what Rows and Page found
abbrev pub listed_by : Sizes → Written → BlockFound
listed_by sizes page =
    a_list
    (record {
      balanced = sizes.balanced;
      constants = constants_rows sizes.first sizes.second sizes.third sizes.fourth;
      written = page.written;
      more = page.more;
    })

-- this paper's number and values for each case of the answers: the first that refuses decides
abbrev pub told_list : Result Sizes Refusal → Result Written Refusal → Outcome BlockFound
told_list (Err refusal) page = refused (said_of refusal)
told_list (Ok sizes) page = told (listed_by sizes) page

abbrev pub told_number : Result ℕ Refusal → Outcome BlockFound
told_number = told a_number

abbrev pub told_block : Result Sides Refusal → Answers → Outcome BlockFound
told_block (Err refusal) answers = refused (said_of refusal)
told_block (Ok sides) (Listing rows page) = told_list rows page
told_block (Ok sides) (Census count) = told_number count

-- No unifier gives `block P none`; any other number `block P refused X`, and where an atom is named beside it, the
-- atom follows: `block P refused 10 v7` (document 02, R-2).
abbrev pub line_with : Option ℕ → ℕ → Line
line_with none n = if n == 13 then NoUnifier else Refused n None
line_with (some atom) n = Refused n (Some atom)

abbrev pub line_of_said : Said → Line
line_of_said said = line_with said.atom said.number

-- `block P rows H K` (balanced rows, rows of all constants), then the page, then `end N` (lines printed) or
-- `more`; in a census `block P unifiers N`, "0 where there are none and the refusal line where refused".
abbrev pub line_of : Outcome BlockFound → Line
line_of (refused said) = line_of_said said
line_of (given (a_list found)) = Listed found.balanced found.constants found.written found.more
line_of (given (a_number unifiers)) = Counted unifiers
