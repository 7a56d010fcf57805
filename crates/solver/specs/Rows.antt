-- The question Rows (document 01, "The questions"): which numbers it gives, and what it promises.
use Rattle.std.specs.Prelude.{ℕ, ◌+◌, ◌*◌, ◌<◌, List, ◌++◌, map, length, get_or, Result, Ok, Err}
use Rattle.ac.specs.Lists.{flat_map, receives}
use Rattle.ac.specs.Limits.{limits}
use Rattle.ac.specs.Pair.{Mode}
use Rattle.ac.specs.Rows.{Group, Groups, GroupsOf}
use Rattle.numbers.specs.Order.{rows_numbers}
use Rattle.numbers.specs.Told.{told}
use Rattle.numbers.specs.Outcome.{Outcome, refused, given, Promise}
use Rattle.numbers.specs.declared.Refusal.{Refusal}
use Rattle.pair.specs.Given.{LowestFar, PairGiven}
use Rattle.solver.specs.declared.rows.Sizes.{Sizes}

-- a lent buffer of at least 480 bytes: room for the most rows, one byte for each variable
abbrev pub rows_buffer : ℕ
rows_buffer = limits.variables * (limits.balanced_rows + limits.constants * limits.constant_rows)

-- The rows of the table that Rows gives: when each number is given, whatever else is wrong.
pub data RowsGiven (M : Mode) (L R out : List ℕ) : ℕ → Type 0 where
  -- 7 to 12 speak of the two sides
  of_the_sides : {n : ℕ} → PairGiven limits M L R n → RowsGiven M L R out n
  -- a lent buffer is too short
  short_buffer : length out < rows_buffer → RowsGiven M L R out 16

-- What Rows returns: the size of each group, of the balanced rows and, after the number of unbalanced
-- constants, of the first to the fourth of them; 0 where there is no such constant.
pub record GroupSizes : Type 0 where
  pub balanced : ℕ
  pub constants : ℕ
  pub first : ℕ
  pub second : ℕ
  pub third : ℕ
  pub fourth : ℕ

-- the sizes, by their numbers
abbrev pub sizes_as : ℕ → ℕ → ℕ → ℕ → ℕ → ℕ → GroupSizes
sizes_as balanced constants first second third fourth =
    record {
      balanced = balanced;
      constants = constants;
      first = first;
      second = second;
      third = third;
      fourth = fourth;
    }

-- document 01's values or its number for each case of the result
abbrev pub told_rows : Result Sizes Refusal → Outcome GroupSizes
told_rows =
    told (λ sizes. sizes_as sizes.balanced sizes.constants sizes.first sizes.second sizes.third sizes.fourth)

-- the size of a constant's group, by the constant's place among the unbalanced ones
abbrev pub size : Groups → ℕ → ℕ
size G place = get_or (map (λ (g : Group). length g.rows) G.constants) place 0

-- the size of each group is returned
abbrev pub sizes_of : Groups → GroupSizes
sizes_of G =
    record {
      balanced = length G.balanced;
      constants = length G.constants;
      first = size G 0;
      second = size G 1;
      third = size G 2;
      fourth = size G 3;
    }

-- the balanced rows, then those of each unbalanced constant ascending
abbrev pub all_rows : Groups → List (List ℕ)
all_rows G = G.balanced ++ flat_map (λ (g : Group). g.rows) G.constants

-- one byte for each variable
abbrev pub bytes_of : List (List ℕ) → List ℕ
bytes_of rows = flat_map (λ row. row) rows

-- A lent buffer receives the balanced rows, then those of each unbalanced constant ascending, one byte for
-- each variable; the size of each group is returned.
pub data RowsGives (M : Mode) (L R out : List ℕ) : GroupSizes → List ℕ → Type 0 where
  rows : {G : Groups} → GroupsOf M L R G → RowsGives M L R out (sizes_of G) (receives out (bytes_of (all_rows G)))

-- What Rows promises of its outcome and of the lent buffer at exit.
abbrev pub RowsPromise : Mode → List ℕ → List ℕ → List ℕ → Outcome GroupSizes → List ℕ → Type 0
RowsPromise M L R out = Promise (RowsGiven M L R out) (LowestFar limits L R) rows_numbers (RowsGives M L R out) out
