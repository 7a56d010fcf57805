-- The question Values (document 01, "The questions"): which numbers it gives, and what it promises.
use Rattle.std.specs.Prelude.{ℕ, ◌+◌, ◌*◌, ◌<◌, List, length, Result, Ok, Err}
use Rattle.ac.specs.Lists.{receives}
use Rattle.ac.specs.Limits.{limits}
use Rattle.ac.specs.Pair.{Mode, variables}
use Rattle.ac.specs.Rows.{Groups, GroupsOf}
use Rattle.ac.specs.Selection.{value}
use Rattle.ac.specs.Keys.{layout, keys, selection_at, after}
use Rattle.ac.specs.Values.{laid_out, bindings}
use Rattle.numbers.specs.Order.{values_numbers}
use Rattle.numbers.specs.Told.{told}
use Rattle.numbers.specs.Outcome.{Outcome, refused, given, Promise}
use Rattle.numbers.specs.declared.Refusal.{Refusal}
use Rattle.pair.specs.Given.{LowestFar, PairGiven}
use Rattle.list.specs.Given.{ListGiven}

-- Within the limits no value has more than 160 atoms (document 02, R-9): a selection takes a row of each unbalanced
-- constant and any balanced rows, and each names its atom at most as often as a net count may be far from 0.
abbrev pub longest_value : ℕ
longest_value = limits.net_count * (limits.constants + limits.balanced_rows)

-- a lent buffer of at least 972 bytes: for each variable its byte, a byte count and the atoms
abbrev pub values_buffer : ℕ
values_buffer = limits.variables * (2 + longest_value)

-- The rows of the table that Values gives: when each number is given, whatever else is wrong.
pub data ValuesGiven (M : Mode) (L R : List ℕ) (key : ℕ) (out : List ℕ) : ℕ → Type 0 where
  -- 7 to 12 speak of the two sides
  of_the_sides : {n : ℕ} → PairGiven limits M L R n → ValuesGiven M L R key out n
  -- 13 and 14 of the list of the pair's groups; that the key is the last, 15, is none of the numbers of Values
  of_the_list : {n : ℕ} {G : Groups} → GroupsOf M L R G → ListGiven (keys M layout L R G) (after key) n
      → ValuesGiven M L R key out n
  -- a lent buffer is too short
  short_buffer : length out < values_buffer → ValuesGiven M L R key out 16

-- document 01's value, the length that is returned, or its number, for each case of the result
abbrev pub told_values : Result ℕ Refusal → Outcome ℕ
told_values = told (λ length. length)

-- For each variable ascending, its byte, a byte count and the atoms.
abbrev pub values_of : Mode → List ℕ → List ℕ → Groups → ℕ → List ℕ
values_of M L R G key = laid_out (bindings (value M layout.new L R G (selection_at layout G key)) (variables M L R))

-- A lent buffer receives, for each variable ascending, its byte, a byte count and the atoms; the length is
-- returned.
pub data ValuesGives (M : Mode) (L R : List ℕ) (key : ℕ) (out : List ℕ) : ℕ → List ℕ → Type 0 where
  values : {G : Groups} → GroupsOf M L R G
      → ValuesGives M L R key out (length (values_of M L R G key)) (receives out (values_of M L R G key))

-- What Values promises of its outcome and of the lent buffer at exit.
abbrev pub ValuesPromise : Mode → List ℕ → List ℕ → ℕ → List ℕ → Outcome ℕ → List ℕ → Type 0
ValuesPromise M L R key out =
    Promise (ValuesGiven M L R key out) (LowestFar limits L R) values_numbers (ValuesGives M L R key out) out
