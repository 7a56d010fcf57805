-- What the steps of the questions give, on a pair that is already solved (document 01, "The questions").
use Rattle.std.specs.Prelude.{ℕ, ◌≡◌, false, ltb, length, take, Result, Ok, Err}
use mathlib.Core.List.{List, [], ◌∷◌, ◌++◌, Memᴰ}
use Rattle.ac.specs.Lists.{receives}
use Rattle.ac.specs.Limits.{limits}
use Rattle.ac.specs.Pair.{Mode}
use Rattle.ac.specs.Keys.{layout, keys, Beginning, after, remaining}
use Rattle.ac.specs.Weighed.{candidates, weighed}
use Rattle.numbers.specs.Numbers.{number_of}
use Rattle.numbers.specs.First.{First, NoneOf}
use Rattle.numbers.specs.Order.{sides_numbers, beginning_numbers}
use Rattle.numbers.specs.Outcome.{Outcome}
use Rattle.numbers.specs.declared.Refusal.{Refusal}
use Rattle.pair.specs.Given.{PairGiven}
use Rattle.table.specs.Table.{TableOf, groups_in}
use Rattle.table.specs.Masks.{MasksOf}
use Rattle.table.specs.declared.Table.{Table}
use Rattle.table.specs.declared.masks.Masks.{Masks}
use Rattle.list.specs.Given.{ListGiven}
use Rattle.list.specs.List.{OfItsPair}
use Rattle.solver.specs.Rows.{GroupSizes, RowsPromise}
use Rattle.solver.specs.Page.{PageWritten, beginning_of, PagePromise}
use Rattle.solver.specs.Values.{values_of, ValuesPromise}
use Rattle.solver.specs.Count.{CountPromise}
use Rattle.solver.specs.declared.page.PageRequest.{PageRequest}
use Rattle.solver.specs.declared.page.WrittenKeys.{WrittenKeys}

-- it is so for all sides whose table it is and that give no number
abbrev pub OfSolved : Table → (Mode → List ℕ → List ℕ → Type 0) → Type 0
OfSolved table So =
    (M : Mode) (L R : List ℕ) → TableOf M L R table → NoneOf (PairGiven limits M L R) sides_numbers → So M L R

-- the promises of the questions
abbrev pub RowsOfTable : Table → List ℕ → Outcome GroupSizes → List ℕ → Type 0
RowsOfTable table out outcome out' = OfSolved table (λ M L R. RowsPromise M L R out outcome out')

abbrev pub PageOfTable : Table → PageRequest → List ℕ → Outcome PageWritten → List ℕ → Type 0
PageOfTable table request out outcome out' =
    OfSolved table (λ M L R. PagePromise M L R (beginning_of request.begin) request.wanted out outcome out')

abbrev pub ValuesOfTable : Table → ℕ → List ℕ → Outcome ℕ → List ℕ → Type 0
ValuesOfTable table key out outcome out' =
    OfSolved table (λ M L R. ValuesPromise M L R key out outcome out')

-- Count is asked where no variable may be empty
abbrev pub CountOfTable : Table → Outcome ℕ → Type 0
CountOfTable table outcome = OfSolved table (λ M L R. M.empties ≡ false → CountPromise M L R outcome)

-- 13, 14 or 15, or the first of the keys that remain, and that the key after which to begin, if any, is listed
pub data SettledOf (listed : List ℕ) (begin : Beginning) : Result ℕ Refusal → Type 0 where
  to_refuse : {why : Refusal} → First (ListGiven listed begin) beginning_numbers (number_of why)
      → SettledOf listed begin (Err why)
  to_answer : {key : ℕ} → NoneOf (ListGiven listed begin) beginning_numbers
      → remaining begin listed ≡ key ∷ remaining (after key) listed
      → ((k : ℕ) → begin ≡ after k → Memᴰ k listed)
      → SettledOf listed begin (Ok key)

-- of the keys that remain as many are written as are wanted, and it is told how many they are, whether more
-- follow, and which is the last
pub record KeysWritten (left : List ℕ) (wanted : ℕ) (out : List ℕ) (keys : WrittenKeys) (out' : List ℕ) : Type 0 where
  pub how_many : keys.written ≡ length (take wanted left)
  pub whether_more : keys.more ≡ ltb wanted (length left)
  pub before : List ℕ
  pub the_last : take wanted left ≡ before ++ keys.last ∷ []
  pub the_buffer : out' ≡ receives out (take wanted left)

-- as many as are weighed from the beginning up to the last key, of every pair of every table that the masks are of,
-- where that key and the one after which to begin, if any, are candidates
abbrev pub WeighedUpto : Masks → Beginning → ℕ → ℕ → Type 0
WeighedUpto masks begin last count =
    (table : Table) → MasksOf table masks → OfItsPair table (λ M L R.
    ((k : ℕ) → begin ≡ after k → Memᴰ k (candidates M layout (groups_in table)))
    → Memᴰ last (candidates M layout (groups_in table))
    → count ≡ weighed begin (last ∷ []) (candidates M layout (groups_in table)))

-- the values are written, and it is told how long they are
pub record WritesValues (values : List ℕ) (out : List ℕ) (length' : ℕ) (out' : List ℕ) : Type 0 where
  pub the_length : length' ≡ length values
  pub the_buffer : out' ≡ receives out values

-- so it is of a listed key
abbrev pub ValuesWritten : Table → ℕ → List ℕ → ℕ → List ℕ → Type 0
ValuesWritten table key out length' out' =
    OfItsPair table (λ M L R. Memᴰ key (keys M layout L R (groups_in table))
    → WritesValues (values_of M L R (groups_in table) key) out length' out')
