-- The questions of document 01, and Write and Count of document 02, in one form: what is asked, what is lent, what it
-- comes to, and what is promised.
use Rattle.std.specs.Prelude.{ℕ, List}
use Rattle.pair.specs.Ways.{mode_of}
use Rattle.pair.specs.declared.ways.Way.{Way}
use Rattle.pair.specs.declared.ways.Way.TheVariants.{Unifying}
use Rattle.ac.specs.Keys.{Beginning}
use Rattle.ac.specs.Pair.{unifying}
use Rattle.numbers.specs.Outcome.{Outcome}
use Rattle.block.specs.Read.{SideLengths, ReadPromise}
use Rattle.solver.specs.Rows.{GroupSizes, RowsPromise}
use Rattle.solver.specs.Page.{PageWritten, PagePromise}
use Rattle.solver.specs.Values.{ValuesPromise}
use Rattle.solver.specs.Count.{CountPromise}
use Rattle.writing.specs.Write.{WritePromise}

-- a question: what is asked of it, what it is lent, what it comes to, and what it promises of that
pub record Question : Type 1 where
  pub Asked : Type 0
  -- the lent buffers
  pub Lent : Type 0
  -- what it returns
  pub Values : Type 0
  -- what is promised of the outcome and of the lent buffers at exit
  pub Promise : Asked → Lent → Outcome Values → Lent → Type 0

-- Read: a block and an expected number; two lent buffers
pub record BlockAndNumber : Type 0 where
  pub block : List ℕ
  pub number : ℕ

-- the two lent buffers, which receive the sides
pub record TwoBuffers : Type 0 where
  pub left : List ℕ
  pub right : List ℕ

-- Read
abbrev pub read_question : Question
read_question =
    record {
      Asked = BlockAndNumber;
      Lent = TwoBuffers;
      Values = SideLengths;
      Promise = λ asked lent outcome exit.
          ReadPromise asked.block asked.number lent.left lent.right outcome exit.left exit.right;
    }

-- two sides, and what else a question is asked of them
pub record SidesAsked (Also : Type 0) : Type 0 where
  pub left : List ℕ
  pub right : List ℕ
  pub also : Also

-- a question of two sides, with one lent buffer
abbrev of_sides : (Also Values : Type 0)
    → (List ℕ → List ℕ → Also → List ℕ → Outcome Values → List ℕ → Type 0) → Question
of_sides Also Values Promise =
    record {
      Asked = SidesAsked Also;
      Lent = List ℕ;
      Values = Values;
      Promise = λ asked. Promise asked.left asked.right asked.also;
    }

-- Rows, by each way of listing: two sides, and nothing else
abbrev pub rows_question_by : Way → Question
rows_question_by way = of_sides (Unit {0}) GroupSizes (λ L R nothing. RowsPromise (mode_of way L R) L R)

abbrev pub rows_question : Question
rows_question = rows_question_by Unifying

-- Page: and a request made of where to begin and how many are wanted
pub record Request : Type 0 where
  pub begin : Beginning
  pub wanted : ℕ

-- Page, by each way of listing
abbrev pub page_question_by : Way → Question
page_question_by way =
    of_sides Request PageWritten (λ L R request. PagePromise (mode_of way L R) L R request.begin request.wanted)

abbrev pub page_question : Question
page_question = page_question_by Unifying

-- Values, by each way of listing: and a key
abbrev pub values_question_by : Way → Question
values_question_by way = of_sides ℕ ℕ (λ L R key. ValuesPromise (mode_of way L R) L R key)

abbrev pub values_question : Question
values_question = values_question_by Unifying

-- Write: and the number that the block is to have
abbrev pub write_question : Question
write_question = of_sides ℕ (Unit {0}) (λ L R number. WritePromise L R number)

-- Count: two sides, and nothing else; nothing is lent
abbrev pub count_question : Question
count_question =
    record {
      Asked = SidesAsked (Unit {0});
      Lent = Unit {0};
      Values = ℕ;
      Promise = λ asked lent outcome exit. CountPromise unifying asked.left asked.right outcome;
    }
