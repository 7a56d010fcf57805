-- What the questions answer of document 01's pairs worked by hand, by what they promise alone.
use Rattle.std.specs.Prelude.{ℕ, ◌-◌, ◌≤◌, ◌≡◌, Bool, false, length, get_or}
use mathlib.Core.List.{List, [], ◌∷◌, Memᴰ}
use Rattle.ac.specs.Lists.{receives}
use Rattle.ac.specs.Pair.{unifying}
use Rattle.ac.specs.Rows.{Group, Groups, GroupsOf}
use Rattle.ac.specs.Keys.{layout, keys, start}
use Rattle.ac.specs.Weighed.{candidates, weighed}
use Rattle.ac.specs.Values.{Binding, laid_out}
use Rattle.ac.specs.Worked.{Pair, pairs, Printed, how_many, rows, balanced_rows, rows_of, the_keys, substitutions}
use Rattle.numbers.specs.Numbers.{said_of}
use Rattle.numbers.specs.Outcome.{Outcome, refused, given}
use Rattle.numbers.specs.declared.Refusal.TheVariants.{NoUnifier}
use Rattle.solver.specs.Rows.{GroupSizes, rows_buffer, sizes_of, all_rows, bytes_of}
use Rattle.solver.specs.Page.{PageWritten}
use Rattle.solver.specs.Values.{values_buffer, values_of}
use Rattle.worked.specs.Questions.{Question, TwoBuffers, SidesAsked, read_question, rows_question, page_question, values_question, write_question}

-- The one answer to what is asked: this outcome with these buffers at exit meets the promise, and whatever
-- meets it is this.
pub record Answers (Q : Question) (asked : Q.Asked) (lent : Q.Lent) (outcome : Outcome Q.Values)
    (exit : Q.Lent) : Type 0 where
  pub meets : Q.Promise asked lent outcome exit
  pub alone : (other : Outcome Q.Values) (other_exit : Q.Lent) → Q.Promise asked lent other other_exit
      → (other ≡ outcome) × (other_exit ≡ exit)

-- what Page returns: so many keys, whether more follow, and how many candidates were weighed
abbrev pub page_of : ℕ → Bool → ℕ → PageWritten
page_of written more weighed = record { written = written; more = more; weighed = weighed }

-- the first page of a list that fits it: 13 where nothing is listed, else how many keys there are, that no more
-- follow, and how many candidates were weighed
abbrev pub first_page : ℕ → List ℕ → Outcome PageWritten
first_page weighed [] = refused (said_of NoUnifier)
first_page weighed (key ∷ keys) = given (page_of (length (key ∷ keys)) false weighed)

-- Read gives these sides of the block.
abbrev pub ReadAnswers : List ℕ → ℕ → List ℕ → List ℕ → Type 0
ReadAnswers block number left right = (lent : TwoBuffers) → 64 ≤ length lent.left → 64 ≤ length lent.right
    → Answers read_question (record { block = block; number = number }) lent
    (given (record { left = length left; right = length right }))
    (record { left = receives lent.left left; right = receives lent.right right })

-- Write gives this block of the two sides and the number.
abbrev pub WriteAnswers : List ℕ → List ℕ → ℕ → List ℕ → Type 0
WriteAnswers left right number block = (lent : List ℕ) → 512 ≤ length lent
    → Answers write_question (record { left = left; right = right; also = number }) lent (given tt) (receives lent block)

module _ (L R : List ℕ) where
  -- Rows gives these sizes of the groups, and these rows.
  abbrev pub RowsAnswers : GroupSizes → List (List ℕ) → Type 0
  RowsAnswers sizes vectors = (out : List ℕ) → rows_buffer ≤ length out
      → Answers rows_question (record { left = L; right = R; also = tt }) out (given sizes)
      (receives out (bytes_of vectors))

  -- Rows gives the sizes and rows of the groups of the pair, which are such.
  abbrev pub RowsGiveSuch : (Groups → Type 0) → Type 0
  RowsGiveSuch Such = (G : Groups) × GroupsOf unifying L R G × Such G × RowsAnswers (sizes_of G) (all_rows G)

  -- Page from the start, where 0, meaning 200, are wanted, gives all these keys at once, with so many candidates
  -- weighed, or 13 where there are none.
  abbrev pub PageAnswers : ℕ → List ℕ → Type 0
  PageAnswers weighed keys = (out : List ℕ) → 200 ≤ length out
      → Answers page_question (record { left = L; right = R; also = record { begin = start; wanted = 0 } }) out
      (first_page weighed keys)
      (receives out keys)

  -- Page gives these keys, and however many were weighed.
  abbrev pub PageGivesAll : List ℕ → Type 0
  PageGivesAll keys = (weighed : ℕ) × PageAnswers weighed keys

  -- Values gives these bytes of the key.
  abbrev pub ValuesAnswers : ℕ → List ℕ → Type 0
  ValuesAnswers key bytes = (out : List ℕ) → values_buffer ≤ length out
      → Answers values_question (record { left = L; right = R; also = key }) out (given (length bytes))
      (receives out bytes)

  -- Of each key in turn Values gives the values of these variables.
  pub data ValuesGiveInTurn : List ℕ → List (List Binding) → Type 0 where
    none : ValuesGiveInTurn [] []
    next : {key : ℕ} {keys : List ℕ} {valued : List Binding} {others : List (List Binding)}
        → ValuesAnswers key (laid_out valued) → ValuesGiveInTurn keys others
        → ValuesGiveInTurn (key ∷ keys) (valued ∷ others)

  -- The questions answer what the document prints.
  abbrev pub AnswersPrinted : Printed → Type 0
  AnswersPrinted (how_many k) = (ks : List ℕ) × PageGivesAll ks × (length ks ≡ k)
  AnswersPrinted (rows rs) = RowsGiveSuch (λ G. G.balanced ≡ rs)
  AnswersPrinted (balanced_rows k) = RowsGiveSuch (λ G. length G.balanced ≡ k)
  AnswersPrinted (rows_of a k) =
      RowsGiveSuch (λ G. (g : Group) × Memᴰ g G.constants × (g.constant ≡ a) × (length g.rows ≡ k))
  AnswersPrinted (the_keys ks) = PageGivesAll ks
  AnswersPrinted (substitutions vs) = (ks : List ℕ) × PageGivesAll ks × ValuesGiveInTurn ks vs

  -- Printed or not, they answer by the groups of the pair: their rows, their list, and of each key on it the
  -- values.
  pub record AnswersBy (G : Groups) : Type 0 where
    pub the_rows : RowsAnswers (sizes_of G) (all_rows G)
    pub the_list : PageAnswers (weighed start (keys unifying layout L R G) (candidates unifying layout G))
        (keys unifying layout L R G)
    pub the_values : (key : ℕ) → Memᴰ key (keys unifying layout L R G)
        → ValuesAnswers key (values_of unifying L R G key)

-- What is shown of a pair of the table.
pub record Worked (pair : Pair) : Type 0 where
  pub as_printed : (what : Printed) → Memᴰ what pair.printed
      → AnswersPrinted pair.left pair.right what
  pub by_groups : (G : Groups) → GroupsOf unifying pair.left pair.right G
      → AnswersBy pair.left pair.right G

-- the pair of that number, counted as in the document
abbrev pub numbered : ℕ → Pair
numbered n = get_or pairs (n - 1) (record { left = []; right = []; printed = [] })

-- a question asked of that pair, with what else it is asked
abbrev pub of_pair : {Also : Type 0} → ℕ → Also → SidesAsked Also
of_pair n also = record { left = (numbered n).left; right = (numbered n).right; also = also }
