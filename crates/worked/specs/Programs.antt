-- Document 01, "What every promise has to say": the wrong programs, which must be unable to meet a question's
-- promise.
use Rattle.std.specs.Prelude.{ℕ, ◌≡◌}
use Rattle.ac.specs.Keys.{after}
use Rattle.numbers.specs.Numbers.{said_of}
use Rattle.numbers.specs.Outcome.{Said, Outcome, refused, given}
use Rattle.numbers.specs.declared.Refusal.TheVariants.{LastKey}
use Rattle.solver.specs.Page.{PageWritten}
use Rattle.worked.specs.Questions.{Question, page_question}

-- what a program returns, and what it leaves in the lent buffers
pub record Result (Q : Question) : Type 0 where
  pub outcome : Outcome Q.Values
  pub exit : Q.Lent

-- any program for a question, as a function of what is asked and lent
abbrev pub Program : Question → Type 0
Program Q = Q.Asked → Q.Lent → Result Q

module _ {Q : Question} (program : Program Q) where
  -- at what is asked and lent the program meets the promise
  abbrev pub MeetsAt : Q.Asked → Q.Lent → Type 0
  MeetsAt asked lent = Q.Promise asked lent (program asked lent).outcome (program asked lent).exit

  -- a program that refuses everything, with whatever numbers
  abbrev pub RefusesEverything : Type 0
  RefusesEverything = (asked : Q.Asked) (lent : Q.Lent) → (said : Said) × ((program asked lent).outcome ≡ refused said)

  -- one with a constant result, whatever it is
  abbrev pub ConstantResult : Type 0
  ConstantResult = (asked asked' : Q.Asked) (lent lent' : Q.Lent)
      → (program asked lent).outcome ≡ (program asked' lent').outcome

  -- one that writes nothing, whatever it returns
  abbrev pub WritesNothing : Type 0
  WritesNothing = (asked : Q.Asked) (lent : Q.Lent) → (program asked lent).exit ≡ lent

-- one that finds the first key and then claims 15: whatever it gives from the start, after a key it gives 15
abbrev pub ThenFifteen : Program page_question → Type 0
ThenFifteen program =
    (asked : page_question.Asked) (lent : page_question.Lent) (key : ℕ) → asked.also.begin ≡ after key
    → (program asked lent).outcome ≡ refused (said_of LastKey)

-- one that tells one count of weighed candidates of every page
abbrev pub ConstantWeighed : Program page_question → Type 0
ConstantWeighed program =
    (asked asked' : page_question.Asked) (lent lent' : page_question.Lent) (page page' : PageWritten)
    → (program asked lent).outcome ≡ given page → (program asked' lent').outcome ≡ given page'
    → page.weighed ≡ page'.weighed
