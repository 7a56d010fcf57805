-- Where a question's one answer is known, a program that answers otherwise does not meet the promise there.
use mathlib.Core.Path.{◌≡◌, sym, ◌∙◌}
use Rattle.numbers.specs.Outcome.{Outcome, given}
use Rattle.worked.specs.Questions.{Question}
use Rattle.worked.specs.Answers.{Answers}
use Rattle.worked.specs.Programs.{Program, MeetsAt, RefusesEverything, ConstantResult, WritesNothing}

module _ {Q : Question} (program : Program Q) where
  module _ {asked : Q.Asked} {lent : Q.Lent} {outcome : Outcome Q.Values} {exit : Q.Lent}
      (right : Answers Q asked lent outcome exit) where
    -- another outcome
    pub other_outcome_fails : ((program asked lent).outcome ≡ outcome → ⊥) → MeetsAt program asked lent → ⊥
    other_outcome_fails differs meets =
        differs (right.alone (program asked lent).outcome (program asked lent).exit meets).0

    -- other buffers at exit
    pub other_exit_fails : ((program asked lent).exit ≡ exit → ⊥) → MeetsAt program asked lent → ⊥
    other_exit_fails differs meets =
        differs (right.alone (program asked lent).outcome (program asked lent).exit meets).1

    -- nothing written where the answer is written
    pub writing_nothing_fails : (lent ≡ exit → ⊥) → WritesNothing program → MeetsAt program asked lent → ⊥
    writing_nothing_fails written nothing = other_exit_fails (λ same. written (sym (nothing asked lent) ∙ same))

  -- a number where the answer is none
  pub refusing_fails : {asked : Q.Asked} {lent : Q.Lent} {values : Q.Values} {exit : Q.Lent}
      → Answers Q asked lent (given values) exit → RefusesEverything program → MeetsAt program asked lent → ⊥
  refusing_fails {asked} {lent} right refuses =
      other_outcome_fails right
      (λ same. cc ((refuses asked lent).1, same))

  -- one result for two questions with different answers
  pub constant_fails : {asked asked' : Q.Asked} {lent lent' : Q.Lent} {outcome outcome' : Outcome Q.Values}
      {exit exit' : Q.Lent}
      → Answers Q asked lent outcome exit → Answers Q asked' lent' outcome' exit' → (outcome ≡ outcome' → ⊥)
      → ConstantResult program
      → MeetsAt program asked lent → MeetsAt program asked' lent' → ⊥
  constant_fails {asked} {asked'} {lent} {lent'} right right' differs constant meets meets' =
      differs
      (sym (right.alone (program asked lent).outcome (program asked lent).exit meets).0
      ∙ constant asked asked' lent lent'
      ∙ (right'.alone (program asked' lent').outcome (program asked' lent').exit meets').0)
