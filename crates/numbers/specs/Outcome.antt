-- What a question comes to, and what every question promises of it (document 01, "Numbers given in place of a
-- result" and "What every promise has to say").
use Rattle.std.specs.Prelude.{ℕ, ◌≡◌, List}
use Rattle.std.proofs.Math.Option.{Option, none, some}
use Rattle.numbers.specs.First.{First, NoneOf}

-- What is said where a result is refused: "each returns its number alone", and 10 its number and an atom
-- (document 02, R-2).
pub record Said : Type 0 where
  pub number : ℕ
  pub atom : Option ℕ

-- A question is refused, with what is said, or given, with the question's own values.
pub data Outcome (Values : Type 0) : Type 0 where
  refused : Said → Outcome Values
  given : Values → Outcome Values

-- What stands beside a number: beside 10 the atom that is named, beside any other nothing.
pub data Beside (Names : ℕ → Type 0) : ℕ → Option ℕ → Type 0 where
  an_atom : {atom : ℕ} → Names atom → Beside Names 10 (some atom)
  nothing : {number : ℕ} → (number ≡ 10 → ⊥) → Beside Names number none

-- What is said is right: the first number of the question's list that is given, and what stands beside it.
pub record Refuses (Given Names : ℕ → Type 0) (numbers : List ℕ) (said : Said) : Type 0 where
  pub first : First Given numbers said.number
  pub beside : Beside Names said.number said.atom

-- What a question promises of its outcome and of the lent buffers at exit. `Given` says when each number is
-- given, `Names` which atom 10 names, `numbers` are the question's own in order, and `Gives` says which values
-- and buffers are its result.
pub data Promise {Values Buffers : Type 0} (Given Names : ℕ → Type 0) (numbers : List ℕ)
    (Gives : Values → Buffers → Type 0) (entry : Buffers) : Outcome Values → Buffers → Type 0 where
  -- Each returns its number alone, 10 with its atom, and changes no buffer.
  is_refused : {said : Said} → Refuses Given Names numbers said
      → Promise Given Names numbers Gives entry (refused said) entry
  -- The result, where no number of the list is given.
  is_given : {values : Values} {exit : Buffers} → NoneOf Given numbers → Gives values exit
      → Promise Given Names numbers Gives entry (given values) exit

-- No atom is named: the question has no number 10.
abbrev pub NamesNone : ℕ → Type 0
NamesNone atom = ⊥
