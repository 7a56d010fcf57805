-- What is decided of some input, when it is refused by a number of a list or goes on.
use Rattle.std.specs.Prelude.{ℕ, ◌≡◌, List, Result, Ok, Err}
use Rattle.numbers.specs.First.{NoneOf}
use Rattle.numbers.specs.Numbers.{said_of}
use Rattle.numbers.specs.Outcome.{Refuses}
use Rattle.numbers.specs.declared.Refusal.{Refusal}

-- Refused with the first of the numbers that is given, 10 with the atom that it names; accepted where none is,
-- and then something is so of what is found.
pub record Decides (Given Names : ℕ → Type 0) (numbers : List ℕ) {A : Type 0} (So : A → Type 0) (decided : Result A Refusal)
    : Type 0 where
  pub refused : (refusal : Refusal) → decided ≡ Err refusal → Refuses Given Names numbers (said_of refusal)
  pub none_given : {found : A} → decided ≡ Ok found → NoneOf Given numbers
  pub so : {found : A} → decided ≡ Ok found → So found
