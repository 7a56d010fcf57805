-- What the result of a question tells (document 01, "Numbers given in place of a result").
use Rattle.std.specs.Prelude.{Result, Ok, Err}
use Rattle.numbers.specs.Numbers.{said_of}
use Rattle.numbers.specs.Outcome.{Outcome, refused, given}
use Rattle.numbers.specs.declared.Refusal.{Refusal}

-- the values of what was found, or the number of the refusal with what is said beside it
abbrev pub told : {A Values : Type 0} → (A → Values) → Result A Refusal → Outcome Values
told values (Ok found) = given (values found)
told values (Err refusal) = refused (said_of refusal)
