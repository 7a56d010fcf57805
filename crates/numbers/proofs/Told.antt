-- A question's promise determines its result: what the result tells, it tells one-to-one.
use Rattle.std.proofs.Common.{◌≡◌, ℕ, List, Result, Ok, Err, ap}
use Rattle.numbers.specs.Outcome.{Outcome, refused, given, Promise}
use Rattle.numbers.specs.Told.{told}
use Rattle.numbers.specs.declared.Refusal.{Refusal}
use Rattle.numbers.proofs.Laws.{refusal_of, refusal_of_said_of}
use Rattle.numbers.proofs.Promises.{OneResult, answer_determined}

module _ {A Values : Type 0} {values : A → Values} (back : Values → A) (there_and_back : (a : A) → back (values a) ≡ a)
  where
    -- the result that tells this
    result_of : Outcome Values → Result A Refusal
    result_of (refused said) = Err (refusal_of said)
    result_of (given v) = Ok (back v)

    result_of_told : (r : Result A Refusal) → result_of (told values r) ≡ r
    unfolding result_of
    result_of_told (Ok a) = ap Ok (there_and_back a)
    result_of_told (Err refusal) = ap Err (refusal_of_said_of refusal)

    -- Two results, each with its buffers, that meet the promise are identical.
    pub result_determined : {Buffers : Type 0} {Given Names : ℕ → Type 0} {numbers : List ℕ}
        {Gives : Values → Buffers → Type 0} {entry : Buffers} → OneResult Names Gives
        → {r r' : Result A Refusal} {b b' : Buffers} → Promise Given Names numbers Gives entry (told values r) b
        → Promise Given Names numbers Gives entry (told values r') b'
        → (r ≡ r') × (b ≡ b')
    result_determined one promise promise' = answer_determined one result_of result_of_told promise promise'
