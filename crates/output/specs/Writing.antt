-- What follows from the answer of a write.
use Rattle.std.specs.Prelude.{ℕ, zero, suc, ◌+◌, ◌-◌, min, if◌then◌else◌, ◌==◌, ℤ, pos, negsuc, Result, Ok, Err}
use Rattle.output.specs.declared.Onward.{Onward}

-- it goes on from a place, where an interrupted write may be tried so often again
abbrev pub from : ℕ → ℕ → Result Onward ℤ
from written tries = Ok (record { written = written; tries = tries })

-- so many of the bytes were taken, and it goes on behind them; 0 says that nothing will be taken
abbrev pub after_bytes : ℕ → ℕ → ℕ → Result Onward ℤ
after_bytes written filled zero = Err (pos 0)
after_bytes written filled (suc n) = from (written + min (suc n) (filled - written)) 1000000

-- an interrupted write, as often as it may still be tried again
abbrev pub try_again : ℕ → ℕ → ℤ → Result Onward ℤ
try_again written zero error = Err error
try_again written (suc tries) error = from written tries

-- the error that says that a write was interrupted is 4
abbrev pub after_error : ℕ → ℕ → ℤ → Result Onward ℤ
after_error written tries (pos number) =
    if number == 4 then try_again written tries (pos number) else Err (pos number)
after_error written tries (negsuc number) = Err (negsuc number)

-- what follows from an answer, the bytes that were taken or the error's number
abbrev pub after_write : ℕ → ℕ → ℕ → Result ℕ ℤ → Result Onward ℤ
after_write written filled tries (Ok taken) = after_bytes written filled taken
after_write written filled tries (Err error) = after_error written tries error
