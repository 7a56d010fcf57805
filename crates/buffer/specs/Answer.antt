-- What a call that moves bytes answered: how many it moved, or the system's number of the error.
use Rattle.std.specs.Prelude.{ℕ, ℤ, pos, Result, Ok, Err, unwrap_or}
use Rattle.std.specs.IoError.{raw_os_error}
use Rattle.std.specs.declared.io.Error.{Error}

-- A call answers how many bytes it moved, or where it failed the error's number, 0 where it is none of the system's.
abbrev pub answer_of : Result ℕ Error → Result ℕ ℤ
answer_of (Ok moved) = Ok moved
answer_of (Err error) = Err (unwrap_or (raw_os_error error) (pos 0))
