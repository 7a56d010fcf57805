-- Reading a library (document 01, "A library block" and "The nightly program"): the bytes that wait, what
-- comes next of them, and what the answer of a call of read says.
use Rattle.std.specs.Prelude.{ℕ, zero, suc, ◌+◌, ◌-◌, ◌≤◌, ◌<◌, min, ◌≡◌, List, ◌++◌, length, take, drop, ℤ, pos, Result, Ok, Err}
use Rattle.library.specs.declared.Reader.{Reader}
use Rattle.library.specs.declared.Input.{Input}
use Rattle.library.specs.declared.Input.TheVariants as input
use Rattle.library.specs.declared.Next.{Next}
use Rattle.library.specs.declared.Next.TheVariants as next

-- so many interrupted calls are tried again, a million in all
abbrev pub patience : ℕ
patience = 1000000

-- nothing was read yet
abbrev pub opened : ℕ → Reader
opened most = record { at = 0; filled = 0; left = most; retries = patience; input = input.More }

-- so many bytes of the buffer from a place on
abbrev pub part : ℕ → ℕ → List ℕ → List ℕ
part start size buffer = take size (drop start buffer)

-- how many bytes came and were not handed on yet
abbrev pub waits : Reader → ℕ
waits r = r.filled - r.at

-- these bytes
abbrev pub waiting : List ℕ → Reader → List ℕ
waiting buffer r = part r.at (waits r) buffer

-- the reader's places lie in the buffer, which has room for a block
pub record ReaderFits (buffer : List ℕ) (r : Reader) : Type 0 where
  pub ordered : r.at ≤ r.filled
  pub within : r.filled ≤ length buffer
  pub room : 512 ≤ length buffer

-- how many bytes must wait while more may come: a block's or, where no block may be read any more, one, which
-- says that input remains
abbrev pub wanted : ℕ → ℕ
wanted zero = 1
wanted (suc left) = 512

-- the next so many bytes were handed on as a block
abbrev pub handed : ℕ → Reader → Reader
handed size r =
    record { at = r.at + size; filled = r.filled; left = r.left - 1; retries = r.retries; input = r.input }

-- What comes next, and how far the library has been read then.
pub data Comes (r : Reader) : Next → Reader → Type 0 where
  -- a block, as soon as its 512 bytes wait
  a_block : 0 < r.left → 512 ≤ waits r → Comes r (next.Block r.at 512) (handed 512 r)
  -- the last block may be shorter: what waits when the input has ended
  a_short_block :
      0 < r.left →
      0 < waits r →
      waits r < 512 →
      r.input ≡ input.Ended →
      Comes r (next.Block r.at (waits r)) (handed (waits r) r)
  -- the end: the input has ended and nothing waits
  the_end : waits r ≡ 0 → r.input ≡ input.Ended → Comes r next.End r
  -- input remains after the last block that may be read
  remains : r.left ≡ 0 → 0 < waits r → Comes r next.Remains r
  -- a call failed, and fewer bytes wait than are wanted
  failed : {error : ℤ} → waits r < wanted r.left → r.input ≡ input.Failed error
      → Comes r (next.Failed error) r
  -- fewer bytes wait than are wanted, and more may come
  a_read : waits r < wanted r.left → r.input ≡ input.More → Comes r next.Wanted r

-- the bytes that wait stand at the buffer's start ..
abbrev pub room_made : Reader → Reader
room_made r = record { at = 0; filled = waits r; left = r.left; retries = r.retries; input = r.input }

-- .. and the bytes behind them are as they were
abbrev pub moved : Reader → List ℕ → List ℕ
moved r buffer = waiting buffer r ++ drop (waits r) buffer

-- so many bytes more wait
abbrev pub more : ℕ → Reader → Reader
more n r = record { at = r.at; filled = r.filled + n; left = r.left; retries = r.retries; input = r.input }

-- an interrupted call is tried again
abbrev pub again : Reader → Reader
again r = record { at = r.at; filled = r.filled; left = r.left; retries = r.retries - 1; input = r.input }

-- a call told this of the input
abbrev pub told : Input → Reader → Reader
told said r = record { at = r.at; filled = r.filled; left = r.left; retries = r.retries; input = said }

-- the system's number for a call that a signal interrupted (EINTR)
abbrev pub interrupted : ℤ
interrupted = pos 4

-- What a call that failed with this error says: an interrupted one is tried again as long as that may be
-- done; any other error is a failure that is told.
pub data Misses (r : Reader) (error : ℤ) : Reader → Type 0 where
  tried_again : error ≡ interrupted → 0 < r.retries → Misses r error (again r)
  given_up : error ≡ interrupted → r.retries ≡ 0 → Misses r error (told (input.Failed error) r)
  failed : (error ≡ interrupted → ⊥) → Misses r error (told (input.Failed error) r)

-- What a call says that was lent so much room: 0 bytes are the end of the input; of any other number, so many
-- came, and no more than there was room for, since nothing else can have been put there; or it failed, with this
-- error.
pub data Takes (r : Reader) (room : ℕ) (answered : Result ℕ ℤ) : Reader → Type 0 where
  the_end : answered ≡ Ok 0 → Takes r room answered (told input.Ended r)
  bytes : {n : ℕ} → answered ≡ Ok (suc n) → Takes r room answered (more (min (suc n) room) r)
  missed : {error : ℤ} {r' : Reader} → answered ≡ Err error → Misses r error r' → Takes r room answered r'
