-- A library and the calls by which it is read (document 01, "A library block" and "The nightly program"): its
-- blocks, all that came by the calls, and every way in which calls and blocks may follow one another.
use Rattle.std.specs.Prelude.{ℕ, zero, suc, ◌+◌, ◌*◌, ◌≤◌, ◌<◌, ◌≡◌, List, [], ◌∷◌, ◌++◌, length, take, drop, ℤ, Result, Ok, Err}
use Rattle.library.specs.Reading.{patience, opened, part, waiting, room_made, interrupted, ReaderFits, Comes, Takes}
use Rattle.library.specs.declared.Reader.{Reader}
use Rattle.library.specs.declared.Next.{Next}
use Rattle.library.specs.declared.Next.TheVariants as next

-- At most so many blocks of a library, in order: 512 bytes each, and the last one of the input perhaps fewer.
abbrev pub blocks_of : ℕ → List ℕ → List (List ℕ)
blocks_of zero bytes = []
blocks_of (suc most) [] = []
blocks_of (suc most) (byte ∷ bytes) = take 512 (byte ∷ bytes) ∷ blocks_of most (drop 512 (byte ∷ bytes))

-- blocks one after the other
abbrev pub all_bytes : List (List ℕ) → List ℕ
all_bytes [] = []
all_bytes (block ∷ blocks) = block ++ all_bytes blocks

-- One call of read: what stands then in the room that it was lent, and what it answered, the bytes that it moved
-- or the error's number.
pub record Call : Type 0 where
  pub room : List ℕ
  pub answered : Result ℕ ℤ

-- so many bytes as the answer says stand at the room's start
abbrev pub brought : Result ℕ ℤ → List ℕ → List ℕ
brought (Ok n) room = take n room
brought (Err error) room = []

-- all that came by the calls, of which the newest stands first
abbrev pub came : List Call → List ℕ
came [] = []
came (c ∷ calls) = came calls ++ brought c.answered c.room

-- Calls after which more may come: each brought bytes, or it was interrupted; so many were interrupted.
pub data Going : List Call → ℕ → Type 0 where
  none : Going [] 0
  bytes : {c : Call} {calls : List Call} {n k : ℕ} → c.answered ≡ Ok (suc k) → Going calls n → Going (c ∷ calls) n
  again :
      {c : Call} {calls : List Call} {n : ℕ} →
      c.answered ≡ Err interrupted →
      Going calls n →
      Going (c ∷ calls) (suc n)

-- The newest call says that the input has ended: it was lent room and answered 0.
pub data EndedBy : List Call → Type 0 where
  ended : {c : Call} {calls : List Call} {n : ℕ} → c.answered ≡ Ok 0 → 0 < length c.room → Going calls n
      → EndedBy (c ∷ calls)

-- The newest call failed with this error; it was interrupted only where all that may be tried again had been.
pub data FailedBy (error : ℤ) : List Call → Type 0 where
  failed :
      {c : Call} {calls : List Call} {n : ℕ} →
      c.answered ≡ Err error →
      (error ≡ interrupted → n ≡ patience) →
      Going calls n →
      FailedBy error (c ∷ calls)

-- One call: the bytes that wait stand before the room that it is lent, and its answer is taken.
pub record Reads (buffer : List ℕ) (r : Reader) (c : Call) (r' : Reader) (after : List ℕ) : Type 0 where
  pub same_length : length after ≡ length buffer
  pub behind : after ≡ waiting buffer r ++ c.room
  pub takes : Takes (room_made r) (length c.room) c.answered r'

-- a reader after some call
pub record ReadsOnce (buffer : List ℕ) (r r' : Reader) (after : List ℕ) : Type 0 where
  pub call : Call
  pub read : Reads buffer r call r' after

-- Some calls one after the other, each where a read is wanted; the newest stands first.
pub data Calls (buffer : List ℕ) (r : Reader) : List Call → Reader → List ℕ → Type 0 where
  none : Calls buffer r [] r buffer
  one_more :
      {c : Call} {calls : List Call} {r₁ r₂ : Reader} {mid after : List ℕ} →
      Calls buffer r calls r₁ mid →
      Comes r₁ next.Wanted r₁ →
      Reads mid r₁ c r₂ after →
      Calls buffer r (c ∷ calls) r₂ after

-- What comes next after some calls, when no more read is wanted.
pub record HandsOn (buffer : List ℕ) (r : Reader) (n : Next) (r' : Reader) (after : List ℕ) : Type 0 where
  pub calls : List Call
  pub full : Reader
  pub reads : Calls buffer r calls full after
  pub comes : Comes full n r'
  pub not_wanted : n ≡ next.Wanted → ⊥

-- A run: a library of which at most so many blocks may be read is opened; then come calls where a read is
-- wanted, and blocks are handed on. The newest call stands first, the blocks in the order in which they were
-- handed on.
pub data Run (most : ℕ) : List Call → List (List ℕ) → Reader → List ℕ → Type 0 where
  start : {buffer : List ℕ} → 512 ≤ length buffer → Run most [] [] (opened most) buffer
  call :
      {c : Call} {calls : List Call} {blocks : List (List ℕ)} {r r' : Reader} {buffer after : List ℕ} →
      Run most calls blocks r buffer →
      Comes r next.Wanted r →
      Reads buffer r c r' after →
      Run most (c ∷ calls) blocks r' after
  block :
      {calls : List Call} {blocks : List (List ℕ)} {r r' : Reader} {buffer : List ℕ} {start size : ℕ} →
      Run most calls blocks r buffer →
      Comes r (next.Block start size) r' →
      Run most calls (blocks ++ (part start size buffer ∷ [])) r' buffer

-- What is so all along a run, however the calls cut the input: the blocks handed on are the first ones of all
-- that came, in order, and what waits is the rest.
pub record HandedOn (most : ℕ) (calls : List Call) (blocks : List (List ℕ)) (r : Reader) (buffer : List ℕ)
    : Type 0 where
  pub fits : ReaderFits buffer r
  pub counted : length blocks + r.left ≡ most
  pub in_order : blocks ≡ blocks_of (length blocks) (came calls)
  pub rest : waiting buffer r ≡ drop (512 * length blocks) (came calls)
  pub none_lost : all_bytes blocks ++ waiting buffer r ≡ came calls

-- At the end: a call said so, and the blocks handed on are all of the library, which has no more than may be
-- read.
pub record AtEnd (most : ℕ) (calls : List Call) (blocks : List (List ℕ)) : Type 0 where
  pub ended : EndedBy calls
  pub all : blocks ≡ blocks_of most (came calls)
  pub no_more : length (came calls) ≤ 512 * most

-- Where input remains: as many blocks were handed on as may be read, and more came; they are the library's
-- first ones, whatever else would come.
pub record AtLimit (most : ℕ) (calls : List Call) (blocks : List (List ℕ)) : Type 0 where
  pub counted : length blocks ≡ most
  pub more : 512 * most < length (came calls)
  pub all : (rest : List ℕ) → blocks ≡ blocks_of most (came calls ++ rest)

-- At a failure: a call failed with this error, and every whole block that came before was handed on.
pub record AtFailure (error : ℤ) (calls : List Call) (blocks : List (List ℕ)) : Type 0 where
  pub failed : FailedBy error calls
  pub in_order : blocks ≡ blocks_of (length blocks) (came calls)
  pub whole : 512 * length blocks ≤ length (came calls)
  pub no_other : length (came calls) < 512 * length blocks + 512
