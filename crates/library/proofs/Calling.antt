-- Laws of one call of read, behind the bytes that wait.
use Rattle.std.proofs.Common.{ℕ, suc, ◌+◌, ◌-◌, ◌≤◌, ◌<◌, min, arith, ◌≡◌, refl, ap, sym, ◌∙◌, List, [], ◌∷◌, ◌++◌, append-nil, length, take, drop, length-append, length-drop, take-append-drop, take_at, take_all, length-take-le, ℤ, Result}
use native.Mathlib.Decide.{dec_le}
use lib.Seq.{take-append-add}
use borrow.Rule.Slice.PartMut.{put_mid, take_put}
use Rattle.library.specs.Reading.{waits, waiting, room_made, moved, more, ReaderFits, Comes, Misses, Takes}
use Rattle.library.specs.Library.{Call, brought, Reads, ReadsOnce, Calls}
use Rattle.library.specs.declared.Reader.{Reader}
use Rattle.library.specs.declared.Input.{Input}
use Rattle.library.specs.declared.Input.TheVariants as input
use Rattle.library.specs.declared.Next.TheVariants as next
use Rattle.library.proofs.Coming.{wanted_most, comes_more}

-- as many bytes wait as stand between the reader's places
pub waiting-length : {buffer : List ℕ} {r : Reader} → ReaderFits buffer r → length (waiting buffer r) ≡ waits r
waiting-length {buffer} {r} fits =
    length-take-le (waits r) (drop r.at buffer)
    (omega (arith, length-drop r.at buffer, fits.ordered, fits.within))

-- the reader's place in the buffer in which room was made
pub room_within : {buffer : List ℕ} {r ready : Reader} {size : ℕ} → ReaderFits buffer r → ready ≡ room_made r →
    size ≡ length buffer → ready.filled ≤ size
room_within fits made same = omega (arith, ap (λ (z : Reader). z.filled) made, fits.ordered, fits.within)

-- A call into the room that was made: `last` is what stands there then.
module _ {buffer mid : List ℕ} {r ready : Reader} (last : List ℕ) (fits : ReaderFits buffer r)
    (made : ready ≡ room_made r) (as_moved : mid ≡ moved r buffer) (same : length mid ≡ length buffer) where
  abbrev read_into : List ℕ
  read_into = put_mid ready.filled (length mid - ready.filled) mid last

  -- the bytes that wait stand before the room
  waits_before : take ready.filled read_into ≡ waiting buffer r
  waits_before =
      take_put ready.filled (length mid - ready.filled) mid last (room_within fits made same)
      ∙ ap (take ready.filled) as_moved
      ∙ take_at (waiting buffer r) (drop (waits r) buffer) ready.filled
      (waiting-length fits ∙ sym (ap (λ (z : Reader). z.filled) made))

  -- what the call answers is taken
  pub reads_room : {answered : Result ℕ ℤ} {r' : Reader} → length read_into ≡ length mid →
      Takes ready (length read_into - ready.filled) answered r' → ReadsOnce buffer r r' read_into
  reads_room {answered} {r'} kept takes =
      record {
        call = record { room = drop ready.filled read_into; answered = answered };
        read =
            record {
              same_length = kept ∙ same;
              behind =
                  sym (take-append-drop ready.filled read_into)
                  ∙ ap (λ (l : List ℕ). l ++ drop ready.filled read_into) waits_before;
              takes = rw (length-drop, ← made) takes;
            };
      }

-- no more bytes than there are
take_min : (n : ℕ) (l : List ℕ) → take (min n (length l)) l ≡ take n l
take_min n l = go (dec_le n (length l))
  where
    go : Dec (n ≤ length l) → take (min n (length l)) l ≡ take n l
    go (yes few) = ap (λ (k : ℕ). take k l) (let e : min n (length l) ≡ n = omega arith in e)
    go (no many) =
        ap (λ (k : ℕ). take k l) (let e : min n (length l) ≡ length l = omega arith in e)
        ∙ take_all (length l) l (omega arith)
        ∙ sym (take_all n l (omega arith))

-- What waits after a call: what waited before, and behind that what the call brought.
module _ {buffer : List ℕ} {r : Reader} (room : List ℕ) (fits : ReaderFits buffer r) where
  -- some bytes of the room
  waits_more : (k : ℕ) → k ≤ length room →
      take (waits (more k (room_made r))) (waiting buffer r ++ room) ≡ waiting buffer r ++ take k room
  waits_more k h =
      ap (λ (m : ℕ). take m (waiting buffer r ++ room))
      (let e : waits r + k - 0 ≡ length (waiting buffer r) + k = omega (arith, waiting-length fits) in e)
      ∙ take-append-add (waiting buffer r) room k

  -- none of them
  waits_on : take (waits r - 0) (waiting buffer r ++ room) ≡ waiting buffer r ++ []
  waits_on =
      take_at (waiting buffer r) room (waits r - 0) (omega (arith, waiting-length fits))
      ∙ sym (append-nil (waiting buffer r))

  misses_on : {error : ℤ} {r' : Reader} → Misses (room_made r) error r' →
      waiting (waiting buffer r ++ room) r' ≡ waiting buffer r ++ []
  misses_on (Misses.tried_again e some) = waits_on
  misses_on (Misses.given_up e none) = waits_on
  misses_on (Misses.failed other) = waits_on

  takes_on : {answered : Result ℕ ℤ} {r' : Reader} → Takes (room_made r) (length room) answered r' →
      waiting (waiting buffer r ++ room) r' ≡ waiting buffer r ++ brought answered room
  takes_on (Takes.the_end e) = waits_on ∙ ap (λ z. waiting buffer r ++ brought z room) (sym e)
  takes_on (Takes.bytes {n} e) =
      waits_more (min (suc n) (length room)) (omega arith)
      ∙ ap (λ (l : List ℕ). waiting buffer r ++ l) (take_min (suc n) room)
      ∙ ap (λ z. waiting buffer r ++ brought z room) (sym e)
  takes_on (Takes.missed e m) = misses_on m ∙ ap (λ z. waiting buffer r ++ brought z room) (sym e)

-- the same of the buffer as it is then
pub read_waiting : {buffer after : List ℕ} {r r' : Reader} {c : Call} → ReaderFits buffer r →
    Reads buffer r c r' after → waiting after r' ≡ waiting buffer r ++ brought c.answered c.room
read_waiting {r' = r'} {c = c} fits a =
    ap (λ (l : List ℕ). waiting l r') a.behind ∙ takes_on c.room fits a.takes

-- whether more may come
abbrev open_still : Input → ℕ
open_still input.More = 1
open_still input.Ended = 0
open_still (input.Failed error) = 0

-- what a reader may still ask for before something can be handed on
abbrev pub to_ask : Reader → ℕ
to_ask r = r.retries + (512 - waits r) + open_still r.input

-- What a call leaves: the reader's places in the buffer, the blocks that may be read, and less to ask for.
pub record Left (r r' : Reader) (after : List ℕ) : Type 0 where
  pub fits : ReaderFits after r'
  pub same_left : r'.left ≡ r.left
  pub falls : waits r < 512 → r.input ≡ input.More → to_ask r' < to_ask r

module _ {after : List ℕ} {r : Reader} (size : ℕ) (large : 512 ≤ length after)
    (lent : waits r + size ≡ length after) where
  left_by : {r' : Reader} → r'.at ≡ 0 → r'.filled ≤ length after → r'.left ≡ r.left →
      (waits r < 512 → r.input ≡ input.More → to_ask r' < to_ask r) → Left r r' after
  left_by first within same falls =
      record {
        fits = record { ordered = omega arith; within = within; room = large };
        same_left = same;
        falls = falls;
      }

  left_missed : {error : ℤ} {r' : Reader} → Misses (room_made r) error r' → Left r r' after
  left_missed (Misses.tried_again e some) = left_by refl (omega arith) refl (λ few still. omega arith)
  left_missed (Misses.given_up e none) =
      left_by refl (omega arith) refl (λ few still. omega (arith, ap open_still still))
  left_missed (Misses.failed other) =
      left_by refl (omega arith) refl (λ few still. omega (arith, ap open_still still))

  left_takes : {answered : Result ℕ ℤ} {r' : Reader} → Takes (room_made r) size answered r' → Left r r' after
  left_takes (Takes.the_end e) =
      left_by refl (omega arith) refl (λ few still. omega (arith, ap open_still still))
  left_takes (Takes.bytes {n} e) = left_by refl (omega arith) refl (λ few still. omega arith)
  left_takes (Takes.missed e m) = left_missed m

-- a call leaves this
pub read_left : {buffer after : List ℕ} {r r' : Reader} {c : Call} → ReaderFits buffer r → Reads buffer r c r' after →
    Left r r' after
read_left {buffer} {r = r} {c = c} fits a =
    left_takes (length c.room) (omega (arith, a.same_length, fits.room))
    (omega (arith, ap length a.behind, length-append (waiting buffer r) c.room, waiting-length fits))
    a.takes

-- some calls, and where they led
pub record Reached (buffer : List ℕ) (r r' : Reader) (after : List ℕ) : Type 0 where
  pub calls : List Call
  pub reads : Calls buffer r calls r' after
  pub fits : ReaderFits after r'
  pub same_length : length after ≡ length buffer

-- none
pub reached_none : {buffer : List ℕ} {r : Reader} → ReaderFits buffer r → Reached buffer r r buffer
reached_none fits = record { calls = []; reads = Calls.none; fits = fits; same_length = refl }

-- one more, where a read is wanted
pub reached-more : {buffer mid after : List ℕ} {r r₁ r₂ : Reader} → Reached buffer r r₁ mid →
    Comes r₁ next.Wanted r₁ → ReadsOnce mid r₁ r₂ after → Reached buffer r r₂ after
reached-more far comes a =
    record {
      calls = a.call ∷ far.calls;
      reads = Calls.one_more far.reads comes a.read;
      fits = (read_left far.fits a.read).fits;
      same_length = a.read.same_length ∙ far.same_length;
    }

-- a read that is wanted leaves less to ask for
pub wanted_falls : {buffer after : List ℕ} {r r' : Reader} → ReaderFits buffer r → Comes r next.Wanted r →
    ReadsOnce buffer r r' after → to_ask r' < to_ask r
wanted_falls {r = r} fits comes a =
    let wants = comes_more comes in
    (read_left fits a.read).falls (omega (arith, wants.0, wanted_most r.left)) wants.1
