-- Laws of bytes put one after the other into a buffer.
use Rattle.std.proofs.Common.{ℕ, suc, ◌+◌, ◌-◌, ◌≤◌, arith, ◌≡◌, refl, ap, sym, ◌∙◌, subst, List, [], ◌∷◌, ◌++◌, length, length-append, set, take, drop}
use borrow.Rule.Slice.PartMut.{put_mid}
use Rattle.std.proofs.lemmas.Slice.{put_mid-paste}
use lib.Seq.{sets, sets-eq, length-sets, take-length}
use Rattle.buffer.specs.Put.{Put}
use Rattle.buffer.specs.Filled.{HasRoomFor, Puts}
use Rattle.buffer.specs.declared.filled.Filled.{Filled}

-- what is put behind what was put is put as one
sets_append : (l : List ℕ) (i : ℕ) (vs ws : List ℕ) → sets (sets l i vs) (i + length vs) ws ≡ sets l i (vs ++ ws)
sets_append l i [] ws = ap (λ (k : ℕ). sets l k ws) (omega arith)
sets_append l i (v ∷ vs) ws =
    let e : i + suc (length vs) ≡ suc i + length vs = omega arith in
    ap (λ (k : ℕ). sets (sets (set l i v) (suc i) vs) k ws) e ∙ sets_append (set l i v) (suc i) vs ws

-- bytes that are written over a part of a buffer are put there
pub put_part : (out : List ℕ) (at : ℕ) {bytes part : List ℕ} {end : ℕ} → end ≡ at + length bytes → end ≤ length out
    → part ≡ bytes → Put out at bytes end (put_mid at (end - at) out part)
put_part out at {bytes} {part} {end} ends room same =
    record {
      place = ends;
      stored =
          put_mid-paste at (end - at) out part bytes (length bytes) same (omega arith) refl
          ∙ ap (λ (front : List ℕ). take at out ++ front ++ drop (at + length bytes) out) (take-length bytes)
          ∙ sym (sets-eq bytes out at (omega arith));
    }

-- nothing
pub put_nothing : (out : List ℕ) (at : ℕ) → Put out at [] at out
put_nothing out at = record { place = omega arith; stored = refl }

-- one byte
pub put_byte : (out : List ℕ) (at b : ℕ) → Put out at (b ∷ []) (at + 1) (set out at b)
put_byte out at b = record { place = refl; stored = refl }

-- one text and then another are the two in a row
pub put_then : {out mid after : List ℕ} {at m n : ℕ} {s t : List ℕ} → Put out at s m mid → Put mid m t n after
    → Put out at (s ++ t) n after
put_then {out} {mid} {after} {at} {m} {n} {s} {t} first second =
    record {
      place = omega (arith, first.place, second.place, length-append s t);
      stored =
          second.stored
          ∙ ap (λ (l : List ℕ). sets l m t) first.stored
          ∙ ap (λ (k : ℕ). sets (sets out at s) k t) first.place
          ∙ sets_append out at s t;
    }

-- the buffer keeps its length
pub put-length : {out after : List ℕ} {at n : ℕ} {s : List ℕ} → Put out at s n after → length after ≡ length out
put-length {out} {after} {at} {n} {s} p = ap length p.stored ∙ length-sets out at s

-- the same text, said in another way
pub put_as : {out after : List ℕ} {at n : ℕ} {s t : List ℕ} → s ≡ t → Put out at s n after → Put out at t n after
put_as {out} {after} {at} {n} e p = subst (λ (l : List ℕ). Put out at l n after) e p

-- the same place, said in another way
pub put_at : {out after : List ℕ} {at m n : ℕ} {s : List ℕ} → m ≡ n → Put out at s m after → Put out at s n after
put_at {out} {after} {at} {m} {n} {s} e p = subst (λ (k : ℕ). Put out at s k after) e p

-- what is put from the front of a buffer that has room for it stands there, and what comes after it stays
pub put_received : {out after bytes : List ℕ} {next : ℕ} → Put out 0 bytes next after → next ≤ length out
    → after ≡ bytes ++ drop (length bytes) out
put_received {out} {after} {bytes} put room =
    put.stored ∙ sets-eq bytes out 0 (omega (arith, put.place))
    ∙ ap (λ n. bytes ++ drop n out) (let e : 0 + length bytes ≡ length bytes = omega arith in e)

-- what is put in the middle of a buffer stands between what stays before it and after it
pub put_pasted : {out after bytes : List ℕ} {at next : ℕ} → Put out at bytes next after
    → at + length bytes ≤ length out
    → after ≡ take at out ++ bytes ++ drop (at + length bytes) out
put_pasted {out} {after} {bytes} {at} put room = put.stored ∙ sets-eq bytes out at room

-- nothing is put behind what was put ..
pub puts_nothing : (filled : Filled) → Puts filled [] filled
puts_nothing filled = record { put = put_nothing filled.buffer.now filled.end; same = refl }

-- .. one text and then another are the two in a row ..
pub puts_then : {before between after : Filled} {s t : List ℕ} → Puts before s between → Puts between t after
    → Puts before (s ++ t) after
puts_then first second = record { put = put_then first.put second.put; same = second.same ∙ first.same }

-- .. and the same text may be said in another way
pub puts_as : {before after : Filled} {s t : List ℕ} → s ≡ t → Puts before s after → Puts before t after
puts_as e puts = record { put = put_as e puts.put; same = puts.same }

-- what has room behind a text has room when it is put
pub room_behind : {before after : Filled} {s : List ℕ} → Puts before s after → (count : ℕ)
    → HasRoomFor before (length s + count) → HasRoomFor after count
room_behind puts count room = omega (arith, puts.put.place, put-length puts.put)
