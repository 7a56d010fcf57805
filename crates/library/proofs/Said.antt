-- What the calls of read say of the input: more may come, it has ended, or one failed.
use Rattle.std.proofs.Common.{ℕ, ◌+◌, ◌-◌, ◌<◌, arith, ◌≡◌, ap, sym, subst, ◌∙◌, List, ◌∷◌, length, ℤ, Err}
use Rattle.library.specs.Reading.{patience, room_made, Misses, Takes}
use Rattle.library.specs.Library.{Call, Going, EndedBy, FailedBy}
use Rattle.library.specs.declared.Reader.{Reader}
use Rattle.library.specs.declared.Input.{Input}
use Rattle.library.specs.declared.Input.TheVariants as input

-- What the calls so far say of the input, and how often one may still be tried again.
pub data Told : Input → ℕ → List Call → Type 0 where
  more : {calls : List Call} {retries n : ℕ} → Going calls n → retries + n ≡ patience
      → Told input.More retries calls
  ended : {calls : List Call} {retries : ℕ} → EndedBy calls → Told input.Ended retries calls
  failed : {calls : List Call} {retries : ℕ} {error : ℤ} → FailedBy error calls
      → Told (input.Failed error) retries calls

-- a call where more may come
module _ {calls : List Call} {n : ℕ} (r : Reader) (c : Call) (going : Going calls n)
    (budget : r.retries + n ≡ patience) (still : r.input ≡ input.More) where
  told_missed : {r' : Reader} {error : ℤ} → c.answered ≡ Err error → Misses (room_made r) error r' →
      Told r'.input r'.retries (c ∷ calls)
  told_missed answer (Misses.tried_again e some) =
      subst (λ said. Told said (r.retries - 1) (c ∷ calls)) (sym still)
      (Told.more (Going.again (answer ∙ ap Err e) going) (omega arith))
  told_missed answer (Misses.given_up e none) =
      let all : n ≡ patience = omega arith in
      Told.failed (FailedBy.failed answer (λ same. all) going)
  told_missed answer (Misses.failed other) =
      Told.failed (FailedBy.failed answer (λ same. absurd (other same)) going)

  pub told_takes : {r' : Reader} → 0 < length c.room →
      Takes (room_made r) (length c.room) c.answered r' →
      Told r'.input r'.retries (c ∷ calls)
  told_takes lent (Takes.the_end e) = Told.ended (EndedBy.ended e lent going)
  told_takes lent (Takes.bytes e) =
      subst (λ said. Told said r.retries (c ∷ calls)) (sym still) (Told.more (Going.bytes e going) budget)
  told_takes lent (Takes.missed e m) = told_missed e m

-- where more may come, the calls go on
pub record GoesOn (retries : ℕ) (calls : List Call) : Type 0 where
  pub times : ℕ
  pub going : Going calls times
  pub budget : retries + times ≡ patience

pub goes_on : {said : Input} {retries : ℕ} {calls : List Call} → Told said retries calls → said ≡ input.More →
    GoesOn retries calls
goes_on (Told.more g budget) e = record { times = _; going = g; budget = budget }
goes_on (Told.ended by) e = cc e
goes_on (Told.failed by) e = cc e

-- where the input has ended, a call said so ..
pub ended_by : {said : Input} {retries : ℕ} {calls : List Call} → Told said retries calls → said ≡ input.Ended →
    EndedBy calls
ended_by (Told.more g budget) e = cc e
ended_by (Told.ended by) e = by
ended_by (Told.failed by) e = cc e

-- .. and where a call failed, it was the newest
pub failed_by : {said : Input} {retries : ℕ} {calls : List Call} {error : ℤ} → Told said retries calls →
    said ≡ input.Failed error → FailedBy error calls
failed_by (Told.more g budget) e = cc e
failed_by (Told.ended by) e = cc e
failed_by {calls = calls} (Told.failed by) e = subst (λ z. FailedBy z calls) (cc e) by
