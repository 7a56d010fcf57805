-- Laws of what a call's answer says.
use Rattle.std.proofs.Common.{ℕ, zero, suc, ◌≤◌, min, arith, ◌≡◌, refl, ap, sym, ◌∙◌, ◌⊎◌, inl, inr, ℤ, w32, to_z, of_z, SFits, to_z-of_z, Result, Ok}
use Rattle.library.specs.Reading.{more, told, interrupted, Misses, Takes}
use Rattle.library.specs.declared.Reader.{Reader}
use Rattle.library.specs.declared.Input.TheVariants as input

-- the bits say that a call was interrupted
pub interrupted-bits : {error : ℤ} → SFits w32 error → of_z w32 error ≡ 4 → error ≡ interrupted
interrupted-bits {error} fits e = sym (to_z-of_z fits) ∙ ap (to_z w32) e

-- an error is told where the call was not interrupted, or may not be tried again
pub misses-told : {r : Reader} {error : ℤ} → SFits w32 error →
    ((of_z w32 error ≡ 4) × (r.retries ≤ 0)) ⊎ (of_z w32 error ≡ 4 → ⊥) →
    Misses r error (told (input.Failed error) r)
misses-told fits (inl e) = Misses.given_up (interrupted-bits fits e.0) (let h = e.1 in omega arith)
misses-told {r} {error} fits (inr other) = Misses.failed (λ e. other (ap (of_z w32) e))

-- some bytes came
pub takes_bytes : {r : Reader} {room n : ℕ} {answered : Result ℕ ℤ} → answered ≡ Ok n → (n ≡ 0 → ⊥) →
    Takes r room answered (more (min n room) r)
takes_bytes {n = zero} e some = absurd (some refl)
takes_bytes {n = suc n} e some = Takes.bytes e
