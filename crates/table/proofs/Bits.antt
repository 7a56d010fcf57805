-- Bits of a number, of its parts, and of two numbers together; a mask made bit by bit.
use Prim.Native.Nat.{ℕ, zero, suc, ◌+◌, ◌-◌, ◌*◌, ◌/◌, ◌%◌, ◌^◌, ◌<◌, ◌≤◌}
use native.Mathlib.Omega.{arith}
use native.Mathlib.Nat.{div-lt_iff_lt-mul, mod-eq_of_lt}
use native.Mathlib.Decide.{dec_lt}
use mathlib.Core.Path.{◌≡◌, refl, sym, ◌∙◌, ap, subst}
use mathlib.Core.Bool.{Bool, true, false, ◌&&◌, ◌||◌}
use borrow.Author.Tests.{lt-ltb, le-ltb, eqb-false}
use lib.Bits.{bit_and, bit_or, and_shr, and_mod, or_shr, or_mod, or_shifted_r}
use lib.Dec.{ltb, eqb}
use lib.Pow.{pow_pos, pow_mono, pow-add, field, low, high, shl_exact, shl-shr, shr-shr, mod-mod-pow}
use Rattle.ac.specs.Keys.{bit}
use Rattle.table.specs.Masks.{MarkedTo}

-- what is not true is false
pub not_so : (b : Bool) → (b ≡ true → ⊥) → b ≡ false
not_so true never = absurd (never refl)
not_so false never = refl

-- a bit is told by the low part in which it stands, and a high part by one that begins lower
pub bit_of_low : (n : ℕ) {w i : ℕ} → i < w → bit n i ≡ bit (n % 2 ^ w) i
bit_of_low n {w} {i} h = ap (λ k. eqb k 1) (sym (field n 1 i) ∙ ap (λ k. k / 2 ^ i) lower ∙ field (n % 2 ^ w) 1 i)
  where
    parts : (w - (1 + i)) + (1 + i) ≡ w
    parts = omega arith

    lower : n % 2 ^ (1 + i) ≡ n % 2 ^ w % 2 ^ (1 + i)
    lower = subst (λ (k : ℕ). n % 2 ^ (1 + i) ≡ n % 2 ^ k % 2 ^ (1 + i)) parts
        (sym (mod-mod-pow n (w - (1 + i)) (1 + i)))

pub high_part : (m n : ℕ) {w i : ℕ} → w ≤ i → m / 2 ^ w ≡ n / 2 ^ w → m / 2 ^ i ≡ n / 2 ^ i
high_part m n {w} {i} h same =
    subst (λ (k : ℕ). m / 2 ^ k ≡ n / 2 ^ k) (let e : w + (i - w) ≡ i = omega arith in e)
    (sym (shr-shr m w (i - w)) ∙ ap (λ (k : ℕ). k / 2 ^ (i - w)) same ∙ shr-shr n w (i - w))

-- a number below 2 ^ w has no bit from w on
pub no_bit_from : {n w i : ℕ} → n < 2 ^ w → w ≤ i → bit n i ≡ false
no_bit_from {n} {w} {i} small h =
    let less : n < 1 * 2 ^ i = omega (arith, pow_mono h) in
    let none : n / 2 ^ i ≡ 0 = omega (arith, (div-lt_iff_lt-mul (pow_pos i)).1 less) in
    ap (λ k. eqb (k % 2) 1) none

-- two masks have a bit in common where both have it
digit_and : (r s : ℕ) → r < 2 → s < 2 → eqb (bit_and r s) 1 ≡ (eqb r 1 && eqb s 1)
digit_and zero s hr hs = refl
digit_and (suc zero) zero hr hs = refl
digit_and (suc zero) (suc zero) hr hs = refl
digit_and (suc zero) (suc (suc s)) hr hs = absurd (omega arith)
digit_and (suc (suc r)) s hr hs = absurd (omega arith)

pub bit-bit_and : (a b i : ℕ) → bit (bit_and a b) i ≡ (bit a i && bit b i)
bit-bit_and a b i =
    ap (λ k. eqb k 1) (ap (λ k. k % 2) (and_shr a b i) ∙ and_mod (a / 2 ^ i) (b / 2 ^ i) 1)
    ∙ digit_and (a / 2 ^ i % 2) (b / 2 ^ i % 2) (omega arith) (omega arith)

-- and one of two has a bit where their union has it
digit_or : (r s : ℕ) → r < 2 → s < 2 → eqb (bit_or r s) 1 ≡ (eqb r 1 || eqb s 1)
digit_or zero s hr hs = refl
digit_or (suc zero) zero hr hs = refl
digit_or (suc zero) (suc zero) hr hs = refl
digit_or (suc zero) (suc (suc s)) hr hs = absurd (omega arith)
digit_or (suc (suc r)) s hr hs = absurd (omega arith)

pub bit-bit_or : (a b i : ℕ) → bit (bit_or a b) i ≡ (bit a i || bit b i)
bit-bit_or a b i =
    ap (λ k. eqb k 1) (ap (λ k. k % 2) (or_shr a b i) ∙ or_mod (a / 2 ^ i) (b / 2 ^ i) 1)
    ∙ digit_or (a / 2 ^ i % 2) (b / 2 ^ i % 2) (omega arith) (omega arith)

-- the bit of a power of two
pub power_bit : (i : ℕ) → i < 64 → bit (1 * 2 ^ i % 2 ^ 64) i ≡ true
power_bit i few = ap (λ k. eqb (k % 2) 1)
    (ap (λ (k : ℕ). k / 2 ^ i) (shl_exact {a = 1} 1 i 64 (omega arith) (omega arith)) ∙ shl-shr 1 i)

-- a number none of whose bits is set is 0
pub no_bit_zero : (n x : ℕ) → x < 2 ^ n → ((i : ℕ) → i < n → bit x i ≡ false) → x ≡ 0
no_bit_zero zero x small none = omega arith
no_bit_zero (suc n) x small none = no_bit_zero n x below (λ i h. none i (omega arith))
  where
    below : x < 2 ^ n
    below =
        let less : x < 2 * 2 ^ n = omega (arith, small, pow-add 2 1 n) in
        let few : x / 2 ^ n < 2 = (div-lt_iff_lt-mul (pow_pos n)).1 less in
        let even : x / 2 ^ n % 2 ≡ 1 → ⊥ = eqb-false (x / 2 ^ n % 2) 1 (none n (omega arith)) in
        go (dec_lt 0 (x / 2 ^ n)) few even
      where
        go : Dec (0 < x / 2 ^ n) → x / 2 ^ n < 2 → (x / 2 ^ n % 2 ≡ 1 → ⊥) → x < 2 ^ n
        go (yes some) few even = absurd (even (omega arith))
        go (no none) few even =
            let z : x / 2 ^ n < 1 = omega arith in
            omega (arith, (div-lt_iff_lt-mul (pow_pos n)).0 z)

module _ {test : ℕ → Bool} {i mask : ℕ} (marked : MarkedTo test i mask) where
  -- below i nothing changes, and beyond it there is nothing
  pub marked_below : {j : ℕ} → j < i → bit mask j ≡ test j
  marked_below {j} h = marked.marks j ∙ ap (λ b. b && test j) (lt-ltb j i h)

  one_more : {next : ℕ} → next < 2 ^ (i + 1) → next % 2 ^ i ≡ mask → bit next i ≡ test i
      → MarkedTo test (i + 1) next
  one_more {next} small same here = record { small = small; marks = λ j. go j (dec_lt j i) (dec_lt i j) }
    where
      within : {j : ℕ} → j < i + 1 → test j ≡ (ltb j (i + 1) && test j)
      within {j} h = sym (ap (λ b. b && test j) (lt-ltb j (i + 1) h))

      go : (j : ℕ) → Dec (j < i) → Dec (i < j) → bit next j ≡ (ltb j (i + 1) && test j)
      go j (yes below) above =
          bit_of_low next below ∙ ap (λ (k : ℕ). bit k j) same ∙ marked_below below ∙ within (omega arith)
      go j (no below) (yes above) =
          no_bit_from {n = next} {w = i + 1} small (omega arith)
          ∙ sym (ap (λ b. b && test j) (le-ltb j (i + 1) (omega arith)))
      go j (no below) (no above) =
          let e : i ≡ j = omega arith in
          subst (λ (k : ℕ). bit next k ≡ (ltb k (i + 1) && test k)) e (here ∙ within (omega arith))

  power : 2 ^ (i + 1) ≡ 2 ^ i * 2
  power = pow-add 2 i 1

  -- one that does not pass is left out
  pub marked_out : test i ≡ false → MarkedTo test (i + 1) mask
  marked_out e =
      one_more (omega (arith, power, marked.small)) (mod-eq_of_lt marked.small)
      (no_bit_from {n = mask} {w = i} marked.small (omega arith) ∙ sym e)

  -- for one that passes the bit is set
  pub marked_in : i < 64 → test i ≡ true → MarkedTo test (i + 1) (bit_or mask (1 * 2 ^ i % 2 ^ 64))
  marked_in few e = subst (MarkedTo test (i + 1)) (sym joined)
      (one_more (omega (arith, power, marked.small)) (low 1 i marked.small) (set ∙ sym e))
    where
      joined : bit_or mask (1 * 2 ^ i % 2 ^ 64) ≡ 1 * 2 ^ i + mask
      joined = ap (bit_or mask) (shl_exact {a = 1} 1 i 64 (omega arith) (omega arith))
          ∙ or_shifted_r 1 i mask marked.small

      set : bit (1 * 2 ^ i + mask) i ≡ true
      set = ap (λ k. eqb (k % 2) 1) (high 1 i marked.small)
