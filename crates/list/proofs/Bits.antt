-- What a shift and a mask tell of a key; the bits that two masks have
-- in common, and the lowest one of a mask.
use Prim.Native.Nat.{ℕ, ◌/◌, ◌%◌, ◌^◌, ◌-◌, ◌*◌, ◌<◌, ◌≤◌}
use native.Mathlib.Omega.{arith}
use native.Mathlib.Nat.{div-lt_iff_lt-mul}
use native.Mathlib.Decide.{dec_lt}
use mathlib.Core.Path.{◌≡◌, refl, sym, ◌∙◌, ap}
use mathlib.Core.Bool.{Bool, true, false, ◌&&◌, not, false≢true, and_comm}
use borrow.Author.Tests.{eq-eqb, ne_eqb}
use lib.Bits.{bit_and, and_mask, mask_lt, and_le_r}
use Rattle.std.specs.Int.{trailing_zeros, w64}
use Rattle.std.proofs.lemmas.Nat.Bits.{bit_at-trailing_zeros}
use lib.Dec.{eqb}
use lib.Pow.{pow_pos}
use Rattle.ac.specs.Keys.{bit}
use Rattle.table.proofs.Bits.{bit_of_low, no_bit_from, bit-bit_and, no_bit_zero}
use Rattle.list.specs.Reach.{takes_any, NoRowBelow}
use Rattle.list.proofs.Any.{any_some, any_none}

-- what a shift by n leaves of the low bits tells whether they are below 2 ^ n
pub nothing_beyond : (key width n : ℕ) → bit_and key (2 ^ width - 1) / 2 ^ n ≤ 0 → key % 2 ^ width < 2 ^ n
nothing_beyond key width n h =
    let low : bit_and key (2 ^ width - 1) / 2 ^ n < 1 = omega arith in
    omega (arith, and_mask key width, (div-lt_iff_lt-mul (pow_pos n)).0 low)

pub something_beyond : (key width n : ℕ) → 0 < bit_and key (2 ^ width - 1) / 2 ^ n → 2 ^ n ≤ key % 2 ^ width
something_beyond key width n h = go (dec_lt (key % 2 ^ width) (2 ^ n))
  where
    go : Dec (key % 2 ^ width < 2 ^ n) → 2 ^ n ≤ key % 2 ^ width
    go (yes low) =
        let small : bit_and key (2 ^ width - 1) < 1 * 2 ^ n = omega (arith, and_mask key width) in
        absurd (omega (arith, (div-lt_iff_lt-mul (pow_pos n)).1 small))
    go (no high) = omega arith

-- that a mask and the low 16 bits have a bit in common tells whether the key takes one of its rows
pub takes_common : (rows key : ℕ) → not (eqb (bit_and rows (bit_and key 65535)) 0) ≡ takes_any rows key
unfolding takes_any
takes_common rows key = go (takes_any rows key) refl
  where
    common : ℕ
    common = bit_and rows (bit_and key 65535)

    bits : {i : ℕ} → i < 16 → bit common i ≡ (bit key i && bit rows i)
    bits {i} h =
        bit-bit_and rows (bit_and key 65535) i
        ∙ ap (λ b. bit rows i && b) (ap (λ (k : ℕ). bit k i) (and_mask key 16) ∙ sym (bit_of_low key h))
        ∙ and_comm (bit rows i) (bit key i)

    small : common < 2 ^ 16
    small = omega (arith, and_le_r rows (bit_and key 65535), mask_lt key 16)

    go : (b : Bool) → takes_any rows key ≡ b → not (eqb common 0) ≡ b
    go true e =
        let some = any_some 16 (λ i. bit key i && bit rows i) e in
        ap not (ne_eqb common 0 (λ nothing. false≢true (sym (none nothing some.0) ∙ bits some.1 ∙ some.2)))
      where
        none : common ≡ 0 → (i : ℕ) → bit common i ≡ false
        none nothing i = no_bit_from {n = common} {w = 0} {i = i} (omega arith) (omega arith)
    go false e =
        ap not (eq-eqb common 0 (no_bit_zero 16 common small
        (λ i h. bits h ∙ any_none {n = 16} (λ j. bit key j && bit rows j) e h)))

-- below the zeros at its end a mask has no row
pub no_row_below : (rows : ℕ) → rows < 2 ^ 64 → NoRowBelow rows (trailing_zeros w64 rows)
no_row_below rows fits i h = go (dec_lt 0 rows)
  where
    go : Dec (0 < rows) → bit rows i ≡ false
    go (yes some) = ap (λ n. eqb n 1) ((bit_at-trailing_zeros w64 rows some fits).2 i h)
    go (no none) = no_bit_from {n = rows} {w = 0} {i = i} (omega arith) (omega arith)
