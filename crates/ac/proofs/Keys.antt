-- Keys packed and taken apart: the bits of a mask, the fields of the indexes, and the key of a selection.
use Prim.Native.Nat.{ℕ, zero, suc, ◌+◌, ◌-◌, ◌*◌, ◌/◌, ◌%◌, ◌^◌, ◌<◌, ◌≤◌}
use native.Mathlib.Omega.{arith}
use native.Mathlib.Nat.{add_comm, div-div-eq-div-mul, mul_comm, mul-suc, mul_assoc, pow-suc, add-mul-div_right, mul-add-mod_self_right, mod-eq_of_lt}
use native.Mathlib.Nat.{mod-lt, sub-zero, suc-sub-suc, lt_of_lt_of_le}
use mathlib.Core.Path.{◌≡◌, refl, sym, ap, ap₂, subst, ◌∙◌}
use mathlib.Core.Bool.{Bool, true, false, cond}
use mathlib.Core.List.{List, [], ◌∷◌, map, Memᴰ}
use borrow.Author.Tests.{eqb-true, eqb-false, eq-eqb}
use lib.Arith.{digits_lt, mod-mul}
use lib.Dec.{eqb}
use lib.ListN.{length, length-map}
use lib.Pow.{split, pow_pos, pow_mono, pow-add, high, low, shr_lt, mod-pow-add, mod-mod-pow}
use Rattle.ac.specs.Lists.{from, below}
use Rattle.ac.specs.Rows.{Group, Groups}
use Rattle.ac.specs.Selection.{Selection, SelectionOf, Within, none, index}
use Rattle.ac.specs.Keys.{Layout, fields, mask, key_of, bit, bits, fields_of, selection_at, Candidate, Fits}

-- ---- the mask

-- bit i + 1 of a number is bit i of its half
pub bit_of_half : (m i : ℕ) → bit m (suc i) ≡ bit (m / 2) i
bit_of_half m i =
    ap (λ (n : ℕ). eqb (n % 2) 1) (ap (λ (p : ℕ). m / p) (pow-suc 2 i ∙ mul_comm (2 ^ i) 2)
    ∙ sym (div-div-eq-div-mul m 2 (2 ^ i)))

-- so for all bits from a place on
bits_of_half : (m a n : ℕ) → map (bit m) (from (suc a) n) ≡ map (bit (m / 2)) (from a n)
bits_of_half m a zero = refl
bits_of_half m a (suc n) = ap₂ {C = List Bool} (λ t ts. t ∷ ts) (bit_of_half m a) (bits_of_half m (suc a) n)

-- the lowest bit says whether the number is odd
pub lowest_bit : (m : ℕ) → cond (bit m 0) 1 0 ≡ m % 2
lowest_bit m = by_bit (bit m 0) refl
  where
    by_bit : (t : Bool) → bit m 0 ≡ t → cond t 1 0 ≡ m % 2
    by_bit true e = let h = eqb-true (m / 1 % 2) 1 e in omega arith
    by_bit false e = let h = eqb-false (m / 1 % 2) 1 e in omega arith

-- n numbers from a on are n
pub length_from : (a n : ℕ) → length (from a n) ≡ n
length_from a zero = refl
length_from a (suc n) = ap suc (length_from (suc a) n)

-- n bits are n
pub length-bits : (n m : ℕ) → length (bits n m) ≡ n
length-bits n m = length-map (below n) (bit m) ∙ length_from 0 n

-- the mask of a number's lowest n bits is the number modulo 2 ^ n
bits-mask : (n m : ℕ) → mask (bits n m) ≡ m % 2 ^ n
bits-mask zero m = omega arith
bits-mask (suc n) m =
    ap₂ (λ (t k : ℕ). t + 2 * k) (lowest_bit m) (ap mask (bits_of_half m 0 n) ∙ bits-mask n (m / 2))
    ∙ omega (arith, mod-mul m {m = 2 ^ n} {c = 2} (pow_pos n) (omega arith), ap (λ (p : ℕ). m % p) (pow-suc 2 n))

-- and the number itself, where it has no more bits
pub bits-mask-below : (n m : ℕ) → m < 2 ^ n → mask (bits n m) ≡ m
bits-mask-below n m h = bits-mask n m ∙ mod-eq_of_lt h

-- a number that is twice another, or one more, has one bit below the other's
pub bits_next : (t : Bool) (n m : ℕ) → bits (suc n) (cond t 1 0 + 2 * m) ≡ t ∷ bits n m
bits_next t n m =
    ap₂ {C = List Bool} (λ b bs. b ∷ bs) (lowest t)
    (bits_of_half (cond t 1 0 + 2 * m) 0 n ∙ ap (bits n) (halved t))
  where
    lowest : (b : Bool) → bit (cond b 1 0 + 2 * m) 0 ≡ b
    lowest true = eq-eqb ((1 + 2 * m) / 1 % 2) 1 (omega arith)
    lowest false = let none : (0 + 2 * m) / 1 % 2 ≡ 0 = omega arith in ap (λ (k : ℕ). eqb k 1) none

    halved : (b : Bool) → (cond b 1 0 + 2 * m) / 2 ≡ m
    halved true = omega arith
    halved false = omega arith

-- the bits of a mask are the truth values that it was made of
pub mask-bits : (n : ℕ) (ts : List Bool) → length ts ≡ n → bits n (mask ts) ≡ ts
mask-bits zero [] e = refl
mask-bits zero (t ∷ ts) e = absurd (omega arith)
mask-bits (suc n) [] e = absurd (omega arith)
mask-bits (suc n) (t ∷ ts) e =
    bits_next t n (mask ts) ∙ ap {B = List Bool} (λ bs. t ∷ bs) (mask-bits n ts (omega arith))

-- a mask of n truth values is below 2 ^ n
pub mask_below : (n : ℕ) (ts : List Bool) → length ts ≡ n → mask ts < 2 ^ n
mask_below n ts e =
    subst (λ (m : ℕ). m < 2 ^ n) (sym (bits-mask n (mask ts)) ∙ ap mask (mask-bits n ts e))
    (mod-lt (mask ts) (pow_pos n))

-- the lowest n bits are those of the number modulo 2 ^ n
bits_modulo : (n m : ℕ) → bits n m ≡ bits n (m % 2 ^ n)
bits_modulo n m = sym (mask-bits n (bits n m) (length-bits n m)) ∙ ap (bits n) (bits-mask n m)

-- a multiple of a power at or above 2 ^ n changes none of the lowest n bits
bits_above : (n : ℕ) {r : ℕ} (q m : ℕ) → n ≤ r → bits n (q * 2 ^ r + m) ≡ bits n m
bits_above n {r} q m le = bits_modulo n (q * 2 ^ r + m) ∙ ap (bits n) same ∙ sym (bits_modulo n m)
  where
    two_factors : q * 2 ^ r ≡ q * 2 ^ (r - n) * 2 ^ n
    two_factors =
        let e : r ≡ (r - n) + n = omega arith in
        ap (λ (p : ℕ). q * p) (ap (λ (x : ℕ). 2 ^ x) e ∙ pow-add 2 (r - n) n)
        ∙ sym (mul_assoc q (2 ^ (r - n)) (2 ^ n))

    same : (q * 2 ^ r + m) % 2 ^ n ≡ m % 2 ^ n
    same = ap (λ (x : ℕ). (x + m) % 2 ^ n) two_factors ∙ mul-add-mod_self_right (q * 2 ^ (r - n)) (2 ^ n) m

-- ---- the fields

-- what stands above a field does not change it
field_above : (w p q m : ℕ) → (q * 2 ^ (w + p) + m) / 2 ^ p % 2 ^ w ≡ m / 2 ^ p % 2 ^ w
field_above w p q m =
    ap (λ (x : ℕ). (x + m) / 2 ^ p % 2 ^ w)
    (ap (λ (x : ℕ). q * x) (pow-add 2 w p) ∙ sym (mul_assoc q (2 ^ w) (2 ^ p)))
    ∙ ap (λ (x : ℕ). x / 2 ^ p % 2 ^ w) (add_comm (q * 2 ^ w * 2 ^ p) m)
    ∙ ap (λ (x : ℕ). x % 2 ^ w) (add-mul-div_right m (q * 2 ^ w) (pow_pos p) ∙ add_comm (m / 2 ^ p) (q * 2 ^ w))
    ∙ mul-add-mod_self_right q (2 ^ w) (m / 2 ^ p)

module _ (lay : Layout) where
  -- one field more
  pub next_field : (k : ℕ) → 2 ^ (lay.index_bits * suc k) ≡ 2 ^ (lay.index_bits + lay.index_bits * k)
  next_field k =
      ap (λ (x : ℕ). 2 ^ x) (mul-suc lay.index_bits k ∙ add_comm (lay.index_bits * k) lay.index_bits)

  -- each group has at most as many rows as a field tells apart
  abbrev pub Few : List Group → Type 0
  Few gs = (g : Group) → Memᴰ g gs → length g.rows ≤ 2 ^ lay.index_bits

  few_others : {g : Group} {gs : List Group} → Few (g ∷ gs) → Few gs
  few_others few h m = few h (Memᴰ.tail m)

  -- what stands above the fields changes none of them
  fields_above : (k : ℕ) (gs : List Group) (q m : ℕ)
      → fields_of lay k gs (q * 2 ^ (lay.index_bits * k) + m) ≡ fields_of lay k gs m
  fields_above k [] q m = refl
  fields_above zero (g ∷ gs) q m = refl
  fields_above (suc k) (g ∷ gs) q m =
      ap₂ {C = List ℕ} (λ i is. i ∷ is)
      (ap (λ (x : ℕ). (q * x + m) / 2 ^ (w * k) % 2 ^ w) (next_field k) ∙ field_above w (w * k) q m)
      (ap (λ (x : ℕ). fields_of lay k gs (x + m)) two_factors ∙ fields_above k gs (q * 2 ^ w) m)
    where
      w : ℕ
      w = lay.index_bits

      two_factors : q * 2 ^ (w * suc k) ≡ q * 2 ^ w * 2 ^ (w * k)
      two_factors =
          ap (λ (x : ℕ). q * x) (next_field k ∙ pow-add 2 w (w * k)) ∙ sym (mul_assoc q (2 ^ w) (2 ^ (w * k)))

  -- the fields of k constants' indexes make a number below 2 ^ (bits of a field * k)
  pub fields_below : (k : ℕ) {gs : List Group} {is : List ℕ} → length gs ≤ k → Few gs → Within gs is
      → fields lay k is < 2 ^ (lay.index_bits * k)
  fields_below zero fit few none = pow_pos (lay.index_bits * 0)
  fields_below (suc k) fit few none = pow_pos (lay.index_bits * suc k)
  fields_below zero fit few (index h within) = absurd (omega arith)
  fields_below (suc k) fit few (index {g = g} {i = i} {is = is} h within) =
      subst (λ (x : ℕ). fields lay (suc k) (i ∷ is) < x)
      (sym (next_field k ∙ pow-add 2 lay.index_bits (lay.index_bits * k)))
      (digits_lt (lt_of_lt_of_le h (few g (Memᴰ.head refl)))
      (fields_below k (omega arith) (few_others few) within))

  -- the fields of a tuple of indexes, taken apart, are its indexes
  fields_apart : (k : ℕ) {gs : List Group} {is : List ℕ} → length gs ≤ k → Few gs → Within gs is
      → fields_of lay k gs (fields lay k is) ≡ is
  fields_apart k fit few none = refl
  fields_apart zero fit few (index h within) = absurd (omega arith)
  fields_apart (suc k) fit few (index {g = g} {gs = gs} {i = i} {is = is} h within) =
      ap₂ {C = List ℕ} (λ j js. j ∷ js)
      (ap (λ (x : ℕ). x % 2 ^ lay.index_bits)
      (high i (lay.index_bits * k) (fields_below k (omega arith) (few_others few) within))
      ∙ mod-eq_of_lt (lt_of_lt_of_le h (few g (Memᴰ.head refl))))
      (fields_above k gs i (fields lay k is) ∙ fields_apart k (omega arith) (few_others few) within)

  -- taken apart and packed again, a number lacks what stood in the unused fields and above the fields
  fields_packed : (k : ℕ) (gs : List Group) (m : ℕ) → length gs ≤ k
      → fields lay k (fields_of lay k gs m) + m % 2 ^ (lay.index_bits * (k - length gs))
      ≡ m % 2 ^ (lay.index_bits * k)
  fields_packed zero [] m fit = omega arith
  fields_packed (suc k) [] m fit = omega (arith, ap (λ (x : ℕ). m % 2 ^ (lay.index_bits * x)) (sub-zero (suc k)))
  fields_packed zero (g ∷ gs) m fit = absurd (omega arith)
  fields_packed (suc k) (g ∷ gs) m fit =
      omega (
        arith,
        fields_packed k gs m (omega arith),
        ap (λ (x : ℕ). m % 2 ^ (lay.index_bits * x)) (suc-sub-suc k (length gs)),
        ap (λ (x : ℕ). m % x) (next_field k),
        mod-pow-add m lay.index_bits (lay.index_bits * k),
      )

-- ---- the key

module _ {lay : Layout} {G : Groups} (fits : Fits lay G) where
  module _ {s : Selection} (of : SelectionOf G s) where
    mask_fits : mask s.takes < 2 ^ lay.rows
    mask_fits =
        lt_of_lt_of_le (mask_below (length G.balanced) s.takes of.a_truth_each)
        (pow_mono fits.few_balanced)

    indexes_fit : fields lay lay.constants s.indexes < 2 ^ (lay.index_bits * lay.constants)
    indexes_fit = fields_below lay lay.constants fits.few_constants fits.few_rows of.a_row_each

    -- a key is a number of as many bits as the layout has
    key_below : key_of lay s < 2 ^ (lay.index_bits * lay.constants + lay.rows)
    key_below = subst (λ (x : ℕ). key_of lay s < x)
        (sym (pow-add 2 (lay.index_bits * lay.constants) lay.rows)) (digits_lt indexes_fit mask_fits)

    -- above the mask stand the fields
    key_high : key_of lay s / 2 ^ lay.rows ≡ fields lay lay.constants s.indexes
    key_high = high (fields lay lay.constants s.indexes) lay.rows mask_fits

    -- and below them the mask
    pub key_low : key_of lay s % 2 ^ lay.rows ≡ mask s.takes
    key_low = low (fields lay lay.constants s.indexes) lay.rows mask_fits

    -- A key names its selection: taken apart, it is the selection again.
    pub taken_apart : selection_at lay G (key_of lay s) ≡ s
    taken_apart = λ i. record { indexes = same_indexes i; takes = same_takes i }
      where
        same_indexes : fields_of lay lay.constants G.constants (key_of lay s / 2 ^ lay.rows) ≡ s.indexes
        same_indexes =
            ap (fields_of lay lay.constants G.constants) key_high
            ∙ fields_apart lay lay.constants fits.few_constants fits.few_rows of.a_row_each

        same_takes : bits (length G.balanced) (key_of lay s) ≡ s.takes
        same_takes =
            bits_above (length G.balanced) (fields lay lay.constants s.indexes) (mask s.takes)
            fits.few_balanced
            ∙ mask-bits (length G.balanced) s.takes of.a_truth_each

    unused_fields : fields lay lay.constants s.indexes % 2 ^
        (lay.index_bits * (lay.constants - length G.constants)) ≡ 0
    unused_fields =
        omega (
          arith,
          fields_packed lay lay.constants G.constants (fields lay lay.constants s.indexes)
              fits.few_constants,
          ap (fields lay lay.constants) (fields_apart lay lay.constants fits.few_constants
              fits.few_rows of.a_row_each),
          mod-eq_of_lt indexes_fit,
        )

    -- the key of a selection is a candidate
    pub selection_candidate : Candidate lay G (key_of lay s)
    selection_candidate =
        record {
          indexes_within =
              subst (λ (t : Selection). Within G.constants t.indexes) (sym taken_apart) of.a_row_each;
          unused_zero = ap (λ (m : ℕ). m % 2 ^ (lay.index_bits * (lay.constants - length G.constants)))
              key_high ∙ unused_fields;
          no_bit_beyond =
              subst (λ (m : ℕ). m < 2 ^ length G.balanced) (sym key_low)
              (mask_below (length G.balanced) s.takes of.a_truth_each);
          no_bit_above = key_below;
        }

  -- two selections with one key are the same
  pub key_of_injective : {s t : Selection} → SelectionOf G s → SelectionOf G t → key_of lay s ≡ key_of lay t → s ≡ t
  key_of_injective of of' e = sym (taken_apart of) ∙ ap (selection_at lay G) e ∙ taken_apart of'

  module _ {key : ℕ} (candidate : Candidate lay G key) where
    -- a candidate taken apart is a selection of the groups
    pub candidate_selection : SelectionOf G (selection_at lay G key)
    candidate_selection =
        record { a_row_each = candidate.indexes_within; a_truth_each = length-bits (length G.balanced) key }

    -- and packed again it is the same key
    pub packed : key_of lay (selection_at lay G key) ≡ key
    packed = ap₂ (λ (f m : ℕ). f * 2 ^ lay.rows + m) same_fields same_mask ∙ split key lay.rows
      where
        same_fields : fields lay lay.constants (selection_at lay G key).indexes ≡ key / 2 ^ lay.rows
        same_fields =
            omega (
              arith,
              fields_packed lay lay.constants G.constants (key / 2 ^ lay.rows) fits.few_constants,
              candidate.unused_zero,
              mod-eq_of_lt (shr_lt (lay.index_bits * lay.constants) lay.rows candidate.no_bit_above),
            )

        same_mask : mask (bits (length G.balanced) key) ≡ key % 2 ^ lay.rows
        same_mask =
            let few = fits.few_balanced in
            let e : (lay.rows - length G.balanced) + length G.balanced ≡ lay.rows = omega arith in
            bits-mask (length G.balanced) key
            ∙ sym (mod-mod-pow key (lay.rows - length G.balanced) (length G.balanced))
            ∙ ap (λ (r : ℕ). key % 2 ^ r % 2 ^ length G.balanced) e ∙ mod-eq_of_lt candidate.no_bit_beyond
