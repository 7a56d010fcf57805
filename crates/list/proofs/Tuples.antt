-- The sets of balanced rows that go with a tuple of row indexes, in the order of their masks: those before this
-- one lack a row that must be taken or miss a place.
use Prim.Native.Nat.{ℕ, ◌+◌, ◌-◌, ◌*◌, ◌/◌, ◌^◌, ◌<◌, ◌≤◌}
use native.Mathlib.Omega.{arith}
use native.Mathlib.Nat.{div-lt_iff_lt-mul}
use native.Mathlib.Decide.{dec_lt}
use mathlib.Core.Path.{◌≡◌, ap}
use mathlib.Core.Bool.{false}
use mathlib.Core.List.{List}
use lib.Bits.{bit_and, and_mask}
use lib.Pow.{pow_pos, pow_mono}
use Rattle.ac.specs.Rows.{Groups}
use Rattle.table.specs.Masks.{Sized}
use Rattle.table.specs.declared.masks.Masks.{Masks}
use lib.ListN.{length, get_or}
use Rattle.list.specs.Reach.{InTuple, Weighs}
use Rattle.list.specs.Candidates.{admits, LeastWithin, OfMarkedGroups, found, nothing}
use Rattle.std.specs.Prelude.{Option, Some, None}

-- what a shift leaves of a mask tells whether it has a bit beyond the balanced rows
pub no_bit_left : (mask balanced : ℕ) → mask / 2 ^ balanced ≡ 0 → mask < 2 ^ balanced
no_bit_left mask balanced e =
    let low : mask / 2 ^ balanced < 1 = omega arith in
    omega (arith, (div-lt_iff_lt-mul (pow_pos balanced)).0 low)

pub a_bit_left : (mask balanced : ℕ) → (mask / 2 ^ balanced ≡ 0 → ⊥) → 2 ^ balanced ≤ mask
a_bit_left mask balanced some = go (dec_lt mask (2 ^ balanced))
  where
    go : Dec (mask < 2 ^ balanced) → 2 ^ balanced ≤ mask
    go (yes low) =
        let small : mask < 1 * 2 ^ balanced = omega arith in
        let none : mask / 2 ^ balanced ≡ 0 = omega (arith, (div-lt_iff_lt-mul (pow_pos balanced)).1 small) in
        absurd (some none)
    go (no high) = omega arith

-- a mask of the balanced rows fits the low bits of a key
pub mask_fits : {mask balanced : ℕ} → balanced ≤ 16 → mask < 2 ^ balanced → mask < 65536
mask_fits few low = omega (arith, pow_mono few)

pub no_bit_fits : (mask : ℕ) {balanced : ℕ} → balanced ≤ 16 → mask / 2 ^ balanced ≡ 0 → mask < 65536
no_bit_fits mask few none = mask_fits few (no_bit_left mask _ none)

-- what a key of a tuple weighs as is a mask on, and at most the end of the masks
pub mask_on : (tuple mask : ℕ) {key first : ℕ} → key ≡ tuple * 65536 + mask → mask < 65536 → InTuple key first
    → mask + (first - key) ≤ 65536
mask_on tuple mask {key} packed small within =
    let same : key / 65536 ≡ tuple = omega arith in
    omega (arith, within.0, within.1, same, ap (λ (n : ℕ). n * 65536) same)

-- as many sets as the balanced rows have
pub all_balanced : {sizes : List ℕ} {unbalanced : ℕ} {G : Groups} → Sized sizes unbalanced G
    → 2 ^ length G.balanced ≡ 2 ^ get_or sizes 0 0
all_balanced sized = ap (λ (n : ℕ). 2 ^ n) (sized.a_size_each 0 (omega arith))

module _ (m : Masks) (key : ℕ) where
  -- the masks from the key's on to before this one lack a row or miss a place
  abbrev pub Missed : ℕ → Type 0
  Missed mask = OfMarkedGroups m (λ G. (other : ℕ) → key ≤ other → other < key / 65536 * 65536 + mask
      → admits G m.places m.must other ≡ false)

  -- what was tried of the key's tuple
  abbrev Tried : Option ℕ → Type 0
  Tried next = OfMarkedGroups m (λ G. LeastWithin (admits G m.places m.must) key
      (key / 65536 * 65536 + 2 ^ get_or m.sizes 0 0) next)

  module _ (mask : ℕ) {tried first : ℕ} (missed : Missed mask) (packed : tried ≡ key / 65536 * 65536 + mask)
      (weighed : OfMarkedGroups m (λ G. Weighs (admits G m.places m.must) tried first)) where
    -- those that are passed over do so too
    pub missed_more : tried ≤ first → Missed (mask + (first - tried))
    missed_more from_on G marked fits other above below = go (dec_lt other (key / 65536 * 65536 + mask))
      where
        go : Dec (other < key / 65536 * 65536 + mask) → admits G m.places m.must other ≡ false
        go (yes before) = missed G marked fits other above before
        go (no beyond) = (weighed G marked fits).none_before other (omega arith) (omega arith)

    pub missed_found : first ≡ tried → mask < 2 ^ get_or m.sizes 0 0 → bit_and key 65535 ≤ mask → Tried (Some tried)
    missed_found itself low above G marked fits =
        found {key = tried} (omega (arith, and_mask key 16)) (omega arith)
        ((weighed G marked fits).itself itself)
        (λ other from_on before. missed G marked fits other from_on (omega (arith, before)))

  pub missed_all : {mask : ℕ} → Missed mask → 2 ^ get_or m.sizes 0 0 ≤ mask → Tried None
  missed_all missed end G marked fits =
      nothing (λ other above below. missed G marked fits other above (omega arith))
