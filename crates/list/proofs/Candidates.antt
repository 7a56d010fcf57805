-- Candidates place by place, and that between a field that is too large and the end of its block there is none.
use Prim.Native.Nat.{ℕ, suc, ◌+◌, ◌-◌, ◌*◌, ◌/◌, ◌%◌, ◌^◌, ◌<◌, ◌≤◌}
use native.Mathlib.Omega.{arith}
use native.Mathlib.Nat.{div-lt_iff_lt-mul, mul-le-mul_right, mul_assoc, mod-lt}
use native.Mathlib.Numerals.{add-one}
use native.Mathlib.Decide.{dec_lt}
use mathlib.Core.Path.{◌≡◌, sym, ◌∙◌, ap, subst}
use mathlib.Core.Bool.{cond}
use mathlib.Core.List.{List}
use borrow.Author.Tests.{lt-ltb, le-ltb}
use lib.ListN.{length, get_or}
use lib.Pow.{pow_pos, pow-add, split, shr-shr, shr_mono}
use Rattle.ac.specs.Rows.{Groups, rows_at}
use Rattle.ac.specs.Keys.{layout, field_at, Candidate, Fits}
use Rattle.ac.proofs.Fields.{candidate_places, places_candidate}
use Rattle.table.specs.Masks.{Sized}
use Rattle.list.specs.Candidates.{field_limit}

-- the end of a block of 2 ^ bits numbers
abbrev pub block_end : ℕ → ℕ → ℕ
block_end key bits = (key / 2 ^ bits + 1) * 2 ^ bits

pub below_block_end : (key bits : ℕ) → key < block_end key bits
below_block_end key bits = omega (arith, split key bits, mod-lt key (pow_pos bits))

-- a number of the block from the key on has the key's quotient
pub same_block : {key other : ℕ} (bits : ℕ) → key ≤ other → other < block_end key bits
    → other / 2 ^ bits ≡ key / 2 ^ bits
same_block {key} {other} bits le lt = omega (arith, shr_mono bits le, (div-lt_iff_lt-mul (pow_pos bits)).1 lt)

-- a block ends where a number that is a multiple of its size and above the key does, or before
block_end_multiple : (key bits n : ℕ) → key < n * 2 ^ bits → block_end key bits ≤ n * 2 ^ bits
block_end_multiple key bits n less =
    let next : key / 2 ^ bits + 1 ≤ n = omega (arith, (div-lt_iff_lt-mul (pow_pos bits)).1 less) in
    mul-le-mul_right (2 ^ bits) next

-- a block ends in the larger block in which it lies
pub block_end_inside : (key : ℕ) {inner outer : ℕ} → inner ≤ outer → block_end key inner ≤ block_end key outer
block_end_inside key {inner} {outer} h =
    subst (λ (n : ℕ). block_end key inner ≤ n) (sym whole)
    (block_end_multiple key inner ((key / 2 ^ outer + 1) * 2 ^ (outer - inner))
    (subst (λ (n : ℕ). key < n) whole (below_block_end key outer)))
  where
    whole : block_end key outer ≡ (key / 2 ^ outer + 1) * 2 ^ (outer - inner) * 2 ^ inner
    whole =
        ap (λ (n : ℕ). (key / 2 ^ outer + 1) * 2 ^ n) (let e : outer ≡ (outer - inner) + inner = omega arith in e)
        ∙ ap (λ (n : ℕ). (key / 2 ^ outer + 1) * n) (pow-add 2 (outer - inner) inner)
        ∙ sym (mul_assoc (key / 2 ^ outer + 1) (2 ^ (outer - inner)) (2 ^ inner))

-- within a block a field that reaches up to the block's width does not fall
pub field_rises : {key other : ℕ} (at width : ℕ) → key ≤ other → other / 2 ^ (at + width) ≡ key / 2 ^ (at + width)
    → key / 2 ^ at % 2 ^ width ≤ other / 2 ^ at % 2 ^ width
field_rises {key} {other} at width le same =
    omega (
      arith,
      split (key / 2 ^ at) width,
      split (other / 2 ^ at) width,
      shr_mono at le,
      ap (λ (n : ℕ). n * 2 ^ width) (shr-shr key at width),
      ap (λ (n : ℕ). n * 2 ^ width) (shr-shr other at width),
      ap (λ (n : ℕ). n * 2 ^ width) same,
    )

-- the bits from the field of constant number g up
abbrev pub field_end : ℕ → ℕ
field_end g = 16 + 4 * (4 - g)

-- so a field of the key that is too large is too large up to the end of the block
pub index_rises : {key other : ℕ} (g : ℕ) → g < 4 → key ≤ other → other < block_end key (field_end g)
    → field_at layout key g ≤ field_at layout other g
index_rises {key} {other} g h le lt =
    field_rises (16 + 4 * (4 - suc g)) 4 le
    (let e : field_end g ≡ 16 + 4 * (4 - suc g) + 4 = omega arith in
    subst (λ (n : ℕ). other / 2 ^ n ≡ key / 2 ^ n) e (same_block (field_end g) le lt))

pub mask_rises : {key other : ℕ} → key ≤ other → other < block_end key 16 → key % 2 ^ 16 ≤ other % 2 ^ 16
mask_rises le lt = omega (arith, same_block 16 le lt)

-- the limit of a field, where it is a constant's and where it is unused
pub limit_used : (sizes : List ℕ) {unbalanced g : ℕ} → g < unbalanced
    → field_limit sizes unbalanced g ≡ get_or sizes (g + 1) 0
limit_used sizes {unbalanced} {g} h = ap (λ b. cond b (get_or sizes (g + 1) 0) 1) (lt-ltb g unbalanced h)

pub limit_unused : (sizes : List ℕ) {unbalanced g : ℕ} → unbalanced ≤ g → field_limit sizes unbalanced g ≡ 1
limit_unused sizes {unbalanced} {g} h = ap (λ b. cond b (get_or sizes (g + 1) 0) 1) (le-ltb g unbalanced h)

module _ {sizes : List ℕ} {unbalanced : ℕ} {G : Groups} (sized : Sized sizes unbalanced G)
    (fits : Fits layout G) where
  -- a candidate's fields are below their limits
  pub candidate_limits : {key : ℕ} → Candidate layout G key → (g : ℕ) → g < 4
      → field_at layout key g < field_limit sizes unbalanced g
  candidate_limits {key} candidate g h = go (dec_lt g unbalanced)
    where
      places : ((place : ℕ) → place < length G.constants
          → field_at layout key place < length (rows_at G.constants place))
          × ((place : ℕ) → length G.constants ≤ place → place < 4 → field_at layout key place ≡ 0)
      places = places_candidate fits key candidate

      go : Dec (g < unbalanced) → field_at layout key g < field_limit sizes unbalanced g
      go (yes below) =
          omega (
            arith,
            limit_used sizes below,
            places.0 g (omega (arith, sized.how_many_constants)),
            sized.a_size_each (suc g) below,
            ap (λ (n : ℕ). get_or sizes n 0) (add-one g),
          )
      go (no above) =
          let beyond : unbalanced ≤ g = omega arith in
          omega (arith, limit_unused sizes beyond, places.1 g (omega (arith, sized.how_many_constants)) h)

  -- a number below 2 ^ 32 is a candidate if its fields are below their limits and its mask has no bit beyond
  -- the balanced rows
  pub limits_candidate : {key : ℕ} → ((g : ℕ) → g < 4 → field_at layout key g < field_limit sizes unbalanced g)
      → key % 2 ^ 16 < 2 ^ get_or sizes 0 0
      → key < 2 ^ 32 → Candidate layout G key
  limits_candidate {key} within mask high =
      candidate_places fits key used unused
      (subst (λ (n : ℕ). key % 2 ^ 16 < 2 ^ n) (sym (sized.a_size_each 0 (omega arith))) mask) high
    where
      used : (g : ℕ) → g < length G.constants → field_at layout key g < length (rows_at G.constants g)
      used g below =
          let small : g < unbalanced = omega (arith, sized.how_many_constants) in
          omega (
            arith,
            limit_used sizes small,
            within g (omega (arith, fits.few_constants)),
            sized.a_size_each (suc g) small,
            ap (λ (n : ℕ). get_or sizes n 0) (add-one g),
          )

      unused : (g : ℕ) → length G.constants ≤ g → g < 4 → field_at layout key g ≡ 0
      unused g beyond h =
          let large : unbalanced ≤ g = omega (arith, sized.how_many_constants) in
          omega (arith, limit_unused sizes large, within g h)

  -- no candidate stands between a field that is too large, or a mask with a bit beyond the balanced rows, and
  -- the end of its block
  pub field_beyond : {key : ℕ} (g : ℕ) → g < 4 → field_limit sizes unbalanced g ≤ field_at layout key g
      → (other : ℕ) → key ≤ other → other < block_end key (field_end g) → Candidate layout G other → ⊥
  field_beyond g h beyond other le lt candidate =
      omega (arith, index_rises g h le lt, candidate_limits candidate g h)

  pub mask_beyond : {key : ℕ} → 2 ^ get_or sizes 0 0 ≤ key % 2 ^ 16 → (other : ℕ) → key ≤ other
      → other < block_end key 16 → Candidate layout G other → ⊥
  mask_beyond beyond other le lt candidate =
      omega (
        arith,
        mask_rises le lt,
        candidate.no_bit_beyond,
        ap (λ (n : ℕ). 2 ^ n) (sized.a_size_each 0 (omega arith)),
      )
