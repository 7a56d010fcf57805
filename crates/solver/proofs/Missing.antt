-- Masks of the rows that reach none of some places: all rows, the rows left without those that reach one place more,
-- and how many selections are made of them.
use Prim.Native.Nat.{ℕ, zero, suc, ◌+◌, ◌-◌, ◌*◌, ◌/◌, ◌%◌, ◌^◌, ◌<◌, ◌≤◌}
use native.Mathlib.Omega.{arith}
use native.Mathlib.Nat.{pow-suc, mul_assoc, mul-one, mul-le-mul, le_trans, le_of_eq}
use native.Mathlib.Numerals.{add-one}
use native.Mathlib.Decide.{dec_lt}
use mathlib.Core.Path.{◌≡◌, refl, sym, ◌∙◌, ap, ap₂}
use mathlib.Core.Bool.{Bool, true, false, not, cond, ◌&&◌, and_assoc, and_comm, and-true}
use mathlib.Core.List.{List, [], ◌∷◌}
use borrow.Author.Tests.{lt-ltb, le-ltb, eqb-true, eqb-false, eq-eqb, ne_eqb}
use lib.Bits.{bit_and}
use lib.Count.{ones, ones_step, ones-le}
use lib.Dec.{ltb}
use lib.ListN.{length, get_or, drop}
use lib.Pow.{pow_pos, pow-add}
use Rattle.ac.specs.Limits.{limits}
use Rattle.ac.specs.Lists.{below, from}
use Rattle.ac.specs.Rows.{Group, Groups, rows_at}
use Rattle.ac.specs.Keys.{bit}
use Rattle.ac.specs.Counting.{how_many, misses, rows_missing, tuples_missing, selections_missing, selections_reaching}
use Rattle.ac.proofs.Keys.{bit_of_half, lowest_bit}
use Rattle.ac.proofs.HowMany.{how_many_next, how_many_most, how_many-further, how_many_places}
use Rattle.ac.proofs.Counting.{reaching_parts}
use Rattle.table.specs.Table.{most_rows, groups_in}
use Rattle.table.specs.Masks.{group, MasksOf}
use Rattle.table.specs.declared.Table.{Table}
use Rattle.table.specs.declared.masks.Masks.{Masks}
use Rattle.table.proofs.Bits.{bit-bit_and, no_bit_from, no_bit_zero}
use Rattle.solver.specs.Missing.{MarksMissing, RowsLeft, ReachingLeft, AllRows, Without, NotReaching}

-- ---- bits of masks

-- what is missing in a number to all ones has a bit exactly where the number has none
pub bit_complement : (k a i : ℕ) → a < 2 ^ k → i < k → bit (2 ^ k - 1 - a) i ≡ not (bit a i)
bit_complement zero a i small h = absurd (omega arith)
bit_complement (suc k) a zero small h = by_bit (bit a 0) refl
  where
    by_bit : (b : Bool) → bit a 0 ≡ b → bit (2 ^ suc k - 1 - a) 0 ≡ not b
    by_bit true e =
        let odd = eqb-true (a / 1 % 2) 1 e in
        ne_eqb ((2 ^ suc k - 1 - a) / 1 % 2) 1 (λ other. omega (arith, pow-suc 2 k))
    by_bit false e =
        let even = eqb-false (a / 1 % 2) 1 e in
        eq-eqb ((2 ^ suc k - 1 - a) / 1 % 2) 1 (omega (arith, pow-suc 2 k))
bit_complement (suc k) a (suc i) small h =
    let half : (2 ^ suc k - 1 - a) / 2 ≡ 2 ^ k - 1 - a / 2 = omega (arith, pow-suc 2 k) in
    bit_of_half (2 ^ suc k - 1 - a) i ∙ ap (λ (n : ℕ). bit n i) half
    ∙ bit_complement k (a / 2) i (omega (arith, pow-suc 2 k)) (omega arith)
    ∙ ap not (sym (bit_of_half a i))

-- 0 has no bit
zero_bit : (i : ℕ) → bit 0 i ≡ false
zero_bit i = no_bit_from {n = 0} {w = 0} {i = i} (omega arith) (omega arith)

-- as many ones as there are rows
pub all_rows_lem : (size : ℕ) → AllRows size (2 ^ size - 1)
all_rows_lem size i = go (dec_lt i size)
  where
    go : Dec (i < size) → bit (2 ^ size - 1) i ≡ ltb i size
    go (yes h) =
        let none : 2 ^ size - 1 ≡ 2 ^ size - 1 - 0 = omega arith in
        ap (λ (n : ℕ). bit n i) none ∙ bit_complement size 0 i (pow_pos size) h ∙ ap not (zero_bit i)
        ∙ sym (lt-ltb i size h)
    go (no h) =
        let small : 2 ^ size - 1 < 2 ^ size = omega (arith, pow_pos size) in
        no_bit_from {n = 2 ^ size - 1} {w = size} {i = i} small (omega arith) ∙ sym (le-ltb i size (omega arith))

-- every number is below two to itself
below_power : (n : ℕ) → n < 2 ^ n
below_power zero = omega arith
below_power (suc n) = omega (arith, pow-suc 2 n, below_power n)

-- one more on both sides
ltb_suc : (i n : ℕ) → ltb (suc i) (suc n) ≡ ltb i n
ltb_suc i n = go (dec_lt i n)
  where
    go : Dec (i < n) → ltb (suc i) (suc n) ≡ ltb i n
    go (yes h) = lt-ltb (suc i) (suc n) (omega arith) ∙ sym (lt-ltb i n h)
    go (no h) = le-ltb (suc i) (suc n) (omega arith) ∙ sym (le-ltb i n (omega arith))

-- a mask of the numbers below n that pass a test has as many ones as pass
ones_marked : (n : ℕ) (test : ℕ → Bool) (mask : ℕ) → ((i : ℕ) → bit mask i ≡ (ltb i n && test i))
    → ones mask ≡ how_many test (below n)
ones_marked zero test mask marks =
    let none : mask ≡ 0 = no_bit_zero mask mask (below_power mask)
    (λ i h. marks i ∙ ap (λ b. b && test i) (le-ltb i 0 (omega arith))) in
    let few : mask < 2 ^ 0 = omega arith in
    omega (arith, ones-le 0 mask few)
ones_marked (suc n) test mask marks =
    omega (
      arith,
      ones_step mask,
      lowest_bit mask,
      ap {B = ℕ} (λ (b : Bool). cond b 1 0) (marks 0 ∙ ap (λ b. b && test 0) (lt-ltb 0 (suc n) (omega arith))),
      ones_marked n (λ i. test (suc i)) (mask / 2)
          (λ i. sym (bit_of_half mask i) ∙ marks (suc i) ∙ ap (λ b. b && test (suc i)) (ltb_suc i n)),
      how_many_next test 0 (from 1 n),
      how_many-further test 0 n,
    )

module _ {unbalanced : ℕ} {rows : List ℕ} (left : RowsLeft unbalanced rows) (g : ℕ) (used : g ≤ unbalanced) where
  -- so many rows of a mask reach none of the places
  pub rows_counted : ones (get_or rows g 0) ≡ rows_missing left.missed (group left.groups g)
  rows_counted =
      let its = group left.groups g in
      ones_marked (length its) (λ i. misses left.missed (get_or its i [])) (get_or rows g 0) (left.marks g used)
      ∙ how_many_places (misses left.missed) its []

  -- and they are no more than a group may have
  pub rows_few : ones (get_or rows g 0) ≤ most_rows g
  rows_few =
      omega (
        arith,
        rows_counted,
        how_many_most (misses left.missed) (group left.groups g),
        left.few_rows g used,
      )

-- ---- all rows, where no place is to be missed

abbrev pub all_left : {t : Table} {m : Masks} (rows : List ℕ) → MasksOf t m
    → ((g : ℕ) → g ≤ limits.constants → AllRows (get_or m.sizes g 0) (get_or rows g 0))
    → ReachingLeft m.reaching rows m.unbalanced m.places
all_left {t} {m} rows masks each =
    record {
      left = record {
        groups = groups_in t;
        missed = [];
        how_many_constants = masks.sized.how_many_constants;
        few_rows = λ g used. omega (arith, masks.sized.a_size_each g used, m.sizes_fit g);
        marks = λ g used i.
            each g (omega (arith, m.constants_fit)) i
            ∙ ap (ltb i) (sym (masks.sized.a_size_each g used)) ∙ sym (and-true (ltb i (length (group (groups_in t) g))));
      };
      marked = masks.marked;
    }

-- ---- one place more

-- The rows of a mask that are not in another one are those that the other one lacks; no word has a bit from 64 on.
pub words_without : (rows others : ℕ) → rows < 2 ^ 64 → others < 2 ^ 64
    → Without rows others (bit_and rows (2 ^ 64 - 1 - others))
words_without rows others small fits i = bit-bit_and rows (2 ^ 64 - 1 - others) i ∙ go (dec_lt i 64)
  where
    go : Dec (i < 64) → (bit rows i && bit (2 ^ 64 - 1 - others) i) ≡ (bit rows i && not (bit others i))
    go (yes h) = ap (λ b. bit rows i && b) (bit_complement 64 others i fits h)
    go (no h) =
        let none = no_bit_from {n = rows} {w = 64} {i = i} small (omega arith) in
        ap (λ b. b && bit (2 ^ 64 - 1 - others) i) none ∙ sym (ap (λ b. b && not (bit others i)) none)

module _ (reaching rows : List ℕ) (unbalanced places k : ℕ) (last : places ≡ suc k) where
  -- The same rows are left where one place fewer is to be reached, ..
  abbrev pub one_place_fewer : ReachingLeft reaching rows unbalanced places → ReachingLeft reaching rows unbalanced k
  one_place_fewer of =
      record {
        left = of.left;
        marked = record {
          how_many_constants = of.marked.how_many_constants;
          marks = λ g p used place. of.marked.marks g p used (omega (arith, last));
        };
      }

  -- .. and fewer where that place is to be missed.
  pub left_missing : (fewer : List ℕ) → unbalanced ≤ limits.constants → NotReaching reaching rows k fewer
      → (of : ReachingLeft reaching rows unbalanced places) (g : ℕ) → g ≤ unbalanced
      → MarksMissing (k ∷ of.left.missed) (group of.left.groups g) (get_or fewer g 0)
  left_missing fewer few without of g used i =
      let its = group of.left.groups g in
      without g (omega arith) i
      ∙ ap₂ (λ (a b : Bool). a && not b) (of.left.marks g used i) (of.marked.marks g k used (omega (arith, last)) i)
      ∙ and_assoc (ltb i (length its)) (misses of.left.missed (get_or its i []))
      (not (ltb 0 (get_or (get_or its i []) k 0)))
      ∙ ap (λ b. ltb i (length its) && b)
      (and_comm (misses of.left.missed (get_or its i [])) (not (ltb 0 (get_or (get_or its i []) k 0))))

  abbrev pub one_place_missed : (fewer : List ℕ) → unbalanced ≤ limits.constants → NotReaching reaching rows k fewer
      → ReachingLeft reaching rows unbalanced places → ReachingLeft reaching fewer unbalanced k
  one_place_missed fewer few without of =
      record {
        left = record {
          groups = of.left.groups;
          missed = k ∷ of.left.missed;
          how_many_constants = of.left.how_many_constants;
          few_rows = of.left.few_rows;
          marks = left_missing fewer few without of;
        };
        marked = (one_place_fewer of).marked;
      }

-- nothing is taken away that is not there
pub none_beyond : (k : ℕ) (G : Groups) (missed : List ℕ)
    → selections_reaching G k (k ∷ missed) ≤ selections_reaching G k missed
none_beyond k G missed = omega (arith, reaching_parts G k missed)

-- what is left reach the last place, too
pub last_place : (places k : ℕ) → places ≡ suc k → (G : Groups) (missed : List ℕ)
    → selections_reaching G k missed - selections_reaching G k (k ∷ missed) ≡ selections_reaching G places missed
last_place places k last G missed = ap (λ (p : ℕ). selections_reaching G p missed) (sym last)

-- ---- the product over the constants, one after the other

-- what is left of it
abbrev pub tuples_from : List ℕ → List Group → ℕ → ℕ
tuples_from missed gs g = tuples_missing missed (drop g gs)

tuples_next : (missed : List ℕ) (gs : List Group) (g : ℕ) → g < length gs
    → tuples_from missed gs g ≡ rows_missing missed (rows_at gs g) * tuples_from missed gs (suc g)
tuples_next missed [] g h = absurd (omega arith)
tuples_next missed (g₀ ∷ gs) zero h = refl
tuples_next missed (g₀ ∷ gs) (suc g) h = tuples_next missed gs g (omega arith)

-- after the last nothing is
tuples_last : (missed : List ℕ) (gs : List Group) (g : ℕ) → length gs ≤ g → tuples_from missed gs g ≡ 1
tuples_last missed [] zero h = refl
tuples_last missed [] (suc g) h = refl
tuples_last missed (g₀ ∷ gs) zero h = absurd (omega arith)
tuples_last missed (g₀ ∷ gs) (suc g) h = tuples_last missed gs g (omega arith)

-- The product so far, and what is left of it, are the whole.
abbrev pub TuplesTo : (unbalanced : ℕ) (rows : List ℕ) → ℕ → ℕ → Type 0
TuplesTo unbalanced rows g tuples =
    (left : RowsLeft unbalanced rows)
    → tuples * tuples_from left.missed left.groups.constants g
    ≡ tuples_missing left.missed left.groups.constants

module _ {unbalanced : ℕ} {rows : List ℕ} where
  pub tuples_more : (g tuples n : ℕ) → g < unbalanced → n ≡ ones (get_or rows (g + 1) 0)
      → TuplesTo unbalanced rows g tuples
      → TuplesTo unbalanced rows (g + 1) (tuples * n)
  tuples_more g tuples n less counted so_far left =
      let its = left.groups.constants in
      let here : n ≡ rows_missing left.missed (rows_at its g) =
      counted ∙ rows_counted left (g + 1) (omega arith)
      ∙ ap (λ k. rows_missing left.missed (group left.groups k)) (add-one g) in
      mul_assoc tuples n (tuples_from left.missed its (g + 1))
      ∙ ap (λ (k : ℕ). tuples * k)
      (ap₂ (λ (m k : ℕ). m * tuples_from left.missed its k) here (add-one g)
      ∙ sym (tuples_next left.missed its g (omega (arith, left.how_many_constants))))
      ∙ so_far left

  -- it grows by no more than the rows that a constant may have
  pub tuples_small : (g tuples n : ℕ) → RowsLeft unbalanced rows → g < unbalanced → n ≡ ones (get_or rows (g + 1) 0)
      → tuples ≤ 2 ^ (4 * g) → tuples * n ≤ 2 ^ (4 * (g + 1))
  tuples_small g tuples n left less counted small =
      let few : n ≤ 2 ^ 4 =
      omega (arith, counted, rows_few left (g + 1) (omega arith), ap most_rows (add-one g)) in
      le_trans (mul-le-mul small few)
      (le_of_eq (sym (pow-add 2 (4 * g) 4) ∙ ap (λ (k : ℕ). 2 ^ k) (omega arith)))

  -- in the end they are rows of all constants, and with them goes any set of the balanced ones
  pub selections_made : (g tuples n : ℕ) → unbalanced ≤ g → n ≡ ones (get_or rows 0 0) → TuplesTo unbalanced rows g tuples
      → (left : RowsLeft unbalanced rows) → tuples * 2 ^ n ≡ selections_missing left.missed left.groups
  selections_made g tuples n all counted so_far left =
      let its = left.groups.constants in
      let last : tuples_from left.missed its g ≡ 1 =
      tuples_last left.missed its g (omega (arith, left.how_many_constants)) in
      let whole : tuples ≡ tuples_missing left.missed its =
      sym (mul-one tuples) ∙ ap (λ (k : ℕ). tuples * k) (sym last) ∙ so_far left in
      ap₂ (λ (m k : ℕ). m * 2 ^ k) whole (counted ∙ rows_counted left 0 (omega arith))
