-- Sets of places that rows of the constants can reach together, found row by row and constant by constant.
use Prim.Native.Nat.{ℕ, ◌+◌, ◌-◌, ◌*◌, ◌%◌, ◌^◌, ◌<◌, ◌≤◌}
use native.Mathlib.Omega.{arith}
use native.Mathlib.Decide.{dec_lt}
use mathlib.Core.Path.{◌≡◌, sym, ◌∙◌, ap, subst}
use mathlib.Core.Bool.{true, ◌&&◌, ◌||◌, false≢true, or-true, and-eq-true_iff}
use mathlib.Core.List.{List}
use borrow.Author.Tests.{eqb-true, lt-ltb}
use lib.Bits.{bit_and, bit_or, and_le_l}
use lib.Dec.{ltb, eqb}
use lib.ListN.{length, get_or, set}
use lib.Seq.{get_or-set_same, get_or-set_other}
use Rattle.ac.specs.Keys.{bit}
use Rattle.table.specs.Choices.{ReachedFrom, Indexes, Complete, WithRow}
use Rattle.table.specs.Masks.{MarkedTo, MissedBy}
use Rattle.table.proofs.Bits.{not_so, bit-bit_and, bit-bit_or, power_bit, no_bit_zero, no_bit_from}

-- a number has a bit that both have
pub both_bits : (a b i : ℕ) → bit (bit_and a b) i ≡ true → (bit a i ≡ true) × (bit b i ≡ true)
both_bits a b i e = (and-eq-true_iff (bit a i) (bit b i)).0 (sym (bit-bit_and a b i) ∙ e)

-- the sets that were found, and those that a mask of the sets before an end marks
pub with_row_marked : {later missed end : ℕ} (found : ℕ) {mask : ℕ}
    → MarkedTo (λ set. bit later (bit_and set missed)) end mask → WithRow found later missed end (bit_or found mask)
with_row_marked {later} {missed} {end} found {mask} marked =
    record {
      kept = λ s e. bit-bit_or found mask s ∙ ap (λ b. b || bit mask s) e;
      added = λ s less e. bit-bit_or found mask s
          ∙ ap (λ b. bit found s || b) (marked.marks s ∙ ap (λ b. ltb s end && b) e
          ∙ ap (λ b. b && true) (lt-ltb s end less)) ∙ or-true (bit found s);
    }

-- a missed place is 0 in the row
pub missed_row : (reaching : List ℕ) (places g i missed p : ℕ) → i < 64
    → MissedBy reaching places g (1 * 2 ^ i % 2 ^ 64) missed → bit missed p ≡ true
    → bit (get_or reaching (6 * g + p) 0) i ≡ true → ⊥
missed_row reaching places g i missed p few misses e above =
    let none = eqb-true (bit_and mask power) 0
    ((and-eq-true_iff (ltb p places) (eqb (bit_and mask power) 0)).0 (sym (misses p) ∙ e)).1 in
    false≢true (sym (no_bit_from {n = 0} {w = 0} {i = i} (omega arith) (omega arith))
    ∙ ap (λ (n : ℕ). bit n i) (sym none)
    ∙ bit-bit_and mask power i ∙ ap (λ b. b && bit power i) above ∙ power_bit i few)
  where
    mask : ℕ
    mask = get_or reaching (6 * g + p) 0

    power : ℕ
    power = 1 * 2 ^ i % 2 ^ 64

-- The rows of constant number g, one after the other.
module _ (reaching : List ℕ) (g largest later : ℕ) where
  -- the sets that its first rows and rows of the later constants reach together are found
  abbrev pub FoundTo : ℕ → ℕ → Type 0
  FoundTo i sets =
      (sizes : List ℕ) (unbalanced : ℕ) → Complete reaching sizes unbalanced largest (g + 1) later
      → (s : ℕ) → s ≤ largest → (index : ℕ → ℕ) → Indexes sizes unbalanced g index → index g < i
      → ((p : ℕ) → bit s p ≡ true → ReachedFrom reaching unbalanced g index p) → bit sets s ≡ true

  pub found_none : FoundTo 0 0
  found_none sizes unbalanced complete s small index within less reached = absurd (omega arith)

  pub found_more : (places : ℕ) {i sets missed next : ℕ} → i < 64 → FoundTo i sets
      → MissedBy reaching places (g + 1) (1 * 2 ^ i % 2 ^ 64) missed
      → WithRow sets later missed (largest + 1) next → FoundTo (i + 1) next
  found_more places {i} {sets} {missed} {next} few found misses with sizes unbalanced complete s small index within
      less reached = go (dec_lt (index g) i)
    where
      go : Dec (index g < i) → bit next s ≡ true
      go (yes before) = with.kept s (found sizes unbalanced complete s small index within before reached)
      go (no beyond) =
          with.added s (omega arith)
          (complete (bit_and s missed) (omega (arith, and_le_l s missed)) index
          (λ h from_on. within h (omega arith)) left)
        where
          here : index g ≡ i
          here = omega arith

          left : (p : ℕ) → bit (bit_and s missed) p ≡ true → ReachedFrom reaching unbalanced (g + 1) index p
          left p e = by_later (reached p (both_bits s missed p e).0)
            where
              by_later : ReachedFrom reaching unbalanced g index p → ReachedFrom reaching unbalanced (g + 1) index p
              by_later r = at (dec_lt g r.constant)
                where
                  at : Dec (g < r.constant) → ReachedFrom reaching unbalanced (g + 1) index p
                  at (yes further) =
                      record {
                        constant = r.constant;
                        from_on = omega arith;
                        unbalanced_one = r.unbalanced_one;
                        above = r.above;
                      }
                  at (no same) =
                      let it : r.constant ≡ g = omega (arith, r.from_on) in
                      absurd (missed_row reaching places (g + 1) i missed p few misses (both_bits s missed p e).1
                      (subst (λ (n : ℕ). bit (get_or reaching (6 * (g + 1) + p) 0) n ≡ true) here
                      (subst (λ (h : ℕ). bit (get_or reaching (6 * (h + 1) + p) 0) (index h) ≡ true) it r.above)))

  pub found_all : (i sets : ℕ) {size : ℕ} → FoundTo i sets → i ≡ size → (sizes : List ℕ) (unbalanced : ℕ)
      → g < unbalanced → size ≡ get_or sizes (g + 1) 0
      → Complete reaching sizes unbalanced largest (g + 1) later → Complete reaching sizes unbalanced largest g sets
  found_all i sets {size} found end sizes unbalanced used its_size complete s small index within reached =
      found sizes unbalanced complete s small index within (omega (arith, within g (omega arith) used)) reached

-- after the last constant there is only the empty set
pub complete_last : (reaching sizes : List ℕ) (unbalanced : ℕ) {largest : ℕ} → largest < 64
    → Complete reaching sizes unbalanced largest unbalanced 1
complete_last reaching sizes unbalanced few s small index within reached =
    ap (bit 1) (no_bit_zero 6 s (omega arith) (λ p h. not_so (bit s p) (λ e.
    let r = reached p e in absurd (omega (arith, r.from_on, r.unbalanced_one)))))

-- the last number alone, and one number further down
pub complete_start : (So : ℕ → ℕ → Type 0) (l : List ℕ) (top v : ℕ) → top < length l → So top v
    → (h : ℕ) → top ≤ h → h ≤ top → So h (get_or (set l top v) h 0)
complete_start So l top v inside here h low high =
    let it : top ≡ h = omega arith in
    subst (λ (n : ℕ). So n (get_or (set l top v) n 0)) it (subst (So top) (sym (get_or-set_same l top v 0 inside)) here)

pub complete_more : (So : ℕ → ℕ → Type 0) (l : List ℕ) (g v top : ℕ) → 0 < g → g ≤ length l
    → ((h : ℕ) → g ≤ h → h ≤ top → So h (get_or l h 0)) → So (g - 1) v
    → (h : ℕ) → g - 1 ≤ h → h ≤ top → So h (get_or (set l (g - 1) v) h 0)
complete_more So l g v top some inside before here h low high = go (dec_lt (g - 1) h)
  where
    go : Dec (g - 1 < h) → So h (get_or (set l (g - 1) v) h 0)
    go (yes further) =
        subst (So h) (sym (get_or-set_other l (g - 1) h v 0 (λ e. absurd (omega arith)))) (before h (omega arith) high)
    go (no same) =
        let it : g - 1 ≡ h = omega arith in
        subst (λ (n : ℕ). So n (get_or (set l (g - 1) v) n 0)) it
        (subst (So (g - 1)) (sym (get_or-set_same l (g - 1) v 0 (omega arith))) here)
