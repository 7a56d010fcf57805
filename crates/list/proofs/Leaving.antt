-- Leaving a tuple of row indexes: where rows of the later constants cannot reach together what is still missing,
-- no candidate with the indexes so far reaches every place.
use Prim.Native.Nat.{ℕ, ◌+◌, ◌*◌, ◌/◌, ◌%◌, ◌^◌, ◌<◌, ◌≤◌}
use native.Mathlib.Omega.{arith}
use native.Mathlib.Decide.{dec_lt}
use mathlib.Core.Path.{◌≡◌, sym, ◌∙◌, ap, subst}
use mathlib.Core.Bool.{Bool, true, false, ◌||◌, ◌&&◌, false≢true, and-false, or-false, and-eq-true_iff}
use mathlib.Core.List.{List}
use borrow.Author.Tests.{ltb-true, eqb-true}
use borrow.Author.Count.{below_more}
use lib.Bits.{bit_and, and_mask, and_le_l}
use lib.Dec.{ltb, eqb}
use lib.ListN.{get_or}
use Rattle.ac.specs.Rows.{Groups}
use Rattle.ac.specs.Keys.{layout, bit, field_at, Fits}
use Rattle.table.specs.Choices.{ReachedFrom}
use Rattle.table.specs.Masks.{Sized, Marked, MissedBy, SetsOf}
use Rattle.table.proofs.Bits.{not_so, bit_of_low, high_part, no_bit_from}
use Rattle.table.proofs.Sets.{both_bits, missed_row}
use Rattle.list.specs.Reach.{any, takes_any, reaches}
use Rattle.list.specs.Candidates.{fills, NoneInBlock}
use Rattle.list.proofs.Any.{any_some, any_fails, all_each}
use Rattle.list.proofs.Reach.{fills_reaches}
use Rattle.list.proofs.Candidates.{field_end, limit_used, candidate_limits}

-- of a mask that has none of the 16 rows none is taken
none_taken : (rows key : ℕ) → bit_and rows 65535 ≡ 0 → takes_any rows key ≡ false
unfolding takes_any
none_taken rows key none = any_fails 16 (λ i. bit key i && bit rows i)
    (λ i h. ap (λ b. bit key i && b)
    (bit_of_low rows h ∙ ap (λ (n : ℕ). bit n i) (sym (and_mask rows 16) ∙ none)
    ∙ no_bit_from {n = 0} {w = 0} {i = i} (omega arith) (omega arith)) ∙ and-false (bit key i))

module _ (reaching : List ℕ) (places unreached key : ℕ) where
  -- the places that neither a balanced row nor the rows that the key takes of the first g constants reach
  pub record Missing (g missing : ℕ) : Type 0 where
    pub small : missing ≤ unreached
    pub not_balanced : (p : ℕ) → bit missing p ≡ true → bit unreached p ≡ true
    pub missed : (h : ℕ) → h < g → (p : ℕ) → bit missing p ≡ true
        → bit (get_or reaching (6 * (h + 1) + p) 0) (field_at layout key h) ≡ false

  pub missing_all : Missing 0 unreached
  missing_all = record { small = omega arith; not_balanced = λ p e. e; missed = λ h less. absurd (omega arith) }

  -- with one more constant those stay that its row misses
  pub missing_more : (g missing index row : ℕ) → index < 64 → index ≡ field_at layout key g → Missing g missing
      → MissedBy reaching places (g + 1) (1 * 2 ^ index % 2 ^ 64) row → Missing (g + 1) (bit_and missing row)
  missing_more g missing index row few its so_far misses =
      record {
        small = omega (arith, and_le_l missing row, so_far.small);
        not_balanced = λ p e. so_far.not_balanced p (both_bits missing row p e).0;
        missed = below_more (λ h. (p : ℕ) → bit (bit_and missing row) p ≡ true
            → bit (get_or reaching (6 * (h + 1) + p) 0) (field_at layout key h) ≡ false) g
            (λ h less p e. so_far.missed h less p (both_bits missing row p e).0) here;
      }
    where
      here : (p : ℕ) → bit (bit_and missing row) p ≡ true
          → bit (get_or reaching (6 * (g + 1) + p) 0) (field_at layout key g) ≡ false
      here p e = not_so (bit (get_or reaching (6 * (g + 1) + p) 0) (field_at layout key g)) (λ above.
          missed_row reaching places (g + 1) index row p few misses (both_bits missing row p e).1
          (subst (λ (n : ℕ). bit (get_or reaching (6 * (g + 1) + p) 0) n ≡ true) (sym its) above))

  -- what is missing cannot be reached: no candidate with the first g indexes of the key reaches every place
  module _ {sizes choices : List ℕ} {unbalanced : ℕ} (few : unbalanced ≤ 4)
      (sets : SetsOf reaching sizes unbalanced places unreached choices) {g missing : ℕ} (used : g ≤ unbalanced)
      (so_far : Missing g missing)
      (cannot : bit (get_or choices g 0) missing ≡ false) {G : Groups}
      (sized : Sized sizes unbalanced G) (marked : Marked reaching unbalanced places G)
      (fits : Fits layout G) where
    -- a missing place that a key with these indexes reaches is reached by the row of a later constant
    by_later : (other p : ℕ) → other / 2 ^ field_end g ≡ key / 2 ^ field_end g → bit missing p ≡ true
        → reaches reaching unbalanced p other ≡ true
        → ReachedFrom reaching unbalanced g (field_at layout other) p
    by_later other p same e reached =
        let some = any_some unbalanced by_constant
        (sym (or-false (any unbalanced by_constant)) ∙ ap (λ b. any unbalanced by_constant || b) (sym none)
        ∙ reached) in
        record {
          constant = some.0;
          from_on = later some.0 some.1 some.2 (dec_lt some.0 g);
          unbalanced_one = some.1;
          above = some.2;
        }
      where
        by_constant : ℕ → Bool
        by_constant h = bit (get_or reaching (6 * (h + 1) + p) 0) (field_at layout other h)

        no_row : eqb (bit_and (get_or reaching (6 * 0 + p) 0) 65535) 0 ≡ true
        no_row = ((and-eq-true_iff (ltb p places) (eqb (bit_and (get_or reaching (6 * 0 + p) 0) 65535) 0)).0
            (sym (sets.the_unreached p) ∙ so_far.not_balanced p e)).1

        none : takes_any (get_or reaching p 0) other ≡ false
        none = none_taken (get_or reaching p 0) other
            (ap (λ (n : ℕ). bit_and (get_or reaching n 0) 65535) (let z : p ≡ 6 * 0 + p = omega arith in z)
            ∙ eqb-true (bit_and (get_or reaching (6 * 0 + p) 0) 65535) 0 no_row)

        later : (h : ℕ) → h < unbalanced → by_constant h ≡ true → Dec (h < g) → g ≤ h
        later h one above (no further) = omega arith
        later h one above (yes fixed) =
            absurd (false≢true (sym (so_far.missed h fixed p e)
            ∙ ap (bit (get_or reaching (6 * (h + 1) + p) 0))
            (ap (λ n. n % 2 ^ 4) (sym (high_part other key (omega arith) same))) ∙ above))

    pub left_none : NoneInBlock G places key (field_end g)
    left_none other same candidate = not_so (fills G places other) (λ e.
        false≢true (sym cannot
        ∙ sets.the_choices g used missing so_far.small (field_at layout other) index_fits
        (λ p has. by_later other p same has
        (all_each places p (λ q. reaches reaching unbalanced q other) (place_fits p has)
        (sym (fills_reaches marked fits other) ∙ e)))))
      where
        place_fits : (p : ℕ) → bit missing p ≡ true → p < places
        place_fits p e =
            ltb-true p places
            ((and-eq-true_iff (ltb p places) (eqb (bit_and (get_or reaching (6 * 0 + p) 0) 65535) 0)).0
            (sym (sets.the_unreached p) ∙ so_far.not_balanced p e)).0

        index_fits : (h : ℕ) → g ≤ h → h < unbalanced → field_at layout other h < get_or sizes (h + 1) 0
        index_fits h from_on one =
            omega (
              arith,
              candidate_limits sized fits candidate h (omega (arith, few)),
              limit_used sizes one,
            )
