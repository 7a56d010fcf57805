-- Weighing a key on the masks. Where it misses a place, so does every number before the next multiple of the bit
-- of the lowest row that is above 0 there.
use Prim.Native.Nat.{ℕ, ◌+◌, ◌*◌, ◌/◌, ◌%◌, ◌^◌, ◌<◌, ◌≤◌}
use native.Mathlib.Omega.{arith}
use native.Mathlib.Decide.{dec_lt}
use mathlib.Core.Path.{◌≡◌, sym, ◌∙◌, ap, ap₂, subst}
use mathlib.Core.Bool.{Bool, false, ◌||◌, ◌&&◌, and-false}
use mathlib.Core.List.{List}
use lib.Dec.{eqb}
use lib.ListN.{get_or}
use Rattle.ac.specs.Rows.{Groups}
use Rattle.ac.specs.Keys.{layout, bit, field_at, Fits}
use Rattle.table.specs.Masks.{Marked}
use Rattle.table.proofs.Bits.{high_part}
use Rattle.list.specs.Reach.{all, takes_any, takes_all, reaches, NoRowBelow, InTuple, Weighs}
use Rattle.list.specs.Candidates.{admits}
use Rattle.list.proofs.Any.{any_same}
use Rattle.list.proofs.Reach.{fills_reaches}
use Rattle.list.proofs.Candidates.{block_end, below_block_end, same_block, block_end_inside}

-- numbers that agree from a bit of the mask on, or below it, have the same row indexes
same_index : (key other : ℕ) {bits : ℕ} (g : ℕ) → bits ≤ 16 → other / 2 ^ bits ≡ key / 2 ^ bits
    → field_at layout other g ≡ field_at layout key g
same_index key other g low same = ap (λ n. n % 2 ^ 4) (high_part other key (omega arith) same)

-- and take the same rows of a mask that has none below that bit
same_taken : (rows key other : ℕ) {bits : ℕ} → NoRowBelow rows bits → other / 2 ^ bits ≡ key / 2 ^ bits
    → takes_any rows other ≡ takes_any rows key
unfolding takes_any
same_taken rows key other {bits} none same =
    any_same 16 (λ i. bit other i && bit rows i) (λ i. bit key i && bit rows i) (λ i h. go i (dec_lt i bits))
  where
    go : (i : ℕ) → Dec (i < bits) → (bit other i && bit rows i) ≡ (bit key i && bit rows i)
    go i (yes below) =
        ap (λ b. bit other i && b) (none i below) ∙ and-false (bit other i)
        ∙ sym (ap (λ b. bit key i && b) (none i below) ∙ and-false (bit key i))
    go i (no above) =
        ap (λ b. b && bit rows i) (ap (λ n. eqb (n % 2) 1) (high_part other key (omega arith) same))

-- the end of a block that lies in its tuple
pub in_tuple_block : (key : ℕ) {bits : ℕ} → bits ≤ 16 → InTuple key (block_end key bits)
in_tuple_block key {bits} low = (omega (arith, below_block_end key bits), block_end_inside key low)

-- The jump: every number from one that misses the place on misses it, up to the end of the block.
pub weighs_jump : (reaching : List ℕ) (unbalanced place : ℕ) {key bits : ℕ} → bits ≤ 16
    → NoRowBelow (get_or reaching place 0) bits
    → reaches reaching unbalanced place key ≡ false
    → Weighs (reaches reaching unbalanced place) key (block_end key bits)
weighs_jump reaching unbalanced place {key} {bits} low none missed =
    record {
      itself = λ same. absurd (omega (arith, below_block_end key bits));
      none_before = λ other le lt. same_reach other (same_block {key = key} {other = other} bits le lt) ∙ missed;
    }
  where
    same_reach : (other : ℕ) → other / 2 ^ bits ≡ key / 2 ^ bits
        → reaches reaching unbalanced place other ≡ reaches reaching unbalanced place key
    same_reach other same =
        ap₂ (λ a b. a || b)
        (any_same unbalanced (λ g. bit (get_or reaching (6 * (g + 1) + place) 0) (field_at layout other g))
        (λ g. bit (get_or reaching (6 * (g + 1) + place) 0) (field_at layout key g))
        (λ g h. ap (bit (get_or reaching (6 * (g + 1) + place) 0)) (same_index key other g low same)))
        (same_taken (get_or reaching place 0) key other none same)

-- the same test in other words
weighs_same : {f g : ℕ → Bool} {key first : ℕ} → ((k : ℕ) → f k ≡ g k) → Weighs f key first → Weighs g key first
weighs_same {key = key} same weighed =
    record {
      itself = λ e. sym (same key) ∙ weighed.itself e;
      none_before = λ other low high. sym (same other) ∙ weighed.none_before other low high;
    }

-- The rows that must be taken, and the places one after the other.
module _ (reaching : List ℕ) (unbalanced must key : ℕ) where
  abbrev pub WeighsTo : ℕ → ℕ → Type 0
  WeighsTo n first = Weighs (λ k. takes_all must k && all n (λ p. reaches reaching unbalanced p k)) key first

  -- all places, of the groups that the masks are of
  pub places_all : (place : ℕ) {places first : ℕ} → WeighsTo place first → place ≡ places → (G : Groups)
      → Marked reaching unbalanced places G → Fits layout G → Weighs (admits G places must) key first
  places_all place {first = first} weighed end G marked fits =
      weighs_same (λ k. ap (λ b. takes_all must k && b) (sym (fills_reaches marked fits k)))
      (subst (λ (n : ℕ). WeighsTo n first) end weighed)
