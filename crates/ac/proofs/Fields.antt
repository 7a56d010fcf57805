-- A key read place by place: the index of the constant at a place, and what makes a candidate in those terms.
use Prim.Native.Nat.{ℕ, zero, suc, ◌+◌, ◌-◌, ◌*◌, ◌/◌, ◌%◌, ◌^◌, ◌<◌, ◌≤◌}
use native.Mathlib.Omega.{arith}
use native.Mathlib.Nat.{eq-or-lt_of_le, suc_inj, suc-sub-suc, mul-zero, zero-div, mod-eq_of_lt}
use mathlib.Core.Path.{◌≡◌, refl, sym, ap, subst, ◌∙◌}
use mathlib.Core.Logic.{⊎_elim}
use mathlib.Core.List.{List, [], ◌∷◌}
use lib.ListN.{length, get_or}
use lib.Pow.{pow_pos, shr-shr, field, mod-pow-add, mod-mod-pow}
use Rattle.ac.specs.Rows.{Group, Groups, rows_at}
use Rattle.ac.specs.Selection.{Within, none, index}
use Rattle.ac.specs.Keys.{Layout, Fits, Candidate, fields_of, field_at, selection_at}
use Rattle.ac.proofs.Keys.{next_field}

-- within their groups, place by place
within_places : {gs : List Group} {is : List ℕ} → Within gs is → (place : ℕ) → place < length gs
    → get_or is place 0 < length (rows_at gs place)
within_places none place h = absurd (omega arith)
within_places (index less within) zero h = less
within_places (index less within) (suc place) h = within_places within place (omega arith)

-- and the other way round
places_within : (gs : List Group) (is : List ℕ) → length is ≡ length gs
    → ((place : ℕ) → place < length gs → get_or is place 0 < length (rows_at gs place))
    → Within gs is
places_within [] [] e each = none
places_within [] (i ∷ is) e each = absurd (omega arith)
places_within (g ∷ gs) [] e each = absurd (omega arith)
places_within (g ∷ gs) (i ∷ is) e each =
    index (each 0 (omega arith)) (places_within gs is (omega arith) (λ place h. each (suc place) (omega arith)))

module _ (lay : Layout) where
  -- there is a field for each constant
  pub length_fields_of : (k : ℕ) (gs : List Group) (m : ℕ) → length gs ≤ k → length (fields_of lay k gs m) ≡ length gs
  length_fields_of k [] m fit = refl
  length_fields_of zero (g ∷ gs) m fit = absurd (omega arith)
  length_fields_of (suc k) (g ∷ gs) m fit = ap suc (length_fields_of k gs m (omega arith))

  field_of : (k : ℕ) (gs : List Group) (m place : ℕ) → length gs ≤ k → place < length gs
      → get_or (fields_of lay k gs m) place 0 ≡ m / 2 ^ (lay.index_bits * (k - suc place)) % 2 ^ lay.index_bits
  field_of k [] m place fit h = absurd (omega arith)
  field_of zero (g ∷ gs) m place fit h = absurd (omega arith)
  field_of (suc k) (g ∷ gs) m zero fit h =
      let e : k ≡ suc k - 1 = omega arith in
      ap (λ (x : ℕ). m / 2 ^ (lay.index_bits * x) % 2 ^ lay.index_bits) e
  field_of (suc k) (g ∷ gs) m (suc place) fit h =
      field_of k gs m place (omega arith) (omega arith)
      ∙ ap (λ (x : ℕ). m / 2 ^ (lay.index_bits * x) % 2 ^ lay.index_bits) (sym (suc-sub-suc k (suc place)))

  -- k fields are 0 together if each is 0
  fields_zero : (k m : ℕ) → ((j : ℕ) → j < k → m / 2 ^ (lay.index_bits * j) % 2 ^ lay.index_bits ≡ 0)
      → m % 2 ^ (lay.index_bits * k) ≡ 0
  fields_zero zero m each = ap (λ (x : ℕ). m % 2 ^ x) (mul-zero lay.index_bits) ∙ omega arith
  fields_zero (suc k) m each =
      ap (λ (x : ℕ). m % x) (next_field lay k) ∙ mod-pow-add m lay.index_bits (lay.index_bits * k)
      ∙ omega (
        arith,
        fields_zero k m (λ j h. each j (omega arith)),
        ap (λ (x : ℕ). x * 2 ^ (lay.index_bits * k)) (each k (omega arith)),
      )

  -- and the other way round
  zero_fields : (k m : ℕ) → m % 2 ^ (lay.index_bits * k) ≡ 0 → (j : ℕ) → j < k
      → m / 2 ^ (lay.index_bits * j) % 2 ^ lay.index_bits ≡ 0
  zero_fields zero m e j h = absurd (omega arith)
  zero_fields (suc k) m e j h =
      ⊎_elim (λ same. subst (λ (i : ℕ). m / 2 ^ (w * i) % 2 ^ w ≡ 0) (sym (suc_inj same)) highest)
      (λ less. zero_fields k m others j (omega arith)) (eq-or-lt_of_le h)
    where
      w : ℕ
      w = lay.index_bits

      all : m % 2 ^ (w + w * k) ≡ 0
      all = ap (λ (x : ℕ). m % x) (sym (next_field lay k)) ∙ e

      highest : m / 2 ^ (w * k) % 2 ^ w ≡ 0
      highest = sym (field m w (w * k)) ∙ ap (λ (x : ℕ). x / 2 ^ (w * k)) all ∙ zero-div (2 ^ (w * k))

      others : m % 2 ^ (w * k) ≡ 0
      others = sym (mod-mod-pow m w (w * k)) ∙ ap (λ (x : ℕ). x % 2 ^ (w * k)) all ∙ mod-eq_of_lt (pow_pos (w * k))

module _ {lay : Layout} {G : Groups} (fits : Fits lay G) (key : ℕ) where
  -- the field of the key at a constant's place is the index that the selection takes there
  pub index_at : (place : ℕ) → place < length G.constants
      → get_or (selection_at lay G key).indexes place 0 ≡ field_at lay key place
  index_at place h =
      field_of lay lay.constants G.constants (key / 2 ^ lay.rows) place fits.few_constants h
      ∙ ap (λ (x : ℕ). x % 2 ^ lay.index_bits)
      (shr-shr key lay.rows (lay.index_bits * (lay.constants - suc place)))

  -- the fields counted from the lowest
  from_lowest : (j : ℕ) → j < lay.constants
      → key / 2 ^ lay.rows / 2 ^ (lay.index_bits * j) % 2 ^ lay.index_bits
      ≡ field_at lay key (lay.constants - suc j)
  from_lowest j h =
      let e : j ≡ lay.constants - suc (lay.constants - suc j) = omega arith in
      ap (λ (x : ℕ). x % 2 ^ lay.index_bits) (shr-shr key lay.rows (lay.index_bits * j))
      ∙ ap (λ (x : ℕ). key / 2 ^ (lay.rows + lay.index_bits * x) % 2 ^ lay.index_bits) e

  -- a candidate, place by place: each field of a constant below the number of its rows, each unused field 0
  pub candidate_places : ((place : ℕ) → place < length G.constants
      → field_at lay key place < length (rows_at G.constants place))
      → ((place : ℕ) → length G.constants ≤ place → place < lay.constants → field_at lay key place ≡ 0)
      → key % 2 ^ lay.rows < 2 ^ length G.balanced
      → key < 2 ^ (lay.index_bits * lay.constants + lay.rows) → Candidate lay G key
  candidate_places used unused low high =
      record {
        indexes_within =
            places_within G.constants (selection_at lay G key).indexes
            (length_fields_of lay lay.constants G.constants (key / 2 ^ lay.rows) fits.few_constants)
            (λ place h. subst (λ (i : ℕ). i < length (rows_at G.constants place)) (sym (index_at place h))
            (used place h));
        unused_zero =
            fields_zero lay (lay.constants - length G.constants) (key / 2 ^ lay.rows)
            (λ j h. from_lowest j (omega arith) ∙ unused (lay.constants - suc j) (omega arith) (omega arith));
        no_bit_beyond = low;
        no_bit_above = high;
      }

  -- and the other way round
  pub places_candidate : Candidate lay G key
      → ((place : ℕ) → place < length G.constants → field_at lay key place < length (rows_at G.constants place))
      × ((place : ℕ) → length G.constants ≤ place → place < lay.constants → field_at lay key place ≡ 0)
  places_candidate candidate = (
    λ place h. subst (λ (i : ℕ). i < length (rows_at G.constants place)) (index_at place h)
        (within_places candidate.indexes_within place h),
    λ place above within.
        ap (λ (x : ℕ). x % 2 ^ lay.index_bits)
        (sym (shr-shr key lay.rows (lay.index_bits * (lay.constants - suc place))))
        ∙ zero_fields lay (lay.constants - length G.constants) (key / 2 ^ lay.rows)
        candidate.unused_zero (lay.constants - suc place) (omega arith),
  )
