-- Keys and the list (document 01, "From sides to equations").
use Rattle.std.specs.Prelude.{ℕ, zero, suc, ◌+◌, ◌*◌, ◌/◌, ◌%◌, ◌^◌, ◌<◌, ◌≤◌, ◌-◌, ◌≡◌, Bool, true, cond, length, ltb, eqb}
use mathlib.Core.List.{List, [], ◌∷◌, map, Memᴰ}
use Rattle.ac.specs.Lists.{filter, flat_map, below}
use Rattle.ac.specs.Limits.{limits}
use Rattle.ac.specs.Pair.{Mode}
use Rattle.ac.specs.Rows.{Group, Groups}
use Rattle.ac.specs.Selection.{Selection, SelectionOf, Within, admissible}

-- How a key is laid out, and which byte is the first new variable. `rows` is how many balanced rows the low
-- part of a key holds.
pub record Layout : Type 0 where
  pub constants : ℕ
  pub index_bits : ℕ
  pub rows : ℕ
  pub new : ℕ

-- a field of 4 bits for each unbalanced constant that a pair may have, above a low bit for each balanced row;
-- n0 is byte 192
abbrev pub layout : Layout
layout = record { constants = limits.constants; index_bits = 4; rows = limits.balanced_rows; new = 192 }

-- the row indexes as one number: the lowest constant's in the highest field, unused fields 0
abbrev pub fields : Layout → ℕ → List ℕ → ℕ
fields lay zero is = 0
fields lay (suc k) [] = 0
fields lay (suc k) (i ∷ is) = i * 2 ^ (lay.index_bits * k) + fields lay k is

-- the mask: bit i is balanced row i
abbrev pub mask : List Bool → ℕ
mask [] = 0
mask (t ∷ ts) = cond t 1 0 + 2 * mask ts

-- A selection is named by its key: the fields of the indexes above the mask.
abbrev pub key_of : Layout → Selection → ℕ
key_of lay s = fields lay lay.constants s.indexes * 2 ^ lay.rows + mask s.takes

-- bit i of a number
abbrev pub bit : ℕ → ℕ → Bool
bit m i = eqb (m / 2 ^ i % 2) 1

-- the lowest n bits of a mask, bit 0 first
abbrev pub bits : ℕ → ℕ → List Bool
bits n m = map (bit m) (below n)

-- the index in the field of each constant, that of the lowest constant first, in a number of k fields
abbrev pub fields_of : Layout → ℕ → List Group → ℕ → List ℕ
fields_of lay k [] m = []
fields_of lay zero (g ∷ gs) m = []
fields_of lay (suc k) (g ∷ gs) m = m / 2 ^ (lay.index_bits * k) % 2 ^ lay.index_bits ∷ fields_of lay k gs m

-- a key taken apart
abbrev pub selection_at : Layout → Groups → ℕ → Selection
selection_at lay G key =
    record {
      indexes = fields_of lay lay.constants G.constants (key / 2 ^ lay.rows);
      takes = bits (length G.balanced) key;
    }

-- the field of a key that belongs to the constant at a place; the first constant's is the highest
abbrev pub field_at : Layout → ℕ → ℕ → ℕ
field_at lay key place =
    key / 2 ^ (lay.rows + lay.index_bits * (lay.constants - suc place)) % 2 ^ lay.index_bits

-- A candidate has row indexes within their groups and no bit beyond the balanced rows: each field below its
-- group's size, the unused fields, which are the lowest, 0, and nothing above the fields.
pub record Candidate (lay : Layout) (G : Groups) (key : ℕ) : Type 0 where
  pub indexes_within : Within G.constants (selection_at lay G key).indexes
  pub unused_zero : key / 2 ^ lay.rows % 2 ^ (lay.index_bits * (lay.constants - length G.constants)) ≡ 0
  pub no_bit_beyond : key % 2 ^ lay.rows < 2 ^ length G.balanced
  pub no_bit_above : key < 2 ^ (lay.index_bits * lay.constants + lay.rows)

-- every tuple of row indexes, ascending
abbrev pub tuples : List Group → List (List ℕ)
tuples [] = [] ∷ []
tuples (g ∷ gs) = flat_map (λ i. map (λ is. i ∷ is) (tuples gs)) (below (length g.rows))

-- every selection: for each tuple of indexes ascending the masks ascending
abbrev pub selections : Groups → List Selection
selections G =
    flat_map (λ is. map (λ m. record { indexes = is; takes = bits (length G.balanced) m })
    (below (2 ^ length G.balanced))) (tuples G.constants)

-- "The list is ascending by key": the admissible selections in that order.
abbrev pub listed : Mode → Layout → List ℕ → List ℕ → Groups → List Selection
listed M lay L R G = filter (admissible M lay.new L R G) (selections G)

-- and the keys alone: what document 01 calls the list
abbrev pub keys : Mode → Layout → List ℕ → List ℕ → Groups → List ℕ
keys M lay L R G = map (key_of lay) (listed M lay L R G)

-- the key of an admissible selection of the groups; proofs/Listed.antt shows that those are the keys of the list
pub record Listed (M : Mode) (lay : Layout) (L R : List ℕ) (G : Groups) (key : ℕ) : Type 0 where
  pub selection : Selection
  pub of_the_groups : SelectionOf G selection
  pub is_admissible : admissible M lay.new L R G selection ≡ true
  pub its_key : key ≡ key_of lay selection

-- where to begin: the start, or after a key
pub data Beginning : Type 0 where
  start : Beginning
  after : ℕ → Beginning

-- the keys of the list that come after the beginning
abbrev pub remaining : Beginning → List ℕ → List ℕ
remaining start ks = ks
remaining (after k) ks = filter (ltb k) ks

-- the limits under which a key names one selection: as many fields as constants, each index in its field, a
-- bit for each balanced row
pub record Fits (lay : Layout) (G : Groups) : Type 0 where
  pub few_constants : length G.constants ≤ lay.constants
  pub few_rows : (g : Group) → Memᴰ g G.constants → length g.rows ≤ 2 ^ lay.index_bits
  pub few_balanced : length G.balanced ≤ lay.rows
