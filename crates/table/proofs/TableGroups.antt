-- What a table says of its groups: their sizes, their constants, their entries, and where each of the
-- constants' groups stands.
use Prim.Native.Nat.{ℕ, zero, suc, ◌+◌, ◌<◌, ◌≤◌}
use native.Mathlib.Omega.{arith}
use mathlib.Core.Path.{◌≡◌, refl, ap, subst, ◌∙◌}
use mathlib.Core.List.{List, [], ◌∷◌, map, Memᴰ}
use lib.ListN.{length, get_or, take, drop, length-map}
use lib.Seq.{length-take-le, get_or-take, get_or-drop}
use Rattle.ac.specs.Lists.{from}
use Rattle.ac.specs.Limits.{limits}
use Rattle.ac.specs.Rows.{Group, rows_at}
use Rattle.ac.proofs.Keys.{length_from}
use Rattle.table.specs.Table.{row_start, row_at, group_at, groups_from, groups_in, InRoom}
use Rattle.table.specs.Masks.{group, Sized}
use Rattle.table.specs.declared.Table.{Table}

-- a table is in its room
pub in_room : (t : Table) → InRoom t
in_room t =
    record {
      places_fit = t.places_fit;
      constants_fit = t.constants_fit;
      constants_held = t.constants_held;
      sizes_fit = t.sizes_fit;
      entries_fit = t.entries_fit;
    }

module _ (t : Table) where
  -- a group has as many rows as its size says
  pub length_group_at : (g : ℕ) → length (group_at t g) ≡ get_or t.sizes g 0
  length_group_at g = length-map (from 0 (get_or t.sizes g 0)) (row_at t g) ∙ length_from 0 (get_or t.sizes g 0)

  -- there is a group for each constant, and it is that constant's
  pub length_groups_from : (g : ℕ) (cs : List ℕ) → length (groups_from t g cs) ≡ length cs
  length_groups_from g [] = refl
  length_groups_from g (c ∷ cs) = ap suc (length_groups_from (suc g) cs)

  pub constants_groups_from : (g : ℕ) (cs : List ℕ) → map (λ (h : Group). h.constant) (groups_from t g cs) ≡ cs
  constants_groups_from g [] = refl
  constants_groups_from g (c ∷ cs) = ap (λ l. c ∷ l) (constants_groups_from (suc g) cs)

  -- there is a group for each unbalanced constant
  pub how_many_constants : InRoom t → length (groups_in t).constants ≡ t.unbalanced
  how_many_constants within =
      length_groups_from 1 (take t.unbalanced t.constants)
      ∙ length-take-le t.unbalanced t.constants within.constants_held

  -- where one of the constants' groups stands: its constant's place, and its group in the table
  pub record Stands (first : ℕ) (cs : List ℕ) (h : Group) : Type 0 where
    pub place : ℕ
    pub within : place < length cs
    pub its_constant : h.constant ≡ get_or cs place 0
    pub its_rows : h.rows ≡ group_at t (first + place)

  -- each of them stands somewhere
  pub groups_from_stands : (first : ℕ) (cs : List ℕ) {h : Group} → Memᴰ h (groups_from t first cs)
      → Stands first cs h
  groups_from_stands first [] {h = h} x' = elim x' [ ]
  groups_from_stands first (c ∷ cs) (Memᴰ.head e) =
      record {
        place = 0;
        within = omega arith;
        its_constant = ap (λ (h : Group). h.constant) e;
        its_rows = ap (λ (h : Group). h.rows) e ∙ ap (group_at t) (let z : first ≡ first + 0 = omega arith in z);
      }
  groups_from_stands first (c ∷ cs) {h} (Memᴰ.tail m) = one_further (groups_from_stands (suc first) cs m)
    where
      one_further : Stands (suc first) cs h → Stands first (c ∷ cs) h
      one_further s =
          record {
            place = suc s.place;
            within = omega (arith, s.within);
            its_constant = s.its_constant;
            its_rows = s.its_rows ∙ ap (group_at t)
                (let z : suc first + s.place ≡ first + suc s.place = omega arith in z);
          }

-- none of the constants' groups of a table has more rows than a constant may have
pub few_rows : {t : Table} → InRoom t → {h : Group} → Memᴰ h (groups_in t).constants
    → length h.rows ≤ limits.constant_rows
few_rows {t} within m =
    let s = groups_from_stands t 1 (take t.unbalanced t.constants) m in
    let few : get_or t.sizes (1 + s.place) 0 ≤ limits.constant_rows =
    subst (λ k. get_or t.sizes k 0 ≤ limits.constant_rows)
    (let e : suc s.place ≡ 1 + s.place = omega arith in e) (within.sizes_fit (suc s.place)) in
    omega (arith, ap length s.its_rows, length_group_at t (1 + s.place), few)

-- what stands at a place of a list made of the numbers from a on
get_or-map-from {ℓ} : {A : Type ℓ} (f : ℕ → A) (a n i : ℕ) (d : A) → i < n → get_or (map f (from a n)) i d ≡ f (a + i)
get_or-map-from f a zero i d h = absurd (omega arith)
get_or-map-from f a (suc n) zero d h = ap f (omega arith)
get_or-map-from f a (suc n) (suc i) d h = get_or-map-from f (suc a) n i d (omega arith) ∙ ap f (omega arith)

module _ (t : Table) where
  -- the group at a place among the constants'
  pub rows_at_groups_from : (a : ℕ) (cs : List ℕ) (g : ℕ) → g < length cs
      → rows_at (groups_from t a cs) g ≡ group_at t (a + g)
  rows_at_groups_from a [] g h = absurd (omega arith)
  rows_at_groups_from a (c ∷ cs) zero h = ap (group_at t) (omega arith)
  rows_at_groups_from a (c ∷ cs) (suc g) h =
      rows_at_groups_from (suc a) cs g (omega arith) ∙ ap (group_at t) (omega arith)

  pub rows_at_beyond : (a : ℕ) (cs : List ℕ) (g : ℕ) → length cs ≤ g → rows_at (groups_from t a cs) g ≡ []
  rows_at_beyond a [] g h = refl
  rows_at_beyond a (c ∷ cs) zero h = absurd (omega arith)
  rows_at_beyond a (c ∷ cs) (suc g) h = rows_at_beyond (suc a) cs g (omega arith)

  -- an entry of a row
  pub entry_at : (g i p : ℕ) → i < get_or t.sizes g 0 → p < t.places
      → get_or (get_or (group_at t g) i []) p 0 ≡ get_or t.rows (row_start g i + p) 0
  entry_at g i p row place =
      ap (λ r. get_or r p 0) (get_or-map-from (row_at t g) 0 (get_or t.sizes g 0) i [] row
      ∙ ap (row_at t g) (omega arith))
      ∙ get_or-take t.places (drop (row_start g i) t.rows) p 0 place ∙ get_or-drop (row_start g i) t.rows p 0

module _ {t : Table} (within : InRoom t) where
  -- how many constants the table's groups are taken of
  pub how_many : length (take t.unbalanced t.constants) ≡ t.unbalanced
  how_many = length-take-le t.unbalanced t.constants within.constants_held

  -- the balanced rows are group 0 of the table, and those of the constants the groups after it
  pub group_in : (g : ℕ) → g ≤ t.unbalanced → group (groups_in t) g ≡ group_at t g
  group_in zero h = refl
  group_in (suc g) h = rows_at_groups_from t 1 (take t.unbalanced t.constants) g (omega (arith, how_many))
      ∙ ap (group_at t) (omega arith)

  pub table_sized : Sized t.sizes t.unbalanced (groups_in t)
  table_sized = record {
    how_many_constants = how_many_constants t within;
    a_size_each = λ g h. ap length (group_in g h) ∙ length_group_at t g;
  }
