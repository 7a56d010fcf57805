-- The rows of a table put into a buffer one after the other.
use Prim.Native.Nat.{ℕ, zero, suc, ◌+◌, ◌*◌, ◌-◌, ◌≤◌, ◌<◌}
use native.Mathlib.Omega.{arith}
use native.Mathlib.Nat.{suc-mul, zero-mul, mul-le-mul_right}
use native.Mathlib.Numerals.{add-one}
use mathlib.Core.Path.{◌≡◌, refl, sym, ap, ◌∙◌}
use mathlib.Core.List.Memᴰ
use mathlib.Core.List.{List, [], ◌∷◌, ◌++◌, map, append-nil, Memᴰ}
use lib.ListN.{length, get_or, take, drop, length-append, length-drop, length-map}
use lib.Seq.{length-take-le}
use Rattle.ac.specs.Lists.{from, below, flat_map}
use Rattle.ac.specs.Limits.{limits}
use Rattle.ac.specs.Rows.{Group}
use Rattle.buffer.specs.Put.{Put}
use Rattle.buffer.proofs.Puts.{put_then, put_as, put-length}
use Rattle.table.specs.Table.{most_rows, group_start, row_start, room_of_rows, row_in, group_in, group_at, groups_from, groups_in}
use Rattle.table.specs.declared.Table.{Table}
use Rattle.table.proofs.TableGroups.{in_room, length_group_at, length_groups_from, how_many_constants}
use Rattle.solver.specs.Rows.{rows_buffer, size, all_rows, bytes_of}
use Rattle.ac.proofs.Members.{flat_map_append}
use Rattle.table.proofs.Lists.{map_from_last, flat_map_from_last}
use Rattle.table.proofs.Rows.{row_fits, group_room, group_within}
use Rattle.ac.proofs.Keys.{length_from}
use Rattle.ac.proofs.Members.{below_members}

-- Rows of so many places each, as bytes.

-- each row has so many places
abbrev pub AllOf : ℕ → List (List ℕ) → Type 0
AllOf places rows = (row : List ℕ) → Memᴰ row rows → length row ≡ places

-- then there are as many bytes as rows times places
pub length_bytes : (places : ℕ) (rows : List (List ℕ)) → AllOf places rows
    → length (bytes_of rows) ≡ length rows * places
length_bytes places [] long = sym (zero-mul places)
length_bytes places (row ∷ rows) long =
    omega (
      arith,
      length-append row (bytes_of rows),
      long row (Memᴰ.head refl),
      length_bytes places rows (λ r m. long r (Memᴰ.tail m)),
      suc-mul (length rows) places,
    )

-- Rows at their places in an array.

-- one row more
bytes_next : (places group : ℕ) (rows : List ℕ) (i : ℕ)
    → bytes_of (group_in places rows group (suc i)) ≡ bytes_of (group_in places rows group i)
    ++ row_in places rows group i
bytes_next places group rows i =
    ap bytes_of (map_from_last (row_in places rows group) 0 i)
    ∙ flat_map_append (λ row. row) (group_in places rows group i) (row_in places rows group (0 + i) ∷ [])
    ∙ ap (λ l. bytes_of (group_in places rows group i) ++ l)
    (append-nil (row_in places rows group (0 + i))
    ∙ ap (row_in places rows group) (let e : 0 + i ≡ i = omega arith in e))

module _ (rows : List ℕ) {places group : ℕ} (size : length rows ≡ room_of_rows) (narrow : places ≤ limits.variables)
    (few_groups : group ≤ limits.constants) where
  -- a row has a byte for each place
  row_length : (i : ℕ) → i < most_rows group → length (row_in places rows group i) ≡ places
  row_length i h = length-take-le places (drop (row_start group i) rows)
      (omega (arith, length-drop (row_start group i) rows, row_fits group few_groups h))

  -- and a group as many bytes as rows times places
  pub bytes_length : (count : ℕ) → count ≤ most_rows group
      → length (bytes_of (group_in places rows group count)) ≡ count * places
  bytes_length count few =
      length_bytes places (group_in places rows group count) each
      ∙ ap (λ n. n * places) (length-map (below count) (row_in places rows group) ∙ length_from 0 count)
    where
      each : AllOf places (group_in places rows group count)
      each row member =
          let origin = Memᴰ.of_map (row_in places rows group) (below count) member in
          ap length (sym origin.2) ∙ row_length origin.0 (omega (arith, below_members count origin.1))

  -- a row behind those before it
  pub next_fits : {i count at next : ℕ} {out mid : List ℕ} → i < count → count ≤ most_rows group
      → Put out at (bytes_of (group_in places rows group i)) next mid
      → at + count * places ≤ length out → next + length (row_in places rows group i) ≤ length mid
  next_fits {i} {count} {at} {next} {out} {mid} within few put room =
      omega (
        arith,
        put.place,
        bytes_length i (let h : i ≤ most_rows group = omega arith in h),
        row_length i (let h : i < most_rows group = omega arith in h),
        suc-mul i places,
        mul-le-mul_right places within,
        put-length put,
      )

  -- the part of the array that a row is
  pub row_part : (i : ℕ) {start : ℕ} → start ≡ row_start group i
      → take (start + places - start) (drop start rows) ≡ row_in places rows group i
  row_part i {start} begins =
      ap (λ n. take n (drop start rows)) (let e : start + places - start ≡ places = omega arith in e)
      ∙ ap (λ n. take places (drop n rows)) begins

-- one row more is put
pub put_row : (places group : ℕ) (rows : List ℕ) (i : ℕ) {at next n : ℕ} {out mid after bytes : List ℕ}
    → Put out at (bytes_of (group_in places rows group i)) next mid → bytes ≡ row_in places rows group i
    → Put mid next bytes n after → Put out at (bytes_of (group_in places rows group (i + 1))) n after
put_row places group rows i before same put =
    put_as
    (ap (λ l. bytes_of (group_in places rows group i) ++ l) same ∙ sym (bytes_next places group rows i)
    ∙ ap (λ k. bytes_of (group_in places rows group k)) (sym (add-one i)))
    (put_then before put)

-- The groups of a table.

-- the groups before one
abbrev pub rows_before : Table → ℕ → List (List ℕ)
rows_before t group = flat_map (group_at t) (below group)

-- one group more is put
put-group : (t : Table) (group : ℕ) {at next n : ℕ} {out mid after : List ℕ}
    → Put out at (bytes_of (rows_before t group)) next mid
    → Put mid next (bytes_of (group_at t group)) n after → Put out at (bytes_of (rows_before t (group + 1))) n after
put-group t group before put =
    put_as
    (sym (flat_map_append (λ row. row) (rows_before t group) (group_at t group))
    ∙ ap bytes_of
    (ap (λ k. rows_before t group ++ group_at t k) (let e : group ≡ 0 + group = omega arith in e)
    ∙ sym (flat_map_from_last (group_at t) 0 group)
    ∙ ap (rows_before t) (sym (add-one group))))
    (put_then before put)

-- and keeps within its room
pub group_put : (t : Table) → length t.rows ≡ room_of_rows → {group : ℕ} → group ≤ t.unbalanced
    → {next n : ℕ} {out mid after : List ℕ} → next ≤ group_start group
    → Put out 0 (bytes_of (rows_before t group)) next mid → Put mid next (bytes_of (group_at t group)) n after
    → (n ≤ group_start (group + 1)) × Put out 0 (bytes_of (rows_before t (group + 1))) n after
group_put t size {group} used {next} room before put =
    let few : group ≤ limits.constants = omega (arith, t.constants_fit) in (
      omega (
        arith,
        put.place,
        bytes_length t.rows size t.places_fit few (get_or t.sizes group 0) (t.sizes_fit group),
        group_room group (t.sizes_fit group) t.places_fit,
        ap group_start (add-one group),
      ),
      put-group t group before put,
    )

-- the rows of the constants' groups stand by number
rows_groups_from : (t : Table) (first : ℕ) (cs : List ℕ)
    → flat_map (λ (g : Group). g.rows) (groups_from t first cs) ≡ flat_map (group_at t) (from first (length cs))
rows_groups_from t first [] = refl
rows_groups_from t first (c ∷ cs) = ap (λ l. group_at t first ++ l) (rows_groups_from t (suc first) cs)

-- all rows are those of the groups up to the last constant's
all_rows_lem : (t : Table) → all_rows (groups_in t) ≡ rows_before t (t.unbalanced + 1)
all_rows_lem t =
    ap (λ l. group_at t 0 ++ l)
    (rows_groups_from t 1 (take t.unbalanced t.constants)
    ∙ ap (λ n. flat_map (group_at t) (from 1 n))
    (length-take-le t.unbalanced t.constants t.constants_held))
    ∙ ap (rows_before t) (sym (add-one t.unbalanced))

-- after the last group all rows are put
pub all_put : (t : Table) → {next : ℕ} {out after : List ℕ} → next ≤ group_start (t.unbalanced + 1)
    → Put out 0 (bytes_of (rows_before t (t.unbalanced + 1))) next after
    → Put out 0 (bytes_of (all_rows (groups_in t))) next after × (next ≤ rows_buffer)
all_put t room put = (
  put_as (ap bytes_of (sym (all_rows_lem t))) put,
  omega (arith, group_within (t.unbalanced + 1) (omega (arith, t.constants_fit))),
)

-- The sizes of the constants' groups.

-- each group has the size beside it
size-from : (t : Table) (first : ℕ) (cs : List ℕ) (i : ℕ) → i < length cs
    → get_or (map (λ (g : Group). length g.rows) (groups_from t first cs)) i 0 ≡ get_or t.sizes (first + i) 0
size-from t first [] i h = absurd (omega arith)
size-from t first (c ∷ cs) zero h =
    length_group_at t first ∙ ap (λ g. get_or t.sizes g 0) (let e : first ≡ first + 0 = omega arith in e)
size-from t first (c ∷ cs) (suc i) h =
    size-from t (suc first) cs i (omega arith)
    ∙ ap (λ g. get_or t.sizes g 0) (let e : suc first + i ≡ first + suc i = omega arith in e)

module _ (t : Table) where
  abbrev used : List ℕ
  used = take t.unbalanced t.constants

  -- the size of a constant that is there
  pub size_there : (place : ℕ) → place < t.unbalanced → get_or t.sizes (place + 1) 0 ≡ size (groups_in t) place
  size_there place h =
      sym
      (size-from t 1 used place (omega (arith, how_many_constants t (in_room t), length_groups_from t 1 used))
      ∙ ap (λ g. get_or t.sizes g 0) (let e : 1 + place ≡ place + 1 = omega arith in e))
