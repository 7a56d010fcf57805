-- Rows put at their fixed places leave every other row as it was, and bring no byte that is not theirs.
use Prim.Native.Nat.{ℕ, zero, suc, ◌+◌, ◌*◌, ◌-◌, ◌≤◌, ◌<◌}
use native.Mathlib.Omega.{arith}
use native.Mathlib.Decide.{dec_lt}
use native.Mathlib.Nat.{mul-le-mul_right, suc-mul}
use mathlib.Core.Path.{◌≡◌, refl, sym, ap, ap₂, ◌∙◌}
use mathlib.Core.Logic.{◌⊎◌, inl, inr}
use mathlib.Core.List.{List, [], ◌∷◌, ◌++◌, map, append_assoc}
use lib.ListN.{length, take, drop, set, length-drop}
use lib.Seq.{sets, sets-eq, length-sets, take_at, drop_at, take-set-le, drop-set-lt, drop-set-add, length-take-le}
use Rattle.ac.specs.Lists.{below, NoneAbove}
use Rattle.buffer.specs.Put.{Put}
use Rattle.equation.specs.Flat.{rows_of}
use Rattle.equation.proofs.Flat.{row_at, row_found, rows_snoc}
use Rattle.ac.specs.Limits.{limits}
use Rattle.table.specs.Table.{most_rows, row_start, room_of_rows, row_in}
use Rattle.table.specs.Groups.{Spreads}
use Rattle.table.proofs.Rows.{row_fits, rows_apart}
use Rattle.table.proofs.Lists.{below-same, map_from_last}

-- What stands at one place of a list is not touched by what is put at another.

-- the two parts, each from its start on and so long, have no place in common
abbrev Apart : ℕ → ℕ → ℕ → ℕ → Type 0
Apart start size at many = (start + size ≤ at) ⊎ (at + many ≤ start)

-- one byte
set_apart : (l : List ℕ) (i v start size : ℕ) → Apart start size i 1
    → take size (drop start (set l i v)) ≡ take size (drop start l)
set_apart l i v start size (inl before) =
    let e : i ≡ start + (i - start) = omega arith in
    let far : size ≤ i - start = omega arith in
    ap (λ (k : ℕ). take size (drop start (set l k v))) e
    ∙ ap (take size) (drop-set-add start l (i - start) v)
    ∙ take-set-le size (drop start l) (i - start) v far
set_apart l i v start size (inr after) =
    ap (take size) (drop-set-lt start l i v (let h : i < start = omega arith in h))

-- several bytes
sets_apart : (l : List ℕ) (at : ℕ) (vs : List ℕ) (start size : ℕ) → Apart start size at (length vs)
    → take size (drop start (sets l at vs)) ≡ take size (drop start l)
sets_apart l at [] start size h = refl
sets_apart l at (v ∷ vs) start size (inl before) =
    sets_apart (set l at v) (suc at) vs start size (inl (let h : start + size ≤ suc at = omega arith in h))
    ∙ set_apart l at v start size (inl before)
sets_apart l at (v ∷ vs) start size (inr after) =
    sets_apart (set l at v) (suc at) vs start size (inr (let h : suc at + length vs ≤ start = omega arith in h))
    ∙ set_apart l at v start size (inr (let h : at + 1 ≤ start = omega arith in h))

-- what was put stands there
sets_there : (l : List ℕ) (at : ℕ) (vs : List ℕ) → at + length vs ≤ length l
    → take (length vs) (drop at (sets l at vs)) ≡ vs
sets_there l at vs room =
    ap (λ s. take (length vs) (drop at s)) (sets-eq vs l at room ∙ append_assoc (take at l) vs rest)
    ∙ ap (take (length vs)) (drop_at (take at l) (vs ++ rest) at
    (length-take-le at l (let h : at ≤ length l = omega arith in h)))
    ∙ take_at vs rest (length vs) refl
  where
    rest : List ℕ
    rest = drop (at + length vs) l

-- Where no byte is above a number, and none that is put, none is afterwards.

-- one byte
set_none_above : {most v : ℕ} (l : List ℕ) (at : ℕ) → NoneAbove most l → v ≤ most → NoneAbove most (set l at v)
set_none_above [] at all small i = all i
set_none_above (x ∷ l) zero all small zero = small
set_none_above (x ∷ l) zero all small (suc i) = all (suc i)
set_none_above (x ∷ l) (suc at) all small zero = all 0
set_none_above (x ∷ l) (suc at) all small (suc i) = set_none_above l at (λ i. all (suc i)) small i

-- several bytes
sets_none_above : {most : ℕ} (l : List ℕ) (at : ℕ) (vs : List ℕ) → NoneAbove most l → NoneAbove most vs
    → NoneAbove most (sets l at vs)
sets_none_above l at [] all small = all
sets_none_above l at (v ∷ vs) all small =
    sets_none_above (set l at v) (suc at) vs (set_none_above l at all (small 0)) (λ i. small (suc i))

-- rows that stand one after the other, each by its index
rows_by_index : (k n : ℕ) (bytes : List ℕ) → rows_of k n bytes ≡ map (row_at k bytes) (below n)
rows_by_index k zero bytes = refl
rows_by_index k (suc n) bytes =
    rows_snoc k n bytes
    ∙ ap₂ {C = List (List ℕ)} (λ rs i. rs ++ (row_at k bytes i ∷ [])) (rows_by_index k n bytes)
    (let e : n ≡ 0 + n = omega arith in e)
    ∙ sym (map_from_last (row_at k bytes) 0 n)

-- the bytes of a row that is to be put, within those found
module _ {i count : ℕ} (places : ℕ) (found : List ℕ) (within : i < count)
    (room : count * places ≤ length found) where
  pub row_within : i * places + places ≤ length found
  row_within = omega (arith, suc-mul i places, mul-le-mul_right places within)

  pub row_long : length (row_at places found i) ≡ places
  row_long = length-take-le places (drop (i * places) found)
      (omega (arith, length-drop (i * places) found, row_within))

  pub row_part : take (i * places + places - i * places) (drop (i * places) found) ≡ row_at places found i
  row_part = ap (λ n. take n (drop (i * places) found))
      (let e : i * places + places - i * places ≡ places = omega arith in e)

-- The turns of spreading.

-- what is known before turn i
pub record SpreadTo (places group : ℕ) (found before : List ℕ) (i : ℕ) (rows : List ℕ) : Type 0 where
  pub size : length rows ≡ room_of_rows
  pub stored : (j : ℕ) → j < i → row_in places rows group j ≡ row_at places found j
  pub others : (other j : ℕ) → (other ≡ group → ⊥) → j < most_rows other
      → row_in places rows other j ≡ row_in places before other j
  pub none_above : (most : ℕ) → ((j : ℕ) → j < i → NoneAbove most (row_at places found j)) → NoneAbove most before
      → NoneAbove most rows

-- a row of another group
others_apart : {places g h i j : ℕ} → places ≤ limits.variables → (h ≡ g → ⊥) → i < most_rows g → j < most_rows h
    → Apart (row_start h j) places (row_start g i) places
others_apart {places} {g} {h} {i} {j} narrow differs few few' = go (rows_apart differs few few')
  where
    go : Apart (row_start h j) limits.variables (row_start g i) limits.variables
        → Apart (row_start h j) places (row_start g i) places
    go (inl before) = inl (omega (arith, before))
    go (inr after) = inr (omega (arith, after))

module _ {places group : ℕ} {found before : List ℕ} (narrow : places ≤ limits.variables)
    (few_groups : group ≤ limits.constants) where
  -- one row more
  pub spread_next : {i : ℕ} {rows after bytes : List ℕ} {next : ℕ} → i < most_rows group → length bytes ≡ places
      → bytes ≡ row_at places found i
      → SpreadTo places group found before i rows → Put rows (row_start group i) bytes next after
      → SpreadTo places group found before (i + 1) after
  spread_next {i} {rows} {after} {bytes} fits long row known put =
      record {
        size = ap length put.stored ∙ length-sets rows at bytes ∙ known.size;
        stored = λ j h. by_turn j h (dec_lt j i);
        others = λ other j differs h. kept other j (others_apart narrow differs fits h)
            ∙ known.others other j differs h;
        none_above = λ most rows_found all. rw put.stored (sets_none_above rows at bytes
            (known.none_above most (λ j h. rows_found j (omega arith)) all) (rw row (rows_found i (omega arith))));
      }
    where
      at : ℕ
      at = row_start group i

      kept : (other j : ℕ) → Apart (row_start other j) places at places
          → row_in places after other j ≡ row_in places rows other j
      kept other j apart =
          ap (λ l. take places (drop (row_start other j) l)) put.stored
          ∙ sets_apart rows at bytes (row_start other j) places (rw long apart)

      there : row_in places after group i ≡ bytes
      there =
          ap (λ l. take places (drop at l)) put.stored
          ∙ ap (λ k. take k (drop at (sets rows at bytes))) (sym long)
          ∙ sets_there rows at bytes (omega (arith, long, known.size, row_fits group few_groups fits))

      by_turn : (j : ℕ) → j < i + 1 → Dec (j < i) → row_in places after group j ≡ row_at places found j
      by_turn j h (yes earlier) = kept group j (inl (omega arith)) ∙ known.stored j earlier
      by_turn j h (no not-Earlier) =
          let same : j ≡ i = omega arith in
          ap (row_in places after group) same ∙ there ∙ row ∙ ap (row_at places found) (sym same)

-- after the last turn
pub spread_all : {places group count : ℕ} {found before rows : List ℕ} → count ≤ most_rows group
    → SpreadTo places group found before count rows
    → Spreads places group count found before rows
spread_all {places} {group} {count} {found} {before} {rows} few known =
    record {
      stored = below-same (row_in places rows group) (row_at places found) count known.stored
          ∙ sym (rows_by_index places count found);
      others = λ other n differs h.
          below-same (row_in places rows other) (row_in places before other) n
          (λ j l. known.others other j differs (let k : j < most_rows other = omega (arith, l, h) in k));
      none_above = λ most rows_found. known.none_above most
          (λ j h. rows_found (row_at places found j) (row_found places count found j h));
    }
