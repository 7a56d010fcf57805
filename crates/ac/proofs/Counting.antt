-- How many selections reach every variable, worked out from which rows reach which variables (document 02, R-7): it is
-- the length of the list (`keys_counted`), and at most the number of all selections (`keys_at_most`).
use Prim.Native.Nat.{ℕ, zero, suc, ◌+◌, ◌*◌, ◌^◌, ◌≤◌}
use native.Mathlib.Omega.{arith}
use native.Mathlib.Nat.{le_trans, le_of_eq, mul_comm, mul-le-mul, mul-le-mul_left, pow-suc}
use mathlib.Core.Path.{◌≡◌, refl, sym, ap, ap₂, ◌∙◌}
use mathlib.Core.Bool.{Bool, true, false, not, cond, ◌&&◌, ◌||◌, and-true, and_assoc}
use mathlib.Core.List.{List, [], ◌∷◌, ◌++◌, map, Memᴰ}
use lib.ListN.{length, get_or, length-map}
use lib.Dec.{ltb}
use lib.Pow.{pow-add, pow_mono, pow_pos}
use Rattle.ac.specs.Lists.{below, from, every}
use Rattle.ac.specs.Pair.{Mode, variables}
use Rattle.ac.specs.Rows.{Group, Groups}
use Rattle.ac.specs.Selection.{Selection, Taken, taken_rows, taken_balanced, taken, reached, all_reached, all_taken, admissible}
use Rattle.ac.specs.Keys.{Layout, Fits, bits, key_of, tuples, selections, listed, keys}
use Rattle.ac.specs.Counting.{how_many, misses, rows_missing, tuples_missing, selections_missing, selections_reaching, admissible_count, product, sizes_product, selection_count}
use Rattle.ac.proofs.Keys.{bits_next, length-bits}
use Rattle.ac.proofs.HowMany.{how_many_next, how_many_same, how_many_most, how_many_all, how_many_split, how_many_if, how_many_map, how_many_flat_map, how_many_places, how_many_halves}

-- Tuples of indexes and sets of balanced rows are taken independently.

-- the selection of a tuple and truth values
abbrev selection_with : List ℕ → List Bool → Selection
selection_with is ts = record { indexes = is; takes = ts }

-- how many sets of balanced rows pass a test
abbrev sets_passing : ℕ → (List Bool → Bool) → ℕ
sets_passing n test = how_many (λ m. test (bits n m)) (below (2 ^ n))

selections_apart : (G : Groups) (test : Selection → Bool) (first : List ℕ → Bool) (second : List Bool → Bool)
    → ((is : List ℕ) (ts : List Bool) → test (selection_with is ts) ≡ (first is && second ts))
    → how_many test (selections G)
    ≡ how_many first (tuples G.constants) * sets_passing (length G.balanced) second
selections_apart G test first second apart =
    how_many_flat_map test (λ is. map (λ m. selection_with is (bits n m)) (below (2 ^ n))) first (sets_passing n second)
    of_tuple (tuples G.constants)
  where
    n : ℕ
    n = length G.balanced

    of_tuple : (is : List ℕ)
        → how_many test (map (λ m. selection_with is (bits n m)) (below (2 ^ n)))
        ≡ cond (first is) (sets_passing n second) 0
    of_tuple is =
        how_many_map test (λ m. selection_with is (bits n m)) (below (2 ^ n))
        ∙ how_many_same (λ m. apart is (bits n m)) (below (2 ^ n))
        ∙ how_many_if (first is) (λ m. second (bits n m)) (below (2 ^ n))

-- The sets of balanced rows, where each row may be taken, left out, or both, by a test of its own.
abbrev agrees : (List ℕ → Bool → Bool) → List (List ℕ) → List Bool → Bool
agrees may [] ts = true
agrees may (r ∷ rs) [] = true
agrees may (r ∷ rs) (t ∷ ts) = may r t && agrees may rs ts

sets_agreeing : (may : List ℕ → Bool → Bool) (rows : List (List ℕ))
    → sets_passing (length rows) (agrees may rows)
    ≡ product (map (λ r. cond (may r false) 1 0 + cond (may r true) 1 0) rows)
sets_agreeing may [] = refl
sets_agreeing may (r ∷ rs) =
    ap (λ (k : ℕ). how_many (λ m. agrees may (r ∷ rs) (bits (suc n) m)) (from 0 k)) (pow-suc 2 n ∙ mul_comm (2 ^ n) 2)
    ∙ how_many_halves (λ m. agrees may (r ∷ rs) (bits (suc n) m)) 0 (2 ^ n)
    ∙ ap₂ (λ (a b : ℕ). a + b) (half false {f = λ m. 2 * m} (λ m. omega arith)) (half true (λ m. refl))
    ∙ both (may r false) (may r true)
    ∙ ap (λ (k : ℕ). (cond (may r false) 1 0 + cond (may r true) 1 0) * k) (sets_agreeing may rs)
  where
    n : ℕ
    n = length rs

    half : (t : Bool) {f : ℕ → ℕ} → ((m : ℕ) → f m ≡ cond t 1 0 + 2 * m)
        → how_many (λ m. agrees may (r ∷ rs) (bits (suc n) (f m))) (below (2 ^ n))
        ≡ cond (may r t) (sets_passing n (agrees may rs)) 0
    half t e =
        how_many_same (λ m. ap (λ k. agrees may (r ∷ rs) (bits (suc n) k)) (e m)
        ∙ ap (agrees may (r ∷ rs)) (bits_next t n m)) (below (2 ^ n))
        ∙ how_many_if (may r t) (λ m. agrees may rs (bits n m)) (below (2 ^ n))

    both : (a b : Bool)
        → cond a (sets_passing n (agrees may rs)) 0 + cond b (sets_passing n (agrees may rs)) 0
        ≡ (cond a 1 0 + cond b 1 0) * sets_passing n (agrees may rs)
    both true true = omega arith
    both true false = omega arith
    both false true = omega arith
    both false false = omega arith

-- Rows that reach none of some places, and selections that do not.

-- none of the places is reached
abbrev missed : List ℕ → List Taken → Bool
missed places ts = every (λ i. not (reached ts i)) places

-- truth values in another order
in_turn : (a b c d : Bool) → (a && b && (c && d)) ≡ (a && c && (b && d))
in_turn true true c d = refl
in_turn true false true d = refl
in_turn true false false d = refl
in_turn false b c d = refl

not_or : (a b : Bool) → not (a || b) ≡ (not a && not b)
not_or true b = refl
not_or false b = refl

missed_none : (places : List ℕ) → missed places [] ≡ true
missed_none [] = refl
missed_none (i ∷ places) = missed_none places

missed_next : (places : List ℕ) (t : Taken) (ts : List Taken)
    → missed places (t ∷ ts) ≡ (misses places t.row && missed places ts)
missed_next [] t ts = refl
missed_next (i ∷ places) t ts =
    ap₂ (λ (a b : Bool). a && b) (not_or (ltb 0 (get_or t.row i 0)) (reached ts i)) (missed_next places t ts)
    ∙ in_turn (not (ltb 0 (get_or t.row i 0))) (not (reached ts i)) (misses places t.row) (missed places ts)

missed_append : (places : List ℕ) (ts us : List Taken)
    → missed places (ts ++ us) ≡ (missed places ts && missed places us)
missed_append places [] us = ap (λ b. b && missed places us) (sym (missed_none places))
missed_append places (t ∷ ts) us =
    missed_next places t (ts ++ us)
    ∙ ap (λ b. misses places t.row && b) (missed_append places ts us)
    ∙ sym (and_assoc (misses places t.row) (missed places ts) (missed places us))
    ∙ ap (λ b. b && missed places us) (sym (missed_next places t ts))

-- of the tuples: one of the rows of each constant that reach none
tuples_missed : (places : List ℕ) (gs : List Group)
    → how_many (λ is. missed places (taken_rows gs is)) (tuples gs) ≡ tuples_missing places gs
tuples_missed places [] = how_many_same {other = λ is. true} (λ is. missed_none places) ([] ∷ [])
tuples_missed places (g ∷ gs) =
    how_many_flat_map (λ is. missed places (taken_rows (g ∷ gs) is)) (λ i. map (λ is. i ∷ is) (tuples gs))
    (λ i. misses places (get_or g.rows i [])) (tuples_missing places gs) (of_index (tuples_missed places gs))
    (below (length g.rows))
    ∙ ap (λ (k : ℕ). k * tuples_missing places gs) (how_many_places (misses places) g.rows [])
  where
    of_index : how_many (λ is. missed places (taken_rows gs is)) (tuples gs) ≡ tuples_missing places gs → (i : ℕ)
        → how_many (λ is. missed places (taken_rows (g ∷ gs) is)) (map (λ is. i ∷ is) (tuples gs))
        ≡ cond (misses places (get_or g.rows i [])) (tuples_missing places gs) 0
    of_index later i =
        how_many_map (λ is. missed places (taken_rows (g ∷ gs) is)) (λ is. i ∷ is) (tuples gs)
        ∙ how_many_same (λ is. missed_next places (record { atom = g.constant; row = get_or g.rows i [] })
        (taken_rows gs is)) (tuples gs)
        ∙ how_many_if (misses places (get_or g.rows i [])) (λ is. missed places (taken_rows gs is)) (tuples gs)
        ∙ ap (λ (k : ℕ). cond (misses places (get_or g.rows i [])) k 0) later

-- of the sets of balanced rows: each that reaches none is taken or not, the others are not
abbrev may_miss : List ℕ → List ℕ → Bool → Bool
may_miss places row t = not t || misses places row

balanced_missed : (places : List ℕ) (n : ℕ) (rows : List (List ℕ)) (ts : List Bool)
    → missed places (taken_balanced n rows ts) ≡ agrees (may_miss places) rows ts
balanced_missed places n [] ts = missed_none places
balanced_missed places n (r ∷ rs) [] = missed_none places
balanced_missed places n (r ∷ rs) (true ∷ ts) =
    missed_next places (record { atom = n; row = r }) (taken_balanced (suc n) rs ts)
    ∙ ap (λ b. misses places r && b) (balanced_missed places (suc n) rs ts)
balanced_missed places n (r ∷ rs) (false ∷ ts) = balanced_missed places (suc n) rs ts

sets_missed : (places : List ℕ) (rows : List (List ℕ))
    → product (map (λ r. cond (may_miss places r false) 1 0 + cond (may_miss places r true) 1 0) rows)
    ≡ 2 ^ rows_missing places rows
sets_missed places [] = refl
sets_missed places (r ∷ rs) =
    ap (λ (k : ℕ). (1 + cond (misses places r) 1 0) * k) (sets_missed places rs)
    ∙ by_row (misses places r) ∙ ap (λ (k : ℕ). 2 ^ k) (sym (how_many_next (misses places) r rs))
  where
    by_row : (b : Bool) → (1 + cond b 1 0) * 2 ^ rows_missing places rs ≡ 2 ^ (cond b 1 0 + rows_missing places rs)
    by_row true = omega (arith, pow-add 2 1 (rows_missing places rs))
    by_row false = omega (arith, pow-add 2 0 (rows_missing places rs))

module _ (new : ℕ) (G : Groups) where
  -- The selections that reach none of some places.
  selections_missed : (places : List ℕ)
      → how_many (λ s. missed places (taken new G s)) (selections G) ≡ selections_missing places G
  selections_missed places =
      selections_apart G (λ s. missed places (taken new G s)) (λ is. missed places (taken_rows G.constants is))
      (agrees (may_miss places) G.balanced)
      (λ is ts. missed_append places (taken_rows G.constants is) (taken_balanced new G.balanced ts)
      ∙ ap (λ b. missed places (taken_rows G.constants is) && b) (balanced_missed places new G.balanced ts))
      ∙ ap₂ (λ (m n : ℕ). m * n) (tuples_missed places G.constants)
      (sets_agreeing (may_miss places) G.balanced ∙ sets_missed places G.balanced)

  -- the first k places are reached, and none of some others
  abbrev reaches : ℕ → List ℕ → Selection → Bool
  reaches k places s = all_reached (taken new G s) k && missed places (taken new G s)

  -- Those that reach the first k places reach the next one too, or they miss it.
  next_place : (k : ℕ) (places : List ℕ)
      → how_many (reaches k places) (selections G)
      ≡ how_many (reaches (suc k) places) (selections G) + how_many (reaches k (k ∷ places)) (selections G)
  next_place k places =
      how_many_split (reaches k places) (λ s. reached (taken new G s) k) (selections G)
      ∙ ap₂ (λ (m n : ℕ). m + n)
      (how_many_same (λ s. last_first (all_reached (taken new G s) k) (missed places (taken new G s))
      (reached (taken new G s) k)) (selections G))
      (how_many_same (λ s. last_second (all_reached (taken new G s) k) (missed places (taken new G s))
      (not (reached (taken new G s) k))) (selections G))
    where
      last_first : (a b c : Bool) → (a && b && c) ≡ (a && c && b)
      last_first true true true = refl
      last_first true true false = refl
      last_first true false true = refl
      last_first true false false = refl
      last_first false b c = refl

      last_second : (a b c : Bool) → (a && b && c) ≡ (a && (c && b))
      last_second a b c = last_first a b c ∙ and_assoc a c b

  -- So many selections reach the first k places and none of some others.
  pub selections_reaching_lem : (k : ℕ) (places : List ℕ)
      → how_many (reaches k places) (selections G) ≡ selections_reaching G k places
  selections_reaching_lem zero places = selections_missed places
  selections_reaching_lem (suc k) places =
      omega (
        arith,
        next_place k places,
        selections_reaching_lem k places,
        selections_reaching_lem k (k ∷ places),
      )

-- Those that reach the first k places are those that reach the next one too and those that miss it: nothing is taken
-- away that is not there.
pub reaching_parts : (G : Groups) (k : ℕ) (places : List ℕ)
    → selections_reaching G k places ≡ selections_reaching G (suc k) places + selections_reaching G k (k ∷ places)
reaching_parts G k places =
    omega (
      arith,
      next_place 0 G k places,
      selections_reaching_lem 0 G k places,
      selections_reaching_lem 0 G (suc k) places,
      selections_reaching_lem 0 G k (k ∷ places),
    )

-- All selections.

-- where no place is to be missed, all rows do
all_missing : (gs : List Group) → tuples_missing [] gs ≡ sizes_product gs
all_missing [] = refl
all_missing (g ∷ gs) = ap₂ (λ (m n : ℕ). m * n) (how_many_all g.rows) (all_missing gs)

-- There are as many selections as the sizes of the groups say.
pub selections-all : (G : Groups) → length (selections G) ≡ selection_count G
selections-all G =
    sym (how_many_all (selections G)) ∙ selections_missed 0 G []
    ∙ ap₂ (λ (m n : ℕ). m * 2 ^ n) (all_missing G.constants) (how_many_all G.balanced)

-- one set takes all balanced rows
all_taken_lem : (rows : List (List ℕ)) (ts : List Bool) → length ts ≡ length rows
    → all_taken ts ≡ agrees (λ r t. t) rows ts
all_taken_lem [] [] e = refl
all_taken_lem [] (t ∷ ts) e = absurd (omega arith)
all_taken_lem (r ∷ rs) [] e = refl
all_taken_lem (r ∷ rs) (t ∷ ts) e = ap (λ b. t && b) (all_taken_lem rs ts (omega arith))

pub one_set : (rows : List (List ℕ)) → sets_passing (length rows) all_taken ≡ 1
one_set rows =
    how_many_same (λ m. all_taken_lem rows (bits (length rows) m) (length-bits (length rows) m)) (below (2 ^ length rows))
    ∙ sets_agreeing (λ r t. t) rows ∙ ones rows
  where
    ones : (rs : List (List ℕ)) → product (map (λ r. 0 + 1) rs) ≡ 1
    ones [] = refl
    ones (r ∷ rs) = omega (arith, ones rs)

-- The list.
module _ (M : Mode) (lay : Layout) (L R : List ℕ) (G : Groups) where
  listed_counted : how_many (admissible M lay.new L R G) (selections G) ≡ admissible_count M L R G
  listed_counted = by_mode M.empties
    where
      k : ℕ
      k = length (variables M L R)

      by_mode : (b : Bool)
          → how_many (λ s. elim b [ true ↦ all_taken s.takes | false ↦ all_reached (taken lay.new G s) k ])
          (selections G)
          ≡ elim b [ true ↦ tuples_missing [] G.constants | false ↦ selections_reaching G k [] ]
      by_mode true =
          selections_apart G (λ s. all_taken s.takes) (λ is. true) all_taken (λ is ts. refl)
          ∙ ap₂ (λ (m n : ℕ). m * n) (tuples_missed [] G.constants) (one_set G.balanced)
          ∙ omega arith
      by_mode false =
          how_many_same (λ s. sym (and-true (all_reached (taken lay.new G s) k))) (selections G)
          ∙ selections_reaching_lem lay.new G k []

  -- The length of the list is worked out from which rows reach which variables.
  pub keys_counted : length (keys M lay L R G) ≡ admissible_count M L R G
  keys_counted = length-map (listed M lay L R G) (key_of lay) ∙ listed_counted

  -- Where no variable may be empty, it is the number of those that reach every variable.
  pub keys_reaching : M.empties ≡ false
      → length (keys M lay L R G) ≡ selections_reaching G (length (variables M L R)) []
  keys_reaching full =
      keys_counted
      ∙ ap (λ (b : Bool). elim b [
        | true ↦ tuples_missing [] G.constants
        | false ↦ selections_reaching G (length (variables M L R)) []
      ]) full

  -- It is at most the number of all selections.
  pub keys_at_most : length (keys M lay L R G) ≤ selection_count G
  keys_at_most =
      omega (
        arith,
        length-map (listed M lay L R G) (key_of lay),
        how_many_most (admissible M lay.new L R G) (selections G),
        selections-all G,
      )

-- a product of as many numbers as there are fields, each with an index's bits
product_fits : (b : ℕ) (gs : List Group) → ((g : Group) → Memᴰ g gs → length g.rows ≤ 2 ^ b)
    → sizes_product gs ≤ 2 ^ (b * length gs)
product_fits b [] few = omega (arith, pow_pos (b * 0))
product_fits b (g ∷ gs) few =
    le_trans
    (mul-le-mul (few g (Memᴰ.head refl)) (product_fits b gs (λ h m. few h (Memᴰ.tail m))))
    (le_of_eq (sym (pow-add 2 b (b * length gs)) ∙ ap (λ (k : ℕ). 2 ^ k) (omega arith)))

-- Where the groups fit the layout, there are no more selections than keys that it can write.
pub selections_fit : {lay : Layout} {G : Groups} → Fits lay G
    → selection_count G ≤ 2 ^ (lay.index_bits * lay.constants + lay.rows)
selections_fit {lay} {G} fits =
    le_trans
    (mul-le-mul
    (le_trans (product_fits lay.index_bits G.constants fits.few_rows)
    (pow_mono (mul-le-mul_left lay.index_bits fits.few_constants)))
    (pow_mono fits.few_balanced))
    (le_of_eq (sym (pow-add 2 (lay.index_bits * lay.constants) lay.rows)))
