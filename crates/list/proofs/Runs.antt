-- The runs of a selection, entry by entry, are the values that it gives.
use Prim.Native.Nat.{ℕ, zero, suc, ◌+◌, ◌*◌, ◌-◌, ◌<◌, ◌≤◌}
use native.Mathlib.Omega.{arith}
use mathlib.Core.Path.{◌≡◌, refl, sym, ◌∙◌, ap, ap₂}
use mathlib.Core.Bool.{Bool, true, false, cond}
use mathlib.Core.List.{List, [], ◌∷◌, ◌++◌, map, append_assoc, append-nil}
use borrow.Author.Tests.{lt-ltb, le-ltb}
use lib.Dec.{ltb}
use lib.ListN.{length, get_or, replicate, length-append, length-replicate}
use lib.Seq.{get_or-take}
use Rattle.ac.specs.Lists.{from, NoneAbove}
use Rattle.ac.specs.Rows.{Group, Groups, rows_at}
use Rattle.ac.specs.Selection.{Taken, taken_rows, taken_balanced, taken, value_at}
use Rattle.ac.specs.Keys.{layout, bit, field_at, selection_at, Candidate, Fits}
use Rattle.ac.proofs.Fields.{length_fields_of, index_at, places_candidate}
use Rattle.table.specs.Table.{row_start}
use Rattle.list.specs.Runs.{runs, total, in_turn, constant_times, balanced_times, run_count, times_at, atom_of, atoms_at, length_at}
use Rattle.list.specs.Reach.{HoldsGroups}
use Rattle.list.specs.declared.KeyedSelection.{KeyedSelection}

-- below n it is the first, from there on the second
in_turn_first : {n j : ℕ} (first second : ℕ → ℕ) → j < n → in_turn n first second j ≡ first j
in_turn_first {n} {j} first second h = ap (λ b. cond b (first j) (second (j - n))) (lt-ltb j n h)

in_turn_second : {n j : ℕ} (first second : ℕ → ℕ) → n ≤ j → in_turn n first second j ≡ second (j - n)
in_turn_second {n} {j} first second h = ap (λ b. cond b (first j) (second (j - n))) (le-ltb j n h)

in_turn_after : (n i : ℕ) (first second : ℕ → ℕ) → in_turn n first second (n + i) ≡ second i
in_turn_after n i first second =
    in_turn_second {n = n} {j = n + i} first second (omega arith)
    ∙ ap second (let e : n + i - n ≡ i = omega arith in e)

-- a run of a constant, and one of a balanced row
module _ (s : KeyedSelection) {run : ℕ} where
  pub atom_constant : run < s.unbalanced → atom_of s run ≡ get_or s.constants run 0
  atom_constant h = in_turn_first (λ g. get_or s.constants g 0) (λ i. layout.new + i) h

  pub atom_new : s.unbalanced ≤ run → atom_of s run ≡ layout.new + (run - s.unbalanced)
  atom_new h = in_turn_second (λ g. get_or s.constants g 0) (λ i. layout.new + i) h

-- the runs are as long as their total
pub length_runs : (n : ℕ) (times atom : ℕ → ℕ) → length (runs n times atom) ≡ total n times
length_runs zero times atom = refl
length_runs (suc n) times atom =
    length-append (runs n times atom) (replicate (times n) (atom n))
    ∙ ap₂ (λ a b. a + b) (length_runs n times atom) (length-replicate (times n) (atom n))

-- where none of them names its atom more often than a number, they have at most that many atoms each
total_upto : {most : ℕ} (n : ℕ) (times : ℕ → ℕ) → ((i : ℕ) → times i ≤ most) → total n times ≤ most * n
total_upto zero times small = omega arith
total_upto (suc n) times small = omega (arith, total_upto n times small, small n)

-- so with the runs of rows of which no entry is above it
module _ {most : ℕ} (rows : List ℕ) (small : NoneAbove most rows) (s : KeyedSelection) (place : ℕ) where
  balanced_upto : (i : ℕ) → balanced_times rows s.key place i ≤ most
  balanced_upto i = by_bit (bit s.key i)
    where
      by_bit : (b : Bool) → cond b (get_or rows (row_start 0 i + place) 0) 0 ≤ most
      by_bit true = small (row_start 0 i + place)
      by_bit false = omega arith

  times_upto : (run : ℕ) → times_at rows s place run ≤ most
  times_upto run = by_turn (ltb run s.unbalanced)
    where
      by_turn : (b : Bool) → cond b (constant_times rows s.key place run)
          (balanced_times rows s.key place (run - s.unbalanced)) ≤ most
      by_turn true = small (row_start (suc run) (field_at layout s.key run) + place)
      by_turn false = balanced_upto (run - s.unbalanced)

  pub length_upto : length_at rows s place ≤ most * run_count s
  length_upto = total_upto (run_count s) (times_at rows s place) times_upto

-- counted from the front: the first run, and the others behind it
runs-front : (n : ℕ) (times atom : ℕ → ℕ)
    → runs (suc n) times atom ≡ replicate (times 0) (atom 0) ++ runs n (λ i. times (suc i)) (λ i. atom (suc i))
runs-front zero times atom = sym (append-nil (replicate (times 0) (atom 0)))
runs-front (suc n) times atom =
    ap (λ l. l ++ replicate (times (suc n)) (atom (suc n))) (runs-front n times atom)
    ∙ append_assoc (replicate (times 0) (atom 0)) (runs n (λ i. times (suc i)) (λ i. atom (suc i)))
    (replicate (times (suc n)) (atom (suc n)))

-- runs that agree below n
runs_same : (n : ℕ) (t u a b : ℕ → ℕ) → ((i : ℕ) → i < n → t i ≡ u i) → ((i : ℕ) → i < n → a i ≡ b i)
    → runs n t a ≡ runs n u b
runs_same zero t u a b e f = refl
runs_same (suc n) t u a b e f =
    ap₂ (λ k l. k ++ l) (runs_same n t u a b (λ i h. e i (omega arith)) (λ i h. f i (omega arith)))
    (ap₂ (λ m c. replicate m c) (e n (omega arith)) (f n (omega arith)))

-- runs in turn are the first ones and then the second ones
runs-in_turn : (m n : ℕ) (t u a b : ℕ → ℕ) → runs (m + n) (in_turn m t u) (in_turn m a b) ≡ runs m t a ++ runs n u b
runs-in_turn m zero t u a b =
    ap (λ (k : ℕ). runs k (in_turn m t u) (in_turn m a b)) (let e : m + 0 ≡ m = omega arith in e)
    ∙ runs_same m (in_turn m t u) t (in_turn m a b) a (λ i h. in_turn_first t u h) (λ i h. in_turn_first a b h)
    ∙ sym (append-nil (runs m t a))
runs-in_turn m (suc n) t u a b =
    ap (λ (k : ℕ). runs k (in_turn m t u) (in_turn m a b)) (let e : m + suc n ≡ suc (m + n) = omega arith in e)
    ∙ ap₂ (λ k l. k ++ l) (runs-in_turn m n t u a b)
    (ap₂ (λ k c. replicate k c) (in_turn_after m n t u) (in_turn_after m n a b))
    ∙ append_assoc (runs m t a) (runs n u b) (replicate (u n) (b n))

-- the values of rows taken one after the other stand one after the other
value_at-append : (ts us : List Taken) (p : ℕ) → value_at (ts ++ us) p ≡ value_at ts p ++ value_at us p
value_at-append [] us p = refl
value_at-append (t ∷ ts) us p =
    ap (λ l. replicate (get_or t.row p 0) t.atom ++ l) (value_at-append ts us p)
    ∙ sym (append_assoc (replicate (get_or t.row p 0) t.atom) (value_at ts p) (value_at us p))

-- the constant of group number g
abbrev constant_at : List Group → ℕ → ℕ
constant_at gs g = get_or (map (λ (h : Group). h.constant) gs) g 0

-- the constants' rows, counted by the constants
value_constants : (gs : List Group) (is : List ℕ) (p : ℕ) → length is ≡ length gs
    → value_at (taken_rows gs is) p ≡ runs (length gs) (λ g. get_or (get_or (rows_at gs g) (get_or is g 0) []) p 0)
    (constant_at gs)
value_constants [] is p e = refl
value_constants (g ∷ gs) [] p e = absurd (omega arith)
value_constants (g ∷ gs) (i ∷ is) p e =
    ap (λ l. replicate (get_or (get_or g.rows i []) p 0) g.constant ++ l) (value_constants gs is p (omega arith))
    ∙ sym (runs-front (length gs) (λ h. get_or (get_or (rows_at (g ∷ gs) h) (get_or (i ∷ is) h 0) []) p 0)
    (constant_at (g ∷ gs)))

-- a balanced row gives its new variable if it is taken
value_taken : (new : ℕ) (r : List ℕ) (rs : List (List ℕ)) (t : Bool) (ts : List Bool) (p : ℕ)
    → value_at (taken_balanced new (r ∷ rs) (t ∷ ts)) p ≡ replicate (cond t (get_or r p 0) 0) new
    ++ value_at (taken_balanced (suc new) rs ts) p
value_taken new r rs true ts p = refl
value_taken new r rs false ts p = refl

-- the balanced rows, counted by the rows, where bit a of the key is that of the first
value_balanced : (new : ℕ) (rs : List (List ℕ)) (key a p : ℕ)
    → value_at (taken_balanced new rs (map (bit key) (from a (length rs)))) p
    ≡ runs (length rs) (λ i. cond (bit key (a + i)) (get_or (get_or rs i []) p 0) 0) (λ i. new + i)
value_balanced new [] key a p = refl
value_balanced new (r ∷ rs) key a p =
    value_taken new r rs (bit key a) (map (bit key) (from (suc a) (length rs))) p
    ∙ ap₂ (λ k l. k ++ l)
    (ap₂ (λ n b. replicate (cond (bit key n) (get_or r p 0) 0) b) (let e : a ≡ a + 0 = omega arith in e)
    (let e : new ≡ new + 0 = omega arith in e))
    (value_balanced (suc new) rs key (suc a) p
    ∙ runs_same (length rs) (λ i. cond (bit key (suc a + i)) (get_or (get_or rs i []) p 0) 0)
    (λ i. cond (bit key (a + suc i)) (get_or (get_or rs i []) p 0) 0)
    (λ i. suc new + i) (λ i. new + suc i)
    (λ i h. ap (λ (n : ℕ). cond (bit key n) (get_or (get_or rs i []) p 0) 0) (omega arith)) (λ i h. omega arith))
    ∙ sym (runs-front (length rs) (λ i. cond (bit key (a + i)) (get_or (get_or (r ∷ rs) i []) p 0) 0) (λ i. new + i))

module _ {rows : List ℕ} {places : ℕ} {s : KeyedSelection} {G : Groups} (holds : HoldsGroups rows places s G)
    (fits : Fits layout G)
    (candidate : Candidate layout G s.key) where
  constant_runs : (p : ℕ) → p < places
      → value_at (taken_rows G.constants (selection_at layout G s.key).indexes) p
      ≡ runs s.unbalanced (constant_times rows s.key p) (λ g. get_or s.constants g 0)
  constant_runs p h =
      value_constants G.constants (selection_at layout G s.key).indexes p
      (length_fields_of layout 4 G.constants _ fits.few_constants)
      ∙ runs_same (length G.constants) _ (constant_times rows s.key p) (constant_at G.constants)
      (λ g. get_or s.constants g 0) entry named
      ∙ ap (λ n. runs n (constant_times rows s.key p) (λ g. get_or s.constants g 0)) holds.how_many_constants
    where
      entry : (g : ℕ) → g < length G.constants
          → get_or (get_or (rows_at G.constants g) (get_or (selection_at layout G s.key).indexes g 0) []) p 0
          ≡ constant_times rows s.key p g
      entry g below =
          ap (λ i. get_or (get_or (rows_at G.constants g) i []) p 0) (index_at fits s.key g below)
          ∙ holds.entries (suc g) (field_at layout s.key g) p
          ((places_candidate fits s.key candidate).0 g below) h

      named : (g : ℕ) → g < length G.constants → constant_at G.constants g ≡ get_or s.constants g 0
      named g below =
          ap (λ cs. get_or cs g 0) holds.the_constants
          ∙ get_or-take s.unbalanced s.constants g 0 (omega (arith, holds.how_many_constants))

  balanced_runs : (p : ℕ) → p < places
      → value_at (taken_balanced layout.new G.balanced (selection_at layout G s.key).takes) p
      ≡ runs s.balanced (balanced_times rows s.key p) (λ i. layout.new + i)
  balanced_runs p h =
      value_balanced layout.new G.balanced s.key 0 p
      ∙ runs_same (length G.balanced) _ (balanced_times rows s.key p) (λ i. layout.new + i)
      (λ i. layout.new + i) entry (λ i l. refl)
      ∙ ap (λ n. runs n (balanced_times rows s.key p) (λ i. layout.new + i)) holds.how_many_balanced
    where
      entry : (i : ℕ) → i < length G.balanced
          → cond (bit s.key (0 + i)) (get_or (get_or G.balanced i []) p 0) 0 ≡ balanced_times rows s.key p i
      entry i below =
          ap₂ (λ b n. cond b n 0) (ap (bit s.key) (omega arith))
          (holds.entries 0 i p below h ∙ ap (λ n. get_or rows (n + p) 0) (omega arith))

  -- the atoms at a place are the value there
  pub atoms_value : (p : ℕ) → p < places
      → atoms_at rows s p ≡ value_at (taken layout.new G (selection_at layout G s.key)) p
  atoms_value p h =
      runs-in_turn s.unbalanced s.balanced (constant_times rows s.key p)
      (balanced_times rows s.key p) (λ g. get_or s.constants g 0)
      (λ i. layout.new + i)
      ∙ sym
      (value_at-append (taken_rows G.constants (selection_at layout G s.key).indexes)
      (taken_balanced layout.new G.balanced (selection_at layout G s.key).takes) p
      ∙ ap₂ (λ k l. k ++ l) (constant_runs p h) (balanced_runs p h))
