-- Taken rows and the values that they give, as sums of numbers, so that statements on multisets become
-- statements on ℕ.
use Prim.Native.Nat.{ℕ, zero, suc, ◌+◌, ◌*◌, ◌≤◌, ◌<◌}
use mathlib.Core.Path.{◌≡◌, refl, ap, ap₂, ◌∙◌}
use mathlib.Core.Bool.{Bool, true, false, cond, ◌||◌, false≢true, and-eq-true_iff}
use mathlib.Core.List.{List, [], ◌∷◌, ◌++◌, Memᴰ}
use native.Mathlib.Omega.{arith}
use mathlib.Core.Logic.{⊎_elim}
use native.Mathlib.Nat.{eq-or-lt_of_le, le_of_suc-le-suc}
use lib.ListN.{length, get_or, replicate, length-append, length-replicate}
use lib.Dec.{ltb}
use borrow.Author.Tests.{ltb-true, ltb-false, le-leb, lt-leb}
use Rattle.ac.specs.Pair.{Mode, same, count, variables}
use Rattle.ac.specs.Rows.{Groups}
use Rattle.ac.specs.Selection.{Selection, Taken, taken, value_at, reached, all_reached, all_taken, admissible}
use Rattle.ac.specs.Replacement.{Replacement, put, is_new}
use Rattle.ac.proofs.Counts.{count-append, count-replicate, put-append}

-- the sum over the taken rows of a weight of the atom times the entry at place i
abbrev pub total : ℕ → (ℕ → ℕ) → List Taken → ℕ
total i weigh [] = 0
total i weigh (t ∷ ts) = weigh t.atom * get_or t.row i 0 + total i weigh ts

-- over two lists it is the sum of theirs
pub total-append : (i : ℕ) (weigh : ℕ → ℕ) (ts us : List Taken)
    → total i weigh (ts ++ us) ≡ total i weigh ts + total i weigh us
total-append i weigh [] us = omega arith
total-append i weigh (t ∷ ts) us = omega (arith, total-append i weigh ts us)

-- only the weights of the taken atoms matter
pub total_agrees : (i : ℕ) (weigh weigh' : ℕ → ℕ) (ts : List Taken)
    → ((t : Taken) → Memᴰ t ts → weigh t.atom ≡ weigh' t.atom)
    → total i weigh ts ≡ total i weigh' ts
total_agrees i weigh weigh' [] agree = refl
total_agrees i weigh weigh' (t ∷ ts) agree =
    ap₂ (λ m n. m * get_or t.row i 0 + n) (agree t (mathlib.Core.List.Memᴰ.head refl))
    (total_agrees i weigh weigh' ts (λ u m. agree u (mathlib.Core.List.Memᴰ.tail m)))

-- where no taken atom weighs anything it is 0
pub total_zero : (i : ℕ) (weigh : ℕ → ℕ) (ts : List Taken)
    → ((t : Taken) → Memᴰ t ts → weigh t.atom ≡ 0) → total i weigh ts ≡ 0
total_zero i weigh [] zeros = refl
total_zero i weigh (t ∷ ts) zeros = rw (zeros t (mathlib.Core.List.Memᴰ.head refl))
    (omega (arith, total_zero i weigh ts (λ u m. zeros u (mathlib.Core.List.Memᴰ.tail m))))

-- how often b stands in a value
pub count-value_at : (b i : ℕ) (ts : List Taken) → count b (value_at ts i) ≡ total i (same b) ts
count-value_at b i [] = refl
count-value_at b i (t ∷ ts) =
    count-append b (replicate (get_or t.row i 0) t.atom) (value_at ts i)
    ∙ ap₂ (λ m n. m + n) (count-replicate b (get_or t.row i 0) t.atom) (count-value_at b i ts)

-- how often b stands in what an atom becomes when the new variables are filled
abbrev pub filled_count : ℕ → Replacement → ℕ → ℕ → ℕ
filled_count new fill b a = count b (cond (is_new new a) (fill a) (a ∷ []))

-- a new variable becomes what it is filled with
pub filled_count_new : (new : ℕ) (fill : Replacement) (b a : ℕ) → new ≤ a
    → filled_count new fill b a ≡ count b (fill a)
filled_count_new new fill b a h = ap (λ (t : Bool). count b (cond t (fill a) (a ∷ []))) (le-leb new a h)

-- any other atom stays
pub filled_count_other : (new : ℕ) (fill : Replacement) (b a : ℕ) → a < new → filled_count new fill b a ≡ same b a
filled_count_other new fill b a h =
    ap (λ (t : Bool). count b (cond t (fill a) (a ∷ []))) (lt-leb new a h) ∙ omega arith

-- how often b stands in a value when the new variables are filled
module _ (new : ℕ) (fill : Replacement) (b : ℕ) where
  put_replicate : (n a : ℕ) → count b (put (is_new new) fill (replicate n a)) ≡ filled_count new fill b a * n
  put_replicate zero a = omega arith
  put_replicate (suc n) a =
      count-append b (cond (is_new new a) (fill a) (a ∷ [])) (put (is_new new) fill (replicate n a))
      ∙ omega (arith, put_replicate n a)

  -- the same sum, with the weight of what each atom becomes
  pub count_filled : (i : ℕ) (ts : List Taken)
      → count b (put (is_new new) fill (value_at ts i)) ≡ total i (filled_count new fill b) ts
  count_filled i [] = refl
  count_filled i (t ∷ ts) =
      ap (count b) (put-append (is_new new) fill (replicate (get_or t.row i 0) t.atom) (value_at ts i))
      ∙ count-append b (put (is_new new) fill (replicate (get_or t.row i 0) t.atom))
      (put (is_new new) fill (value_at ts i))
      ∙ ap₂ (λ m n. m + n) (put_replicate (get_or t.row i 0) t.atom) (count_filled i ts)

-- A place is reached where its value has an atom: whatever the atoms weigh, a sum above 0 reaches.
pub total-reached : (i : ℕ) (weigh : ℕ → ℕ) (ts : List Taken) → 0 < total i weigh ts → reached ts i ≡ true
total-reached i weigh [] h = absurd (omega arith)
total-reached i weigh (t ∷ ts) h = by_entry (ltb 0 (get_or t.row i 0)) refl (total-reached i weigh ts)
  where
    by_entry : (b : Bool) → ltb 0 (get_or t.row i 0) ≡ b → (0 < total i weigh ts → reached ts i ≡ true)
        → reached (t ∷ ts) i ≡ true
    by_entry true e rest = rw (e, ◌||◌)
    by_entry false e rest =
        let entry : get_or t.row i 0 ≡ 0 = omega (arith, ltb-false 0 (get_or t.row i 0) e) in
        let nothing : weigh t.atom * get_or t.row i 0 ≡ 0 = rw entry (omega arith) in
        rw (e, ◌||◌) (rest (omega arith))

-- a place that is reached has a value that is not empty
pub reached_value : (i : ℕ) (ts : List Taken) → reached ts i ≡ true → 0 < length (value_at ts i)
reached_value i [] h = absurd (false≢true h)
reached_value i (t ∷ ts) h = by_entry (ltb 0 (get_or t.row i 0)) refl (reached_value i ts)
  where
    long : length (value_at (t ∷ ts) i) ≡ get_or t.row i 0 + length (value_at ts i)
    long =
        length-append (replicate (get_or t.row i 0) t.atom) (value_at ts i)
        ∙ ap (λ n. n + length (value_at ts i)) (length-replicate (get_or t.row i 0) t.atom)

    by_entry : (b : Bool) → ltb 0 (get_or t.row i 0) ≡ b → (reached ts i ≡ true → 0 < length (value_at ts i))
        → 0 < length (value_at (t ∷ ts) i)
    by_entry true e rest = omega (arith, long, ltb-true 0 (get_or t.row i 0) e)
    by_entry false e rest = omega (arith, long, rest (rw (e, ◌||◌) at h))

-- where all places are reached, each is
pub all_reached-reached : (ts : List Taken) (k : ℕ) → all_reached ts k ≡ true → (i : ℕ) → i < k → reached ts i ≡ true
all_reached-reached ts zero all i h = absurd (omega arith)
all_reached-reached ts (suc k) all i h =
    let both = (and-eq-true_iff (all_reached ts k) (reached ts k)).0 all in
    ⊎_elim (λ (e : i ≡ k). rw e both.1) (λ (l : i < k). all_reached-reached ts k both.0 i l)
    (eq-or-lt_of_le (le_of_suc-le-suc h))

-- and where each place is reached, all are
pub reached-all_reached : (ts : List Taken) (k : ℕ) → ((i : ℕ) → i < k → reached ts i ≡ true)
    → all_reached ts k ≡ true
reached-all_reached ts zero each = refl
reached-all_reached ts (suc k) each =
    rw (reached-all_reached ts k (λ i h. each i (omega arith))) (each k (omega arith))

-- What admissible says where a value may not be empty, and where it may.
module _ (M : Mode) (new : ℕ) (L R : List ℕ) (G : Groups) (s : Selection) where
  -- where it may not: every place is reached
  pub admissible_reaches : M.empties ≡ false
      → admissible M new L R G s ≡ all_reached (taken new G s) (length (variables M L R))
  admissible_reaches e = ap (λ (b : Bool). elim b
      [ true ↦ all_taken s.takes | false ↦ all_reached (taken new G s) (length (variables M L R)) ]) e

  -- where it may: every balanced row is taken
  pub admissible_takes : M.empties ≡ true → admissible M new L R G s ≡ all_taken s.takes
  admissible_takes e = ap (λ (b : Bool). elim b
      [ true ↦ all_taken s.takes | false ↦ all_reached (taken new G s) (length (variables M L R)) ]) e

-- the atoms of a value belong to taken rows
pub value_at-atoms : (ts : List Taken) (i n : ℕ) → Memᴰ n (value_at ts i)
    → (t : Taken) × Memᴰ t ts × (n ≡ t.atom)
value_at-atoms [] i n m = elim m [ ]
value_at-atoms (t ∷ ts) i n m =
    ⊎_elim
    (λ (h : Memᴰ n (replicate (get_or t.row i 0) t.atom)).
    (t, mathlib.Core.List.Memᴰ.head refl, repeated (get_or t.row i 0) h))
    (λ (h : Memᴰ n (value_at ts i)). let u = value_at-atoms ts i n h in (u.0, mathlib.Core.List.Memᴰ.tail u.1, u.2))
    (mathlib.Core.List.Memᴰ.append_cases (replicate (get_or t.row i 0) t.atom) m)
  where
    repeated : (k : ℕ) → Memᴰ n (replicate k t.atom) → n ≡ t.atom
    repeated zero h = elim h [ ]
    repeated (suc k) (mathlib.Core.List.Memᴰ.head e) = e
    repeated (suc k) (mathlib.Core.List.Memᴰ.tail h) = repeated k h
