-- Independent: no listed selection's values come from another's.
use Prim.Native.Nat.{ℕ, zero, suc, ◌+◌, ◌*◌, ◌<◌, ◌≤◌}
use mathlib.Core.Path.{◌≡◌, refl, sym, ap, ap₂, ◌∙◌, subst}
use mathlib.Core.Bool.{Bool, true, false, and-eq-true_iff}
use mathlib.Core.List.{List, [], ◌∷◌, Memᴰ}
use native.Mathlib.Omega.{arith}
use native.Mathlib.Nat.{mul-le-mul_right}
use lib.ListN.{length, get_or}
use lib.Seq.{ext_get_or}
use Rattle.ac.specs.Lists.{Ascending, none, next}
use Rattle.ac.specs.Pair.{Mode, same, count, variables}
use Rattle.ac.specs.Rows.{◌≼◌.none, Exactly, BalancedRow, RowOf, Group, Groups, GroupsOf}
use Rattle.ac.specs.Selection.{Selection, SelectionOf, Within, Within.none, index, Taken, taken_rows, taken_balanced, taken, value_at, place_of, all_taken, admissible, value}
use Rattle.ac.specs.Replacement.{ComesFrom}
use Rattle.ac.proofs.Places.{get_or_member, place_of-get_or}
use Rattle.ac.proofs.Counts.{same_self, same_positive, count_some, count_member}
use Rattle.ac.proofs.Taken.{total, total-append, filled_count, filled_count_new, count-value_at, count_filled, admissible_takes}
use Rattle.ac.proofs.Entries.{positive_place, row_equal}
use Rattle.ac.proofs.Replaced.{variables_ascending}
use Rattle.ac.proofs.Constants.{constants_of, constants_ascending, constant_old, taken_rows_first, taken_rows_later, taken_rows_stay}
use Rattle.ac.proofs.Balanced.{Weighing, taken_balanced_each, taken_balanced_weighs, taken_balanced_some, taken_balanced_none, taken_balanced_own}

-- The constants' rows: where those of the one tuple are at or below those of the other, the tuples are equal.
module _ (M : Mode) (L R : List ℕ) where
  -- group by group: the rows of the first constant are equal, and the others by the same argument
  indexes_equal : (gs : List Group) {is js : List ℕ} → Ascending ◌<◌ (constants_of gs)
      → ((g : Group) → Memᴰ g gs → Exactly (RowOf M L R g.constant) g.rows) → Within gs is → Within gs js
      → ((c : ℕ) → Memᴰ c (constants_of gs) → (k : ℕ) → k < length (variables M L R)
      → total k (same c) (taken_rows gs is) ≤ total k (same c) (taken_rows gs js))
      → is ≡ js
  indexes_equal [] ascending rows none none lower = refl
  indexes_equal (g ∷ gs) (next before ascending) rows (index {i} {is} h within)
      (index {i = j} {is = js} h' within') lower =
      ap₂ {C = List ℕ} (λ x xs. x ∷ xs) first
      (indexes_equal gs ascending (λ g' m. rows g' (Memᴰ.tail m)) within within' rest)
    where
      absent : Memᴰ g.constant (constants_of gs) → ⊥
      absent m = omega (arith, before g.constant m)

      exactly : Exactly (RowOf M L R g.constant) g.rows
      exactly = rows g (Memᴰ.head refl)

      first : i ≡ j
      first =
          row_equal
          (length (variables M L R))
          exactly.ascending
          (λ v m. ((exactly.only v m).vector, (exactly.only v m).least))
          i
          j
          h
          h'
          (λ k l.
          let of_i = taken_rows_first g within absent i g.constant refl k in
          let of_j = taken_rows_first g within' absent j g.constant refl k in
          omega (arith, lower g.constant (Memᴰ.head refl) k l))

      rest : (c : ℕ) → Memᴰ c (constants_of gs) → (k : ℕ) → k < length (variables M L R)
          → total k (same c) (taken_rows gs is) ≤ total k (same c) (taken_rows gs js)
      rest c m k l =
          let differs : (c ≡ g.constant → ⊥) = λ e. omega (arith, before c m) in
          omega (
            arith,
            lower c (Memᴰ.tail m) k l,
            taken_rows_later g gs is i c differs k,
            taken_rows_later g gs js j c differs k,
          )

-- lists of truth values
all_taken_lem : (ts : List Bool) → all_taken ts ≡ true → (j : ℕ) → j < length ts → get_or ts j false ≡ true
all_taken_lem [] all j h = absurd (omega arith)
all_taken_lem (t ∷ ts) all zero h = ((and-eq-true_iff t (all_taken ts)).0 all).0
all_taken_lem (t ∷ ts) all (suc j) h = all_taken_lem ts ((and-eq-true_iff t (all_taken ts)).0 all).1 j (omega arith)

truth_equal : (a b : Bool) → (a ≡ true → b ≡ true) → (b ≡ true → a ≡ true) → a ≡ b
truth_equal true b to back = sym (to refl)
truth_equal false true to back = back refl
truth_equal false false to back = refl

-- Let the values of t come from those of s.
module _ (M : Mode) (new : ℕ) (L R : List ℕ) (above : 128 ≤ new) {G : Groups} (groups : GroupsOf M L R G)
    (s t : Selection) (of_s : SelectionOf G s) (of_t : SelectionOf G t)
    (comes : ComesFrom M new L R (value M new L R G s) (value M new L R G t)) where
  abbrev places : ℕ
  places = length (variables M L R)

  abbrev constant_rows : Selection → List Taken
  constant_rows u = taken_rows G.constants u.indexes

  abbrev balanced_rows : Selection → List Taken
  balanced_rows u = taken_balanced new G.balanced u.takes

  -- the entry of balanced row j at place p, and whether that row is taken
  abbrev entry : ℕ → ℕ → ℕ
  entry j p = get_or (get_or G.balanced j []) p 0

  abbrev Takes : Selection → ℕ → Type 0
  Takes u j = get_or u.takes j false ≡ true

  -- how often b stands in what an atom of s's values becomes
  abbrev filled_as : ℕ → ℕ → ℕ
  filled_as b = filled_count new comes.fill b

  -- at each place the values agree, atom by atom
  at_place : (b p : ℕ) → p < places → total p (same b) (taken new G t) ≡ total p (filled_as b) (taken new G s)
  at_place b p h =
      subst
      (λ q. total q (same b) (taken new G t) ≡ total q (filled_as b) (taken new G s))
      (place_of-get_or (variables_ascending M L R) p h)
      (sym (count-value_at b (place_of x (variables M L R)) (taken new G t))
      ∙ comes.agrees x (get_or_member (variables M L R) p 0 h) b
      ∙ count_filled new comes.fill b (place_of x (variables M L R)) (taken new G s))
    where
      x : ℕ
      x = get_or (variables M L R) p 0

  by_kind : (b p : ℕ) → p < places
      → total p (same b) (constant_rows t) + total p (same b) (balanced_rows t)
      ≡ total p (same b) (constant_rows s) + total p (filled_as b) (balanced_rows s)
  by_kind b p h =
      sym (total-append p (same b) (constant_rows t) (balanced_rows t))
      ∙ at_place b p h
      ∙ total-append p (filled_as b) (constant_rows s) (balanced_rows s)
      ∙ ap (λ n. n + total p (filled_as b) (balanced_rows s))
      (taken_rows_stay M L R groups new above of_s.a_row_each comes.fill b p)

  -- The indexes first: a constant is no new variable, so its row in s is at or below its row in t.
  same_indexes : s.indexes ≡ t.indexes
  same_indexes =
      indexes_equal M L R G.constants (constants_ascending M L R groups) groups.constant_rows
      of_s.a_row_each of_t.a_row_each lower
    where
      lower : (c : ℕ) → Memᴰ c (constants_of G.constants) → (p : ℕ) → p < places
          → total p (same c) (constant_rows s) ≤ total p (same c) (constant_rows t)
      lower c m p h = omega (
        arith,
        by_kind c p h,
        taken_balanced_none p c new G.balanced t.takes (constant_old M L R groups new above c m),
      )

  -- Then the constants' rows cancel.
  balanced_agree : (b p : ℕ) → p < places
      → total p (same b) (balanced_rows t) ≡ total p (filled_as b) (balanced_rows s)
  balanced_agree b p h =
      omega (arith, by_kind b p h, ap (λ is. total p (same b) (taken_rows G.constants is)) same_indexes)

  -- a balanced row is above 0 at some place
  balanced_place : (j : ℕ) → j < length G.balanced → (p : ℕ) × (p < places) × (0 < entry j p)
  balanced_place j h = (p.0, subst (λ n. p.0 < n) row.vector p.1, p.2)
    where
      row : BalancedRow M L R (get_or G.balanced j [])
      row = groups.balanced_rows.only (get_or G.balanced j []) (get_or_member G.balanced j [] h)

      p : (q : ℕ) × (q < length (get_or G.balanced j [])) × (0 < entry j q)
      p = positive_place (get_or G.balanced j []) row.least.has.0

  -- a row of s whose new variable is filled with the new variable of another row is at or below that row, and
  -- so is that row
  fills_equal : (i j : ℕ) → i < length G.balanced → j < length G.balanced → Takes s i
      → 0 < filled_as (new + j) (new + i) → i ≡ j
  fills_equal i j h h' is_taken fills =
      row_equal
      places
      groups.balanced_rows.ascending
      (λ v m. ((groups.balanced_rows.only v m).vector, (groups.balanced_rows.only v m).least))
      i
      j
      h
      h'
      lower
    where
      lower : (p : ℕ) → p < places → entry i p ≤ entry j p
      lower p l =
          let once : 1 * entry i p ≤ filled_as (new + j) (new + i) * entry i p =
          mul-le-mul_right (entry i p) fills in
          let each = taken_balanced_each p (filled_as (new + j)) new G.balanced s.takes (new + i) i refl h
          is_taken in
          let own = taken_balanced_own p (new + j) j new G.balanced t.takes refl in
          omega (arith, balanced_agree (new + j) p l)

  same_itself : (a : ℕ) → 0 < same a a
  same_itself a = omega (arith, same_self a a refl)

  -- a row taken in t is taken in s: its new variable can only come from its own
  taken_before : (j : ℕ) → j < length G.balanced → Takes t j → Takes s j
  taken_before j h is_taken =
      same_row (taken_balanced_some p.0 (filled_as (new + j)) new G.balanced s.takes weighs)
    where
      p : (q : ℕ) × (q < places) × (0 < entry j q)
      p = balanced_place j h

      weighs : 0 < total p.0 (filled_as (new + j)) (balanced_rows s)
      weighs =
          subst (λ n. 0 < n) (balanced_agree (new + j) p.0 p.1)
          (taken_balanced_weighs p.0 (same (new + j)) new G.balanced t.takes j h is_taken
          (same_itself (new + j)) p.2)

      same_row : Weighing (filled_as (new + j)) new G.balanced s.takes → Takes s j
      same_row w = subst (Takes s) (fills_equal w.at j w.within h w.is_taken w.weighs) w.is_taken

  -- the new variable of a row taken in s stands in a value of s, so it is filled
  new_filled : M.empties ≡ false → (i : ℕ) → i < length G.balanced → Takes s i
      → 0 < length (comes.fill (new + i))
  new_filled e i h is_taken =
      comes.filled x (new + i) (get_or_member (variables M L R) p.0 0 p.1) stands (omega arith) e
    where
      p : (q : ℕ) × (q < places) × (0 < entry i q)
      p = balanced_place i h

      x : ℕ
      x = get_or (variables M L R) p.0 0

      occurs : 0 < count (new + i) (value_at (taken new G s) p.0)
      occurs =
          let weighs = taken_balanced_weighs p.0 (same (new + i)) new G.balanced s.takes i h is_taken
          (same_itself (new + i)) p.2 in
          let parts = total-append p.0 (same (new + i)) (constant_rows s) (balanced_rows s) in
          omega (arith, count-value_at (new + i) p.0 (taken new G s))

      stands : Memᴰ (new + i) (value M new L R G s x)
      stands =
          subst
          (λ q. Memᴰ (new + i) (value_at (taken new G s) q))
          (sym (place_of-get_or (variables_ascending M L R) p.0 p.1))
          (count_member (new + i) (value_at (taken new G s) p.0) occurs)

  -- a row taken in s is taken in t: its new variable is filled with some atom, and that can only be the new
  -- variable of a row of t
  taken_after : M.empties ≡ false → (i : ℕ) → i < length G.balanced → Takes s i → Takes t i
  taken_after e i h is_taken = same_row (taken_balanced_some p.0 (same b) new G.balanced t.takes weighs)
    where
      p : (q : ℕ) × (q < places) × (0 < entry i q)
      p = balanced_place i h

      b : ℕ
      b = get_or (comes.fill (new + i)) 0 0

      fills : 0 < filled_as b (new + i)
      fills =
          let member = get_or_member (comes.fill (new + i)) 0 0 (new_filled e i h is_taken) in
          omega (
            arith,
            filled_count_new new comes.fill b (new + i) (omega arith),
            count_some b (comes.fill (new + i)) member,
          )

      weighs : 0 < total p.0 (same b) (balanced_rows t)
      weighs =
          subst (λ n. 0 < n) (sym (balanced_agree b p.0 p.1))
          (taken_balanced_weighs p.0 (filled_as b) new G.balanced s.takes i h is_taken fills p.2)

      same_row : Weighing (same b) new G.balanced t.takes → Takes t i
      same_row w =
          let own : 0 < filled_as (new + w.at) (new + i) =
          subst (λ c. 0 < filled_as c (new + i)) (same_positive b (new + w.at) w.weighs) fills in
          subst (Takes t) (sym (fills_equal i w.at h w.within is_taken own)) w.is_taken

  same_takes : admissible M new L R G s ≡ true → admissible M new L R G t ≡ true → s.takes ≡ t.takes
  same_takes ok_s ok_t =
      ext_get_or false s.takes t.takes (of_s.a_truth_each ∙ sym of_t.a_truth_each)
      (λ j h. by_mode M.empties refl j h)
    where
      by_mode : (u : Bool) → M.empties ≡ u → (j : ℕ) → j < length s.takes
          → get_or s.takes j false ≡ get_or t.takes j false
      by_mode true e j h =
          let h' : j < length t.takes = omega (arith, of_s.a_truth_each, of_t.a_truth_each) in
          all_taken_lem s.takes (sym (admissible_takes M new L R G s e) ∙ ok_s) j h
          ∙ sym (all_taken_lem t.takes (sym (admissible_takes M new L R G t e) ∙ ok_t) j h')
      by_mode false e j h =
          let l : j < length G.balanced = omega (arith, of_s.a_truth_each) in
          truth_equal (get_or s.takes j false) (get_or t.takes j false) (taken_after e j l) (taken_before j l)

  -- So the two selections are one.
  pub independent_selections : admissible M new L R G s ≡ true → admissible M new L R G t ≡ true → s ≡ t
  independent_selections ok_s ok_t = λ i. record { indexes = same_indexes i; takes = same_takes ok_s ok_t i }
