-- Complete: every unifier comes from the values of an admissible selection.
use Prim.Native.Nat.{ℕ, suc, ◌+◌, ◌-◌, ◌<◌, ◌≤◌}
use mathlib.Core.Path.{◌≡◌, refl, sym, ap, ap₂, ◌∙◌, subst}
use mathlib.Core.Bool.{Bool, true, false}
use mathlib.Core.List.Memᴰ
use mathlib.Core.List.{List, [], ◌∷◌, Memᴰ}
use mathlib.Core.Logic.{⊎_elim}
use native.Mathlib.Omega.{arith}
use native.Mathlib.Nat.{le_refl}
use native.Mathlib.Decide.{dec_lt}
use lib.ListN.{length, get_or}
use Rattle.ac.specs.Lists.{from, flat_map, sum, Ascending, none, next}
use Rattle.ac.specs.Pair.{Mode, IsSide, same, count, variables, unbalanced}
use Rattle.ac.specs.Rows.{Group, Groups, GroupsOf}
use Rattle.ac.specs.Equation.{combined, RowAndSum}
use Rattle.ac.specs.Selection.{Selection, SelectionOf, Within, Within.none, index, Taken, taken_rows, taken_balanced, taken, reached, place_of, admissible, value}
use Rattle.ac.specs.Replacement.{Replacement, put, SameSum, NonEmpty, occurrences, Balances, is_new, Unifies, ComesFrom}
use Rattle.ac.proofs.Places.{from_bounds, from_member, get_or_member, place_of-get_or, get_or-place_of}
use Rattle.ac.proofs.Counts.{count_none, count_some}
use Rattle.ac.proofs.Taken.{total, total-append, total-reached, filled_count, value_at-atoms, count_filled, reached-all_reached, admissible_reaches, admissible_takes}
use Rattle.ac.proofs.Replaced.{variables_ascending, Kind, constant, other, kind_of}
use Rattle.ac.proofs.Constants.{constants_of, constants_ascending, constant_unbalanced, unbalanced_constant, constant_old, taken_rows-atoms, taken_rows_none, taken_rows_first, taken_rows_later, taken_rows_stay}
use Rattle.ac.proofs.Members.{members_flat_map}
use Rattle.ac.proofs.Fill.{spread, count_spread, count_spread_none, member_le_sum, takes_from, length_takes_from, all_takes_from, taken_balanced_filled, filled_combined}
use Rattle.ac.proofs.Balances.{made_of_rows}

-- The rows of the constants, chosen group by group. `vector_of b` is b's vector of occurrences.
module _ (balanced : List (List ℕ)) (vector_of : ℕ → List ℕ) where
  -- beside the taken rows of the constants, b's vector is made of multiples of balanced rows
  record Remainder (ts : List Taken) (b : ℕ) : Type 0 where
    times : List ℕ
    adds_up : (i : ℕ) → get_or (vector_of b) i 0 ≡ total i (same b) ts + combined times balanced i

  -- a row for each constant, that leaves such a remainder
  record Chosen (gs : List Group) : Type 0 where
    indexes : List ℕ
    within : Within gs indexes
    remainder : (b : ℕ) → Memᴰ b (constants_of gs) → Remainder (taken_rows gs indexes) b

  -- there is one wherever each constant's vector is one of its rows and a sum of balanced rows
  choose : (gs : List Group) → Ascending ◌<◌ (constants_of gs)
      → ((g : Group) → Memᴰ g gs → RowAndSum g.rows balanced (vector_of g.constant)) → Chosen gs
  choose [] ascending rows = record { indexes = []; within = none; remainder = λ b m. elim m [ ] }
  choose (g ∷ gs) (next before ascending) rows =
      extend (rows g (Memᴰ.head refl)) (choose gs ascending (λ h m. rows h (Memᴰ.tail m)))
    where
      absent : Memᴰ g.constant (constants_of gs) → ⊥
      absent m = omega (arith, before g.constant m)

      extend : RowAndSum g.rows balanced (vector_of g.constant) → Chosen gs → Chosen (g ∷ gs)
      extend first rest =
          record { indexes = is; within = index first.within rest.within; remainder = remainders }
        where
          is : List ℕ
          is = first.index ∷ rest.indexes

          remainders : (b : ℕ) → Memᴰ b (constants_of (g ∷ gs)) → Remainder (taken_rows (g ∷ gs) is) b
          remainders b (Memᴰ.head e) =
              record {
                times = first.times;
                adds_up = λ i.
                    let own = taken_rows_first g rest.within absent first.index b e i in
                    omega (arith, first.adds_up i, ap (λ c. get_or (vector_of c) i 0) e);
              }
          remainders b (Memᴰ.tail m) =
              record {
                times = (rest.remainder b m).times;
                adds_up = λ i.
                    let later = taken_rows_later g gs rest.indexes first.index b
                    (λ (e : b ≡ g.constant). omega (arith, before b m)) i in
                    omega (arith, (rest.remainder b m).adds_up i);
              }

-- Let θ be a unifier.
module _ (M : Mode) (new : ℕ) (L R : List ℕ) (left : IsSide L) (right : IsSide R) (above : 128 ≤ new)
    {G : Groups} (groups : GroupsOf M L R G)
    (θ : Replacement) (unifies : Unifies M L R θ) where
  abbrev vector_of : ℕ → List ℕ
  vector_of b = occurrences θ (variables M L R) b

  rows : Balances M L R G θ
  rows = made_of_rows M L R left right groups θ unifies.equal

  chosen : Chosen G.balanced vector_of G.constants
  chosen = choose G.balanced vector_of G.constants (constants_ascending M L R groups) rows.constants

  abbrev constant_rows : List Taken
  constant_rows = taken_rows G.constants chosen.indexes

  -- an atom that is no unbalanced constant has nothing from the constants' rows
  other_remainder : (b : ℕ) → (Memᴰ b (unbalanced M L R) → ⊥) → Remainder G.balanced vector_of constant_rows b
  other_remainder b n =
      record {
        times = (rows.others b n).times;
        adds_up = λ i. omega (arith, (rows.others b n).adds_up i, taken_rows_none chosen.within b i absent);
      }
    where
      absent : Memᴰ b (constants_of G.constants) → ⊥
      absent m = n (constant_unbalanced M L R groups b m)

  remainder : (b : ℕ) → Remainder G.balanced vector_of constant_rows b
  remainder b = by_kind (kind_of M L R left right b)
    where
      by_kind : Kind M L R b → Remainder G.balanced vector_of constant_rows b
      by_kind (constant m l r) = chosen.remainder b (unbalanced_constant M L R groups b m)
      by_kind (other n e) = other_remainder b n

  -- how often the new variable n gets b
  abbrev multiplicity : ℕ → ℕ → ℕ
  multiplicity n b = get_or (remainder b).times (n - new) 0

  -- above all atoms of the values
  bound : ℕ
  bound = suc (sum (flat_map θ (variables M L R)))

  atom_bound : (x b : ℕ) → Memᴰ x (variables M L R) → Memᴰ b (θ x) → b < bound
  unfolding bound
  atom_bound x b m n = omega (arith, member_le_sum b (flat_map θ (variables M L R)) (members_flat_map θ m n))

  -- Each new variable is filled with the atoms below the bound, by their multiplicities of its row; the rows
  -- with a filled one are taken.
  abbrev filling : Replacement
  filling n = spread (multiplicity n) 0 bound

  abbrev taken_ones : List Bool
  taken_ones = takes_from M.empties filling new (length G.balanced)

  abbrev selected : Selection
  selected = record { indexes = chosen.indexes; takes = taken_ones }

  selected_of : SelectionOf G selected
  selected_of = record {
    a_row_each = chosen.within;
    a_truth_each = length_takes_from M.empties filling new (length G.balanced);
  }

  filling_below : (b j : ℕ) → b < bound → count b (filling (new + j)) ≡ get_or (remainder b).times j 0
  filling_below b j h =
      count_spread (multiplicity (new + j)) b 0 bound (from_member 0 bound b (omega arith) (omega arith))
      ∙ ap (λ k. get_or (remainder b).times k 0) (let z : new + j - new ≡ j = omega arith in z)

  filling_above : (b j : ℕ) → bound ≤ b → count b (filling (new + j)) ≡ 0
  filling_above b j h =
      count_spread_none (multiplicity (new + j)) b 0 bound
      (λ (m : Memᴰ b (from 0 bound)). omega (arith, from_bounds 0 bound b m))

  -- what the taken rows, filled, add up to, where `times` is how often the new variables hold b
  filled_total : (b i : ℕ) (times : List ℕ) → ((j : ℕ) → count b (filling (new + j)) ≡ get_or times j 0)
      → total i (filled_count new filling b) (taken new G selected)
      ≡ total i (same b) constant_rows + combined times G.balanced i
  filled_total b i times counts =
      total-append i (filled_count new filling b) constant_rows (taken_balanced new G.balanced taken_ones)
      ∙ ap₂
      (λ x y. x + y)
      (taken_rows_stay M L R groups new above chosen.within filling b i)
      (filled_combined M.empties filling new b i new (le_refl new) G.balanced times (λ j h. counts j))

  -- the values of the selection, filled, are the unifier's
  selected_agrees : (x : ℕ) → Memᴰ x (variables M L R) → (b i : ℕ) → place_of x (variables M L R) ≡ i
      → count b (θ x) ≡ total i (filled_count new filling b) (taken new G selected)
  selected_agrees x m b i place = by_bound (dec_lt b bound)
    where
      occurs : count b (θ x) ≡ total i (same b) constant_rows + combined (remainder b).times G.balanced i
      occurs =
          sym (get_or-place_of (λ y. count b (θ y)) (variables M L R) x m)
          ∙ ap (λ k. get_or (vector_of b) k 0) place
          ∙ (remainder b).adds_up i

      nowhere : (b < bound → ⊥) → count b (θ x) ≡ 0
      nowhere h = count_none b (θ x) (λ (n : Memᴰ b (θ x)). h (atom_bound x b m n))

      by_bound : Dec (b < bound) → count b (θ x) ≡ total i (filled_count new filling b) (taken new G selected)
      by_bound (yes h) = occurs ∙ sym (filled_total b i (remainder b).times (λ j. filling_below b j h))
      by_bound (no h) = omega (arith, occurs, nowhere h, filled_total b i [] (λ j. filling_above b j (omega arith)))

  -- each place is reached, since the unifier has an atom there
  selected_reaches : M.empties ≡ false → (i : ℕ) → i < length (variables M L R)
      → reached (taken new G selected) i ≡ true
  selected_reaches e i h =
      total-reached i (filled_count new filling b) (taken new G selected)
      (subst (λ k. 0 < k) (selected_agrees x m b i (place_of-get_or (variables_ascending M L R) i h))
      (count_some b (θ x) n))
    where
      x : ℕ
      x = get_or (variables M L R) i 0

      m : Memᴰ x (variables M L R)
      m = get_or_member (variables M L R) i 0 h

      b : ℕ
      b = get_or (θ x) 0 0

      n : Memᴰ b (θ x)
      n = get_or_member (θ x) 0 0 (unifies.non_empty x m e)

  selected_admissible : admissible M new L R G selected ≡ true
  selected_admissible = by_mode M.empties refl
    where
      by_mode : (t : Bool) → M.empties ≡ t → admissible M new L R G selected ≡ true
      by_mode true e = admissible_takes M new L R G selected e
          ∙ all_takes_from M.empties filling e new (length G.balanced)
      by_mode false e =
          admissible_reaches M new L R G selected e
          ∙ reached-all_reached (taken new G selected) (length (variables M L R)) (selected_reaches e)

  -- a new variable in a value belongs to a taken row, and so it is filled
  selected_filled : (x n : ℕ) → Memᴰ n (value M new L R G selected x) → new ≤ n → NonEmpty M (filling n)
  selected_filled x n v h e =
      subst
      (λ a. 0 < length (filling a))
      (sym t.2)
      (⊎_elim constant_row (taken_balanced_filled M.empties filling e new G.balanced t.0)
      (Memᴰ.append_cases constant_rows t.1))
    where
      t : (u : Taken) × Memᴰ u (taken new G selected) × (n ≡ u.atom)
      t = value_at-atoms (taken new G selected) (place_of x (variables M L R)) n v

      constant_row : Memᴰ t.0 constant_rows → 0 < length (filling t.0.atom)
      constant_row k =
          let old : t.0.atom < new =
          constant_old M L R groups new above t.0.atom (taken_rows-atoms chosen.within t.0 k) in
          absurd (let z : ⊥ = omega (arith, t.2) in z)

  comes_from_selected : ComesFrom M new L R (value M new L R G selected) θ
  comes_from_selected = record { fill = filling; filled = λ x n m. selected_filled x n; agrees = agrees }
    where
      agrees : (x : ℕ) → Memᴰ x (variables M L R)
          → SameSum (θ x) (put (is_new new) filling (value M new L R G selected x))
      agrees x m b =
          selected_agrees x m b (place_of x (variables M L R)) refl
          ∙ sym (count_filled new filling b (place_of x (variables M L R)) (taken new G selected))

  -- The selection that was found, and that the unifier comes from it.
  pub complete_selection : (s : Selection) × SelectionOf G s × (admissible M new L R G s ≡ true)
      × ComesFrom M new L R (value M new L R G s) θ
  complete_selection = (selected, selected_of, selected_admissible, comes_from_selected)
