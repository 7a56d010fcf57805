-- Sound: the values of an admissible selection unify.
use Prim.Native.Nat.{ℕ, suc, ◌+◌, ◌*◌, ◌<◌}
use mathlib.Core.Path.{◌≡◌, refl, sym, ap, ap₂, ◌∙◌, fun_ext, subst}
use mathlib.Core.Bool.{Bool, true, false}
use mathlib.Core.List.Memᴰ
use mathlib.Core.List.{List, [], ◌∷◌, ◌++◌, map, Memᴰ}
use mathlib.Core.Logic.{⊎_elim}
use native.Mathlib.Omega.{arith}
use native.Mathlib.Decide.{ℕ_discrete}
use native.Mathlib.Nat.{mul_left_comm}
use lib.ListN.{length, get_or, length-map}
use lib.Seq.{ext_get_or}
use Rattle.ac.specs.Lists.{Ascending}
use Rattle.ac.specs.Pair.{Mode, IsSide, same, count, variables, unbalanced}
use Rattle.ac.specs.Rows.{Group, Groups, GroupsOf}
use Rattle.ac.specs.Equation.{dot, on_left, on_right}
use Rattle.ac.specs.Selection.{Selection, SelectionOf, Within, none, index, Taken, taken_rows, taken_balanced, taken, all_reached, place_of, admissible, value}
use Rattle.ac.specs.Replacement.{put, occurrences, NonEmpty, Unifies}
use Rattle.ac.proofs.Places.{get_or-map, get_or_member, place_of-get_or, place_of_lt}
use Rattle.ac.proofs.Counts.{same_self, same_other, count_none, count_once, staying}
use Rattle.ac.proofs.Taken.{total, count-value_at, reached_value, all_reached-reached, admissible_reaches}
use Rattle.ac.proofs.Replaced.{variables_ascending, unbalanced_ascending, Kind, constant, other, kind_of, count_left, count_right}
use Rattle.ac.proofs.Constants.{constants_of}
use Rattle.ac.proofs.Bridge.{weight_zero, weight_of_constant}

-- a vector, read at the variables' places, is itself
vector_at_places : {xs : List ℕ} → Ascending ◌<◌ xs → (v : List ℕ) → length v ≡ length xs
    → map (λ x. get_or v (place_of x xs) 0) xs ≡ v
vector_at_places {xs} ascending v long =
    ext_get_or
    0
    (map (λ x. get_or v (place_of x xs) 0) xs)
    v
    (length-map xs (λ x. get_or v (place_of x xs) 0) ∙ sym long)
    (λ i h.
    let l : i < length xs = omega (arith, length-map xs (λ x. get_or v (place_of x xs) 0)) in
    get_or-map (λ x. get_or v (place_of x xs) 0) xs i 0 0 l ∙ ap (λ j. get_or v j 0) (place_of-get_or ascending i l))

-- the product is linear in the vector
dot_linear : (coefficients : List ℕ) (c : ℕ) (f g : ℕ → ℕ) (xs : List ℕ)
    → dot coefficients (map (λ x. c * f x + g x) xs) ≡ c * dot coefficients (map f xs) + dot coefficients (map g xs)
dot_linear [] c f g xs = omega arith
dot_linear (d ∷ ds) c f g [] = omega arith
dot_linear (d ∷ ds) c f g (x ∷ xs) = omega (arith, dot_linear ds c f g xs, mul_left_comm d c (f x))

-- and 0 for the vector that is all zero
dot_zero : (coefficients xs : List ℕ) → dot coefficients (map (λ x. 0) xs) ≡ 0
dot_zero [] xs = refl
dot_zero (d ∷ ds) [] = refl
dot_zero (d ∷ ds) (x ∷ xs) = omega (arith, dot_zero ds xs)

-- the sum over the taken rows of a weight of the atom times the product with the row
abbrev total_dot : List ℕ → (ℕ → ℕ) → List Taken → ℕ
total_dot coefficients weigh [] = 0
total_dot coefficients weigh (t ∷ ts) = weigh t.atom * dot coefficients t.row + total_dot coefficients weigh ts

-- the product with a vector that is a sum over taken rows
dot-total : (coefficients : List ℕ) {xs : List ℕ} → Ascending ◌<◌ xs → (weigh : ℕ → ℕ) (ts : List Taken)
    → ((t : Taken) → Memᴰ t ts → length t.row ≡ length xs)
    → dot coefficients (map (λ x. total (place_of x xs) weigh ts) xs) ≡ total_dot coefficients weigh ts
dot-total coefficients {xs} ascending weigh [] vectors = dot_zero coefficients xs
dot-total coefficients {xs} ascending weigh (t ∷ ts) vectors =
    dot_linear coefficients (weigh t.atom) (λ x. get_or t.row (place_of x xs) 0)
    (λ x. total (place_of x xs) weigh ts) xs
    ∙ ap₂
    (λ (v : List ℕ) (n : ℕ). weigh t.atom * dot coefficients v + n)
    (vector_at_places ascending t.row (vectors t (Memᴰ.head refl)))
    (dot-total coefficients ascending weigh ts (λ u m. vectors u (Memᴰ.tail m)))

-- over two lists of taken rows
total_dot_append : (coefficients : List ℕ) (weigh : ℕ → ℕ) (ts us : List Taken)
    → total_dot coefficients weigh (ts ++ us) ≡ total_dot coefficients weigh ts + total_dot coefficients weigh us
total_dot_append coefficients weigh [] us = omega arith
total_dot_append coefficients weigh (t ∷ ts) us = omega (arith, total_dot_append coefficients weigh ts us)

-- The taken rows solve: those of the constants each with the constant's own occurrences, the balanced ones as
-- they are.
module _ (l r : List ℕ) (L R : List ℕ) (b : ℕ) where
  abbrev Solved : List Group → List ℕ → Type 0
  Solved gs is =
      total_dot l (same b) (taken_rows gs is) + count b (constants_of gs) * count b L
      ≡ total_dot r (same b) (taken_rows gs is) + count b (constants_of gs) * count b R

  -- row by row: the constant's own row has its weight, and the others say nothing of it
  taken_rows_solve : {gs : List Group} {is : List ℕ} → Within gs is
      → ((g : Group) → Memᴰ g gs → (v : List ℕ) → Memᴰ v g.rows
      → dot l v + count g.constant L ≡ dot r v + count g.constant R)
      → Solved gs is
  taken_rows_solve none solve = omega arith
  taken_rows_solve (index {g} {gs} {i} {is} h within) solve =
      by_atom (ℕ_discrete b g.constant) (taken_rows_solve within (λ g' m. solve g' (Memᴰ.tail m)))
    where
      here : dot l (get_or g.rows i []) + count g.constant L
          ≡ dot r (get_or g.rows i []) + count g.constant R
      here = solve g (Memᴰ.head refl) (get_or g.rows i []) (get_or_member g.rows i [] h)

      by_atom : Dec (b ≡ g.constant) → Solved gs is → Solved (g ∷ gs) (i ∷ is)
      by_atom (yes e) rest =
          rw (same_self b g.constant e) (omega (arith, here, ap (λ c. count c L) e, ap (λ c. count c R) e))
      by_atom (no n) rest = rw (same_other b g.constant n) (omega arith)

-- the balanced rows have equal products with both sides, whatever their new variables weigh
taken_balanced_solve : (l r : List ℕ) (weigh : ℕ → ℕ) (n : ℕ) (rows : List (List ℕ)) (ts : List Bool)
    → ((v : List ℕ) → Memᴰ v rows → dot l v ≡ dot r v)
    → total_dot l weigh (taken_balanced n rows ts) ≡ total_dot r weigh (taken_balanced n rows ts)
taken_balanced_solve l r weigh n [] ts solve = refl
taken_balanced_solve l r weigh n (v ∷ rows) [] solve = refl
taken_balanced_solve l r weigh n (v ∷ rows) (true ∷ ts) solve =
    ap₂ (λ x y. weigh n * x + y) (solve v (Memᴰ.head refl))
    (taken_balanced_solve l r weigh (suc n) rows ts (λ u m. solve u (Memᴰ.tail m)))
taken_balanced_solve l r weigh n (v ∷ rows) (false ∷ ts) solve =
    taken_balanced_solve l r weigh (suc n) rows ts (λ u m. solve u (Memᴰ.tail m))

-- every taken row is a row of the groups
module _ (Row : List ℕ → Type 0) where
  -- those of the constants
  taken_rows_rows : {gs : List Group} {is : List ℕ} → Within gs is
      → ((g : Group) → Memᴰ g gs → (v : List ℕ) → Memᴰ v g.rows → Row v)
      → (t : Taken) → Memᴰ t (taken_rows gs is) → Row t.row
  taken_rows_rows none rows t x7 = elim x7 [ ]
  taken_rows_rows (index {g} {gs} {i} {is} h within) rows t (Memᴰ.head e) =
      subst (λ (u : Taken). Row u.row) (sym e)
      (rows g (Memᴰ.head refl) (get_or g.rows i []) (get_or_member g.rows i [] h))
  taken_rows_rows (index {g} {gs} {i} {is} h within) rows t (Memᴰ.tail m) =
      taken_rows_rows within (λ g' n. rows g' (Memᴰ.tail n)) t m

  -- and the balanced ones
  taken_balanced_rows : (n : ℕ) (vs : List (List ℕ)) (ts : List Bool) → ((v : List ℕ) → Memᴰ v vs → Row v)
      → (t : Taken) → Memᴰ t (taken_balanced n vs ts) → Row t.row
  taken_balanced_rows n [] ts rows t m = elim m [ ]
  taken_balanced_rows n (v ∷ vs) [] rows t m = elim m [ ]
  taken_balanced_rows n (v ∷ vs) (true ∷ ts) rows t (Memᴰ.head e) =
      subst (λ (u : Taken). Row u.row) (sym e) (rows v (Memᴰ.head refl))
  taken_balanced_rows n (v ∷ vs) (true ∷ ts) rows t (Memᴰ.tail m) =
      taken_balanced_rows (suc n) vs ts (λ u k. rows u (Memᴰ.tail k)) t m
  taken_balanced_rows n (v ∷ vs) (false ∷ ts) rows t m =
      taken_balanced_rows (suc n) vs ts (λ u k. rows u (Memᴰ.tail k)) t m

module _ (M : Mode) (L R : List ℕ) (left : IsSide L) (right : IsSide R) (G : Groups)
    (groups : GroupsOf M L R G) where
  rows_solve : (g : Group) → Memᴰ g G.constants → (v : List ℕ) → Memᴰ v g.rows
      → dot (on_left M L R) v + count g.constant L ≡ dot (on_right M L R) v + count g.constant R
  rows_solve g m v n =
      let row = (groups.constant_rows g m).only v n in
      (weight_of_constant M L R g.constant v).0 row.least.has

  balanced_solve : (v : List ℕ) → Memᴰ v G.balanced → dot (on_left M L R) v ≡ dot (on_right M L R) v
  balanced_solve v m =
      let row = groups.balanced_rows.only v m in
      (weight_zero M L R v).0 row.least.has.1

  module _ (new : ℕ) (s : Selection) (selection : SelectionOf G s) where
    abbrev constant_rows : List Taken
    constant_rows = taken_rows G.constants s.indexes

    abbrev balanced_rows : List Taken
    balanced_rows = taken_balanced new G.balanced s.takes

    taken_vectors : (t : Taken) → Memᴰ t (taken new G s) → length t.row ≡ length (variables M L R)
    taken_vectors t m =
        ⊎_elim
        (taken_rows_rows
        (λ v. length v ≡ length (variables M L R))
        selection.a_row_each
        (λ g n v k. ((groups.constant_rows g n).only v k).vector)
        t)
        (taken_balanced_rows
        (λ v. length v ≡ length (variables M L R))
        new
        G.balanced
        s.takes
        (λ v k. (groups.balanced_rows.only v k).vector)
        t)
        (Memᴰ.append_cases constant_rows m)

    -- the product with the occurrences of an atom in the values
    dot_value : (coefficients : List ℕ) (b : ℕ)
        → dot coefficients (occurrences (value M new L R G s) (variables M L R) b)
        ≡ total_dot coefficients (same b) constant_rows + total_dot coefficients (same b) balanced_rows
    dot_value coefficients b =
        ap
        (λ (f : ℕ → ℕ). dot coefficients (map f (variables M L R)))
        (fun_ext (λ x. count-value_at b (place_of x (variables M L R)) (taken new G s)))
        ∙ dot-total coefficients (variables_ascending M L R) (same b) (taken new G s) taken_vectors
        ∙ total_dot_append coefficients (same b) constant_rows balanced_rows

    -- how often an atom stands on the replaced left and right side
    left_value : (b : ℕ) → count b (put M.moves (value M new L R G s) L)
        ≡ total_dot (on_left M L R) (same b) constant_rows + total_dot (on_left M L R) (same b) balanced_rows +
        staying M.moves b L
    left_value b = count_left M L R left right (value M new L R G s) b
        ∙ ap (λ n. n + staying M.moves b L) (dot_value (on_left M L R) b)

    right_value : (b : ℕ) → count b (put M.moves (value M new L R G s) R)
        ≡ total_dot (on_right M L R) (same b) constant_rows + total_dot (on_right M L R) (same b) balanced_rows +
        staying M.moves b R
    right_value b = count_right M L R left right (value M new L R G s) b
        ∙ ap (λ n. n + staying M.moves b R) (dot_value (on_right M L R) b)

    -- The sides become equal at every atom: an unbalanced constant by its taken row, any other atom since as
    -- many of it stay on both sides.
    sides_agree : (b : ℕ)
        → count b (put M.moves (value M new L R G s) L) ≡ count b (put M.moves (value M new L R G s) R)
    sides_agree b = by_kind (kind_of M L R left right b)
      where
        times : count b (constants_of G.constants) ≡ count b (unbalanced M L R)
        times = ap (count b) groups.the_constants

        constants : (m : ℕ) → count b (constants_of G.constants) ≡ m
            → total_dot (on_left M L R) (same b) constant_rows + m * count b L
            ≡ total_dot (on_right M L R) (same b) constant_rows + m * count b R
        constants m e =
            subst
            (λ n. total_dot (on_left M L R) (same b) constant_rows + n * count b L
            ≡ total_dot (on_right M L R) (same b) constant_rows + n * count b R)
            e
            (taken_rows_solve (on_left M L R) (on_right M L R) L R b selection.a_row_each rows_solve)

        balanced : total_dot (on_left M L R) (same b) balanced_rows ≡ total_dot (on_right M L R) (same b) balanced_rows
        balanced = taken_balanced_solve (on_left M L R) (on_right M L R) (same b) new G.balanced s.takes
            balanced_solve

        by_kind : Kind M L R b
            → count b (put M.moves (value M new L R G s) L) ≡ count b (put M.moves (value M new L R G s) R)
        by_kind (constant m l r) =
            omega (
              arith,
              left_value b,
              right_value b,
              balanced,
              constants 1 (times ∙ count_once b (unbalanced_ascending M L R) m),
            )
        by_kind (other n e) =
            omega (
              arith,
              left_value b,
              right_value b,
              balanced,
              constants 0 (times ∙ count_none b (unbalanced M L R) n),
            )

    -- where values may not be empty, none is: its place is reached
    values_non_empty : admissible M new L R G s ≡ true → (x : ℕ) → Memᴰ x (variables M L R)
        → NonEmpty M (value M new L R G s x)
    values_non_empty h x m e =
        let place : ℕ = place_of x (variables M L R) in
        let all : all_reached (taken new G s) (length (variables M L R)) ≡ true =
        sym (admissible_reaches M new L R G s e) ∙ h in
        reached_value place (taken new G s)
        (all_reached-reached (taken new G s) (length (variables M L R)) all place
        (place_of_lt (variables M L R) x m))

    -- Both halves of "unifies".
    pub sound_selection : admissible M new L R G s ≡ true → Unifies M L R (value M new L R G s)
    sound_selection h = record { non_empty = values_non_empty h; equal = sides_agree }
