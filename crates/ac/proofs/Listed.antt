-- The list of a pair: it holds every admissible selection, only those, once each and ascending by key.
use Prim.Native.Nat.{ℕ, zero, suc, ◌+◌, ◌*◌, ◌^◌, ◌<◌, ◌≤◌}
use native.Mathlib.Omega.{arith}
use lib.Pow.{pow_mono}
use mathlib.Core.Path.{◌≡◌, refl, sym, ap, subst, subst₂, ◌∙◌}
use mathlib.Core.Logic.{◌↔◌}
use mathlib.Core.Bool.{true}
use mathlib.Core.List.Memᴰ
use mathlib.Core.List.{List, [], ◌∷◌, map, Memᴰ}
use lib.ListN.{length}
use lib.Arith.{digits_lt}
use Rattle.ac.specs.Lists.{below, Ascending, none, next}
use Rattle.ac.specs.Pair.{Mode}
use Rattle.ac.specs.Rows.{Group, Groups}
use Rattle.ac.specs.Selection.{Selection, SelectionOf, Within, none, index, admissible}
use Rattle.ac.specs.Keys.{Layout, Fits, Candidate, Listed, fields, mask, bits, key_of, selection_at, tuples, selections, listed, keys}
use Rattle.ac.proofs.Places.{from_ascending}
use Rattle.ac.proofs.Order.{filter_member, member_filter, filter_ascending}
use Rattle.ac.proofs.Members.{below_members, members_below, map_members, members_map, flat_map_members, members_flat_map}
use Rattle.ac.proofs.Members.{ascending_map, ascending_flat_map, ascending_in}
use Rattle.ac.proofs.Keys.{Few, bits-mask-below, mask-bits, mask_below, length-bits, fields_below, taken_apart, packed, candidate_selection}
use Rattle.ac.proofs.Keys.{selection_candidate}

-- the tuples are exactly the lists of an index for each constant, below the number of its rows
tuples_within : (gs : List Group) {is : List ℕ} → Memᴰ is (tuples gs) → Within gs is
tuples_within [] (Memᴰ.head e) = subst (Within []) (sym e) none
tuples_within [] (Memᴰ.tail m) = elim m [ ]
tuples_within (g ∷ gs) m =
    let one = flat_map_members (λ i. map (λ is. i ∷ is) (tuples gs)) (below (length g.rows)) m in
    let rest = map_members (λ is. one.0 ∷ is) (tuples gs) one.2 in
    subst (Within (g ∷ gs)) (sym rest.2)
    (index (below_members (length g.rows) one.1) (tuples_within gs rest.1))

-- and every such list is one of the tuples
within_tuples : {gs : List Group} {is : List ℕ} → Within gs is → Memᴰ is (tuples gs)
within_tuples none = Memᴰ.head refl
within_tuples (index {gs = gs} {i = i} h within) =
    members_flat_map (λ j. map (λ js. j ∷ js) (tuples gs)) (members_below h)
    (members_map (λ js. i ∷ js) (within_tuples within))

-- the selection of a tuple and a mask
abbrev pub masked : Groups → List ℕ → ℕ → Selection
masked G is m = record { indexes = is; takes = bits (length G.balanced) m }

abbrev pub all_masked : Groups → List ℕ → List Selection
all_masked G is = map (masked G is) (below (2 ^ length G.balanced))

-- A selection stands among the selections exactly if it takes a row for each constant and has a truth value
-- for each balanced row.
pub selections_are : (G : Groups) {s : Selection} → Memᴰ s (selections G) ↔ SelectionOf G s
selections_are G {s} = (only, all)
  where
    only : Memᴰ s (selections G) → SelectionOf G s
    only m =
        let tuple = flat_map_members (all_masked G) (tuples G.constants) m in
        let one = map_members (masked G tuple.0) (below (2 ^ length G.balanced)) tuple.2 in
        subst (SelectionOf G) (sym one.2)
        (record {
          a_row_each = tuples_within G.constants tuple.1;
          a_truth_each = length-bits (length G.balanced) one.0;
        })

    all : SelectionOf G s → Memᴰ s (selections G)
    all of =
        members_flat_map (all_masked G) (within_tuples of.a_row_each)
        (Memᴰ.cast (λ i. record {
          indexes = s.indexes;
          takes = sym (mask-bits (length G.balanced) s.takes of.a_truth_each) i;
        }) (members_map (masked G s.indexes)
        (members_below (mask_below (length G.balanced) s.takes of.a_truth_each))))

-- the tuples ascend by their fields
tuples_ascending : (lay : Layout) (k : ℕ) (gs : List Group) → length gs ≤ k → Few lay gs
    → Ascending (λ is js. fields lay k is < fields lay k js) (tuples gs)
tuples_ascending lay k [] fit few = next (λ b m. absurd (Memᴰ.not-nil m)) none
tuples_ascending lay zero (g ∷ gs) fit few = absurd (omega arith)
tuples_ascending lay (suc k) (g ∷ gs) fit few =
    ascending_flat_map (λ i. map (λ is. i ∷ is) (tuples gs))
    (λ i m. ascending_map (λ is. i ∷ is)
    (ascending_in (λ is js m₁ m₂ less. omega arith) (tuples_ascending lay k gs (omega arith) others)))
    (ascending_in (λ i j m₁ m₂ less. first_decides i j less) (from_ascending 0 (length g.rows)))
  where
    others : Few lay gs
    others h m = few h (Memᴰ.tail m)

    first_decides : (i j : ℕ) → i < j → (is js : List ℕ) → Memᴰ is (map (λ rest. i ∷ rest) (tuples gs))
        → Memᴰ js (map (λ rest. j ∷ rest) (tuples gs)) → fields lay (suc k) is < fields lay (suc k) js
    first_decides i j less is js m₁ m₂ =
        let a = map_members (λ rest. i ∷ rest) (tuples gs) m₁ in
        let b = map_members (λ rest. j ∷ rest) (tuples gs) m₂ in
        subst₂ (λ (x y : List ℕ). fields lay (suc k) x < fields lay (suc k) y) (sym a.2) (sym b.2)
        (omega (arith, digits_lt less (fields_below lay k (omega arith) others (tuples_within gs a.1))))

module _ {lay : Layout} {G : Groups} (fits : Fits lay G) where
  -- the selections ascend by their keys
  pub selections_ascending : Ascending (λ s t. key_of lay s < key_of lay t) (selections G)
  selections_ascending =
      ascending_flat_map (all_masked G)
      (λ is m. ascending_map (masked G is)
      (ascending_in (mask_decides is) (from_ascending 0 (2 ^ length G.balanced))))
      (ascending_in (λ is js m₁ m₂ less. tuple_decides is js less)
      (tuples_ascending lay lay.constants G.constants fits.few_constants fits.few_rows))
    where
      its_mask : (m : ℕ) → Memᴰ m (below (2 ^ length G.balanced)) → mask (bits (length G.balanced) m) ≡ m
      its_mask m at = bits-mask-below (length G.balanced) m (below_members (2 ^ length G.balanced) at)

      mask_decides : (is : List ℕ) (a b : ℕ) → Memᴰ a (below (2 ^ length G.balanced))
          → Memᴰ b (below (2 ^ length G.balanced)) → a < b
          → key_of lay (masked G is a) < key_of lay (masked G is b)
      mask_decides is a b m₁ m₂ less = omega (arith, its_mask a m₁, its_mask b m₂)

      tuple_decides : (is js : List ℕ) → fields lay lay.constants is < fields lay lay.constants js
          → (s t : Selection) → Memᴰ s (all_masked G is)
          → Memᴰ t (all_masked G js) → key_of lay s < key_of lay t
      tuple_decides is js less s t m₁ m₂ =
          let a = map_members (masked G is) (below (2 ^ length G.balanced)) m₁ in
          let b = map_members (masked G js) (below (2 ^ length G.balanced)) m₂ in
          let fit : mask (bits (length G.balanced) a.0) < 2 ^ lay.rows =
          omega (
            arith,
            its_mask a.0 a.1,
            below_members (2 ^ length G.balanced) a.1,
            pow_mono fits.few_balanced,
          ) in
          subst₂ (λ (x y : Selection). key_of lay x < key_of lay y) (sym a.2) (sym b.2)
          (omega (arith, digits_lt less fit))

  module _ (M : Mode) (L R : List ℕ) where
    -- The list is ascending by key.
    pub keys_ascending : Ascending ◌<◌ (keys M lay L R G)
    keys_ascending =
        ascending_map (key_of lay) (filter_ascending (admissible M lay.new L R G) selections_ascending)

    -- A number is on the list exactly if it is the key of an admissible selection.
    pub listed_exactly : {key : ℕ} → Memᴰ key (keys M lay L R G) ↔ Listed M lay L R G key
    listed_exactly {key} = (only, all)
      where
        only : Memᴰ key (keys M lay L R G) → Listed M lay L R G key
        only m =
            let one = map_members (key_of lay) (listed M lay L R G) m in
            let admitted = filter_member (admissible M lay.new L R G) (selections G) one.1 in
            record {
              selection = one.0;
              of_the_groups = (selections_are G).0 admitted.0;
              is_admissible =
                  admitted.1;
              its_key = one.2;
            }

        all : Listed M lay L R G key → Memᴰ key (keys M lay L R G)
        all names =
            Memᴰ.cast names.its_key
            (members_map (key_of lay)
            (member_filter (admissible M lay.new L R G) ((selections_are G).1 names.of_the_groups)
            names.is_admissible))

    -- A number is on the list exactly if it is a candidate whose selection is admissible.
    pub listed_candidates : {key : ℕ}
        → Memᴰ key (keys M lay L R G)
        ↔ (Candidate lay G key × (admissible M lay.new L R G (selection_at lay G key) ≡ true))
    listed_candidates {key} = (only, all)
      where
        only : Memᴰ key (keys M lay L R G)
            → Candidate lay G key × (admissible M lay.new L R G (selection_at lay G key) ≡ true)
        only m =
            let names = listed_exactly.0 m in (
              subst (Candidate lay G) (sym names.its_key) (selection_candidate fits names.of_the_groups),
              ap (admissible M lay.new L R G)
                  (ap (selection_at lay G) names.its_key ∙ taken_apart fits names.of_the_groups)
                  ∙ names.is_admissible,
            )

        all : Candidate lay G key × (admissible M lay.new L R G (selection_at lay G key) ≡ true)
            → Memᴰ key (keys M lay L R G)
        all h =
            listed_exactly.1
            (record {
              selection = selection_at lay G key;
              of_the_groups = candidate_selection fits h.0;
              is_admissible = h.1;
              its_key = sym (packed fits h.0);
            })

    -- keys have no bit above those of the layout
    pub keys_below : {key : ℕ} → Memᴰ key (keys M lay L R G)
        → key < 2 ^ (lay.index_bits * lay.constants + lay.rows)
    keys_below m = (listed_candidates.0 m).0.no_bit_above
