-- Pairs that are alike have the same groups and the same list; and the same of the numbers 7 to 12 and 19 are given.
use Prim.Native.Nat.{ℕ, ◌<◌}
use mathlib.Core.Path.{◌≡◌, refl, sym, ap, ap₂, subst, ◌∙◌, fun_ext}
use mathlib.Core.Logic.{◌↔◌}
use mathlib.Core.Bool.{Bool, true, false}
use mathlib.Core.List.{List, map}
use lib.IntN.{pos, neg_ℤ, neg_ℤ-neg_ℤ}
use lib.ListN.{length}
use Rattle.ac.specs.Lists.{filter}
use Rattle.ac.specs.Limits.{Limits}
use Rattle.ac.specs.Pair.{Mode, net, variables}
use Rattle.ac.specs.Rows.{weigh, weight, BalancedRow, RowOf, Groups, GroupsOf}
use Rattle.ac.specs.Selection.{Selection, taken, all_reached, all_taken}
use Rattle.ac.specs.Keys.{Layout, key_of, selections, keys}
use Rattle.ac.specs.Weighed.{candidates}
use Rattle.ac.proofs.Vectors.{least_same, exactly_same}
use Rattle.ac.proofs.Negated.{weigh_negated}
use Rattle.numbers.specs.Order.{uncounted_numbers}
use Rattle.numbers.proofs.Carried.{its_member}
use Rattle.pair.specs.Given.{PairGiven, side_length, no_atom, on_both_sides, many_variables, far_net_count, many_constants, many_rows}
use Rattle.whole.specs.Alike.{NetsAlike, equal, opposite, Alike}
use Rattle.whole.proofs.Alike.{alike_symmetric, far_carried}

-- ---- the groups

module _ {limits : Limits} {M M' : Mode} {L R L' R' : List ℕ} (alike : Alike limits M L R M' L' R') where
  -- over the same variables equal net counts give equal weights, ..
  weight_equal : ((a : ℕ) → net L R a ≡ net L' R' a) → (v : List ℕ) → weight M L R v ≡ weight M' L' R' v
  weight_equal nets v = ap₂ (λ counts xs. weigh counts xs v) (fun_ext nets) alike.same_variables

  -- .. and opposite ones opposite weights
  weight_opposite : ((a : ℕ) → net L R a ≡ neg_ℤ (net L' R' a)) → (v : List ℕ)
      → weight M L R v ≡ neg_ℤ (weight M' L' R' v)
  weight_opposite nets v =
      ap₂ (λ counts xs. weigh counts xs v) (fun_ext nets) alike.same_variables
      ∙ weigh_negated (net L' R') (variables M' L' R') v

  -- so a vector of weight 0 is one in both pairs
  zero_carried : NetsAlike L R L' R' → (v : List ℕ) → weight M L R v ≡ pos 0 → weight M' L' R' v ≡ pos 0
  zero_carried (equal nets) v e = sym (weight_equal nets v) ∙ e
  zero_carried (opposite nets) v e =
      sym (neg_ℤ-neg_ℤ (weight M' L' R' v)) ∙ ap neg_ℤ (sym (weight_opposite nets v) ∙ e)

  -- and so is one whose weight is minus a constant's net count
  constant_carried : NetsAlike L R L' R' → (c : ℕ) (v : List ℕ) → weight M L R v ≡ neg_ℤ (net L R c)
      → weight M' L' R' v ≡ neg_ℤ (net L' R' c)
  constant_carried (equal nets) c v e = sym (weight_equal nets v) ∙ e ∙ ap neg_ℤ (nets c)
  constant_carried (opposite nets) c v e =
      sym (neg_ℤ-neg_ℤ (weight M' L' R' v))
      ∙ ap neg_ℤ (sym (weight_opposite nets v) ∙ e ∙ ap neg_ℤ (nets c) ∙ neg_ℤ-neg_ℤ (net L' R' c))

-- the rows of the one pair are rows of the other
balanced_carried : {limits : Limits} {M M' : Mode} {L R L' R' : List ℕ} → Alike limits M L R M' L' R' → (v : List ℕ)
    → BalancedRow M L R v → BalancedRow M' L' R' v
balanced_carried alike v row =
    let back = alike_symmetric alike in
    record {
      vector = row.vector ∙ ap length alike.same_variables;
      least = least_same
          (λ u below. (
            λ has. (has.0, zero_carried alike alike.nets_alike u has.1),
            λ has. (has.0, zero_carried back back.nets_alike u has.1),
          )) row.least;
    }

row_carried : {limits : Limits} {M M' : Mode} {L R L' R' : List ℕ} → Alike limits M L R M' L' R' → (c : ℕ) (v : List ℕ)
    → RowOf M L R c v → RowOf M' L' R' c v
row_carried alike c v row =
    let back = alike_symmetric alike in
    record {
      vector = row.vector ∙ ap length alike.same_variables;
      least = least_same
          (λ u below. (
            constant_carried alike alike.nets_alike c u,
            constant_carried back back.nets_alike c u,
          )) row.least;
    }

module _ {limits : Limits} {M M' : Mode} {L R L' R' : List ℕ} (alike : Alike limits M L R M' L' R') where
  -- The groups of the one pair are those of the other.
  pub groups_carried : {G : Groups} → GroupsOf M L R G → GroupsOf M' L' R' G
  groups_carried of =
      let back = alike_symmetric alike in
      record {
        balanced_rows = exactly_same (λ v. (balanced_carried alike v, balanced_carried back v)) of.balanced_rows;
        the_constants = of.the_constants ∙ alike.same_constants;
        constant_rows =
            λ g m. exactly_same (λ v. (row_carried alike g.constant v, row_carried back g.constant v))
            (of.constant_rows g m);
      }

  -- ---- the list, and the values of its keys

  -- what makes a selection admissible, by whether a variable may be empty and by the variables
  abbrev admits : Layout → Groups → Bool → List ℕ → Selection → Bool
  admits lay G empties xs s = elim empties [
    | true ↦ all_taken s.takes
    | false ↦ all_reached (taken lay.new G s) (length xs)
  ]

  -- The list is the same.
  pub keys_alike : (lay : Layout) (G : Groups) → keys M lay L R G ≡ keys M' lay L' R' G
  keys_alike lay G =
      ap₂ (λ empties xs. map (key_of lay) (filter (admits lay G empties xs) (selections G))) alike.same_emptying
      alike.same_variables

  -- So are the candidates.
  pub candidates_alike : (lay : Layout) (G : Groups) → candidates M lay G ≡ candidates M' lay G
  candidates_alike lay G =
      ap (λ empties. map (key_of lay)
      (filter (λ s. elim empties [ true ↦ all_taken s.takes | false ↦ true ]) (selections G))) alike.same_emptying

-- ---- the numbers

-- What the one pair gives of the numbers 7 to 12 and 19, the other gives.
given_carried : {limits : Limits} {M M' : Mode} {L R L' R' : List ℕ} → Alike limits M L R M' L' R' → {n : ℕ}
    → PairGiven limits M L R n → PairGiven limits M' L' R' n
given_carried alike (side_length one wrong) =
    (alike.same_uncounted 7 (its_member uncounted_numbers refl)).0 (side_length one wrong)
given_carried alike (no_atom one wrong) =
    (alike.same_uncounted 8 (its_member uncounted_numbers refl)).0 (no_atom one wrong)
given_carried alike (on_both_sides separate shared) = alike.same_shared.0 (on_both_sides separate shared)
given_carried {limits} alike (many_variables many) =
    many_variables (subst (λ xs. limits.variables < length xs) alike.same_variables many)
given_carried {limits} alike (far_net_count a far) = far_net_count a (far_carried limits alike.nets_alike a far)
given_carried {limits} alike (many_constants many) =
    many_constants (subst (λ cs. limits.constants < length cs) alike.same_constants many)
given_carried alike (many_rows of many) = many_rows (groups_carried alike of) many

pub pair_given_alike : {limits : Limits} {M M' : Mode} {L R L' R' : List ℕ} → Alike limits M L R M' L' R' → (n : ℕ)
    → PairGiven limits M L R n ↔ PairGiven limits M' L' R' n
pair_given_alike alike n = (given_carried alike, given_carried (alike_symmetric alike))
