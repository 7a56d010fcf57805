-- The list in the words of source document 000: the substitutions of the listed selections are a complete set
-- of minimal unifiers, in every theory whose terms are sums of atoms.
use Prim.Native.Nat.{ℕ, ◌≤◌}
use native.Mathlib.Omega.{arith}
use mathlib.Core.Path.{◌≡◌, refl, sym, ap, subst, subst₂, ◌∙◌}
use mathlib.Core.Logic.{◌↔◌, ⊎_elim}
use mathlib.Core.Bool.{true, false, cond}
use mathlib.Core.List.{List, map, Memᴰ}
use borrow.Author.Tests.{lt-ltb, le-ltb}
use lib.Dec.{lit≤}
use Rattle.ac.specs.Term.{Term, flatten}
use Rattle.ac.specs.Pair.{Mode, IsSide, unifying, count}
use Rattle.ac.specs.Rows.{Groups, GroupsOf}
use Rattle.ac.specs.Selection.{Selection, SelectionOf, admissible, value}
use Rattle.ac.specs.Keys.{Layout, layout, selections, listed}
use Rattle.ac.specs.Replacement.{Replacement, Unifies, ComesFrom}
use Rattle.ac.specs.Theory.{Theory, Substitution, Unifier, MoreGeneral, Pure, any_variable, variables_of, substitution_of, MinimalSet}
use Rattle.ac.specs.Fages.{Ac}
use Rattle.ac.proofs.Order.{filter_member, member_filter}
use Rattle.ac.proofs.Members.{map_members, members_map}
use Rattle.ac.proofs.Listed.{selections_are}
use Rattle.ac.proofs.Counts.{count_some, count_none}
use Rattle.ac.proofs.Atoms.{value_atoms}
use Rattle.ac.proofs.Replaced.{unbalanced_cases}
use Rattle.ac.proofs.Theorems.{sound, complete, independent}
use Rattle.ac.proofs.Agree.{Agree, unifies_alike, comes_alike}
use Rattle.ac.proofs.Theory.{Sums, flattened, unifier_unifies, more_general, every_variable}
use Rattle.ac.proofs.Fages.{ac_sums}

module _ {T : Theory} {M : Mode} (sums : Sums T M) (lay : Layout) (s t : T.Terms) (left : IsSide (T.flatten s))
    (right : IsSide (T.flatten t))
    (above : 128 ≤ lay.new) (stay : (a : ℕ) → lay.new ≤ a → M.moves a ≡ false) {G : Groups}
    (groups : GroupsOf M (T.flatten s) (T.flatten t) G) where
  -- the flattened sides
  abbrev L : List ℕ
  L = T.flatten s

  abbrev R : List ℕ
  R = T.flatten t

  -- what a selection gives, as a replacement and as a substitution
  abbrev values : Selection → Replacement
  values k = value M lay.new L R G k

  abbrev substitution : Selection → Substitution T
  substitution k = substitution_of T M lay.new L R G k

  abbrev Admitted : Selection → Type 0
  Admitted k = SelectionOf G k × (admissible M lay.new L R G k ≡ true)

  unifies : {k : Selection} → Admitted k → Unifies M L R (values k)
  unifies {k} ok = sound M lay.new L R left right groups ok.0 ok.1

  -- on the pair's variables the substitution is that of the values, and elsewhere it moves nothing
  its_values : {k : Selection} → Admitted k → Agree (variables_of T M s t) (flattened T (substitution k)) (values k)
  its_values {k} ok x m =
      ap (λ b. T.flatten (cond b (T.tree (values k x)) (T.atom x)))
      (lt-ltb 0 (count x (variables_of T M s t)) (count_some x (variables_of T M s t) m))
      ∙ sums.flatten_tree (values k x) ((unifies ok).non_empty x m)

  elsewhere : (k : Selection) (x : ℕ) → (Memᴰ x (variables_of T M s t) → ⊥) → substitution k x ≡ T.atom x
  elsewhere k x absent =
      ap (λ b. cond b (T.tree (values k x)) (T.atom x))
      (le-ltb 0 (count x (variables_of T M s t)) (omega (arith, count_none x (variables_of T M s t) absent)))

  pure : {k : Selection} → Admitted k → Pure T M.moves (variables_of T M s t) (substitution k)
  pure {k} ok x a m at =
      ⊎_elim (λ constant. (unbalanced_cases M L R a constant).1) (λ fresh. stay a fresh.0)
      (value_atoms M lay.new L R groups ok.0 x
      (subst (Memᴰ a) (its_values ok x m) at))

  -- "more general" among them and above them is "comes from"
  general : {k : Selection} → Admitted k → (ρ : Substitution T)
      → MoreGeneral T (any_variable M lay.new) (variables_of T M s t) (substitution k) ρ
      ↔ ComesFrom M lay.new L R (values k) (flattened T ρ)
  general {k} ok ρ = (
    λ more.
        comes_alike M lay.new L R (its_values ok) (λ x m. refl)
        ((more_general sums s t lay.new (substitution k) ρ).0
        ((every_variable sums lay.new (variables_of T M s t) (substitution k) ρ (pure ok)).0 more)),
    λ comes.
        (every_variable sums lay.new (variables_of T M s t) (substitution k) ρ (pure ok)).1
        ((more_general sums s t lay.new (substitution k) ρ).1
        (comes_alike M lay.new L R (λ x m. sym (its_values ok x m)) (λ x m. refl) comes)),
  )

  listed_admitted : {k : Selection} → Memᴰ k (listed M lay L R G) → Admitted k
  listed_admitted {k} m =
      let both = filter_member (admissible M lay.new L R G) (selections G) m in
      ((selections_are G).0 both.0, both.1)

  admitted_listed : {k : Selection} → Admitted k → Memᴰ k (listed M lay L R G)
  admitted_listed {k} ok =
      member_filter (admissible M lay.new L R G) ((selections_are G).1 ok.0) ok.1

  correct : {k : Selection} → Admitted k → Unifier T M s t (substitution k)
  correct {k} ok =
      (unifier_unifies sums s t (substitution k)).1
      (unifies_alike M L R left right (λ x m. sym (its_values ok x m)) (unifies ok))

  minimal : {k l : Selection} → Admitted k → Admitted l
      → MoreGeneral T (any_variable M lay.new) (variables_of T M s t) (substitution k) (substitution l) → k ≡ l
  minimal {k} {l} ok ok' more =
      independent M lay.new L R above groups ok.0 ok'.0 ok.1 ok'.1
      (comes_alike M lay.new L R (λ x m. refl) (its_values ok')
      ((general ok (substitution l)).0 more))

  covered : (ρ : Substitution T) → Unifier T M s t ρ
      → (k : Selection) × Admitted k × MoreGeneral T (any_variable M lay.new) (variables_of T M s t) (substitution k) ρ
  covered ρ unifier =
      let found = complete M lay.new L R left right above groups
      ((unifier_unifies sums s t ρ).0 unifier) in
      (found.0, (found.1, found.2), (general (found.1, found.2) ρ).1 found.3)

  -- The substitutions of the listed selections are a complete set of minimal unifiers of the two terms.
  pub minimal_set : MinimalSet T M lay.new s t (map substitution (listed M lay L R G))
  minimal_set =
      record {
        domain = λ σ m x absent. let k =
            of_selection m in ap (λ (σ : Substitution T). σ x) k.2 ∙ elsewhere k.0 x absent;
        purity = λ σ m. let k = of_selection m in subst (Pure T M.moves (variables_of T M s t)) (sym k.2)
            (pure (listed_admitted k.1));
        correctness = λ σ m. let k =
            of_selection m in subst (Unifier T M s t) (sym k.2) (correct (listed_admitted k.1));
        completeness =
            λ ρ unifier.
            let found = covered ρ unifier in
            (substitution found.0, members_map substitution (admitted_listed found.1), found.2);
        minimality =
            λ σ σ' m m' more.
            let k = of_selection m in
            let l = of_selection m' in
            k.2
            ∙ ap substitution
            (minimal (listed_admitted k.1) (listed_admitted l.1)
            (subst₂ (MoreGeneral T (any_variable M lay.new) (variables_of T M s t)) k.2 l.2 more))
            ∙ sym l.2;
      }
    where
      of_selection : {σ : Substitution T} → Memᴰ σ (map substitution (listed M lay L R G))
          → (k : Selection) × Memᴰ k (listed M lay L R G) × (σ ≡ substitution k)
      of_selection m = map_members substitution (listed M lay L R G) m

-- For document 01's atoms and keys.
pub unifying_minimal_set : (s t : Term) → IsSide (flatten s) → IsSide (flatten t) → {G : Groups}
    → GroupsOf unifying (flatten s) (flatten t) G
    → MinimalSet Ac unifying 192 s t (map (substitution_of Ac unifying 192 (flatten s) (flatten t) G)
    (listed unifying layout (flatten s) (flatten t) G))
unifying_minimal_set s t left right groups =
    minimal_set (ac_sums refl) layout s t left right (lit≤ tt) (λ a new. le-ltb a 64 (omega arith)) groups
