-- What is read back from the answers of Values as substitutions: those of the listed selections, and so a
-- complete set of minimal unifiers of two terms whose flattened sides were asked for.
use Prim.Native.Nat.{ℕ, ◌≤◌}
use mathlib.Core.Path.{◌≡◌, refl, sym, ap, ap₂, subst, ◌∙◌, fun_ext}
use mathlib.Core.Bool.{Bool, true, false, cond}
use mathlib.Core.List.{List, [], ◌∷◌, map, Memᴰ}
use borrow.Author.Tests.{ltb-true}
use lib.Dec.{ltb, lit≤}
use lib.ListN.{length, drop}
use lib.Seq.{take-append_seam}
use Rattle.ac.specs.Pair.{Mode, count, variables}
use Rattle.ac.specs.Rows.{Groups, GroupsOf}
use Rattle.ac.specs.Selection.{Selection, SelectionOf, admissible, value}
use Rattle.ac.specs.Keys.{layout, key_of, selection_at, selections, listed, start, Fits}
use Rattle.ac.specs.Pages.{together}
use Rattle.ac.specs.Values.{Binding, laid_out, bindings}
use Rattle.ac.specs.Replacement.{Replacement}
use Rattle.ac.specs.Theory.{Theory, Substitution, substitution_of, MinimalSet}
use Rattle.ac.proofs.Counts.{count_member}
use Rattle.ac.proofs.Groups.{groups_exist, groups_unique}
use Rattle.ac.proofs.Keys.{taken_apart}
use Rattle.ac.proofs.Order.{filter_member}
use Rattle.ac.proofs.Listed.{selections_are}
use Rattle.ac.proofs.Theory.{Sums}
use Rattle.ac.proofs.MinimalSet.{minimal_set}
use Rattle.numbers.specs.Outcome.{is_given}
use Rattle.solver.specs.Pages.{PagesAsked}
use Rattle.solver.specs.Values.{values, values_of}
use Rattle.solver.proofs.Pages.{asked_within, pages_hold_the_list}
use Rattle.whole.specs.Whole.{read_back, ValuesAsked, no_more, one_more}
use Rattle.whole.specs.Unifiers.{read_substitution}
use Rattle.whole.proofs.ReadBack.{taken_apart-laid_out, read_back-laid_out}

-- the variables that are laid out stand in the bytes
variables_bound : (θ : Replacement) (xs : List ℕ) → map (λ (b : Binding). b.variable) (bindings θ xs) ≡ xs
variables_bound θ [] = refl
variables_bound θ (x ∷ xs) = ap {B = List ℕ} (λ l. x ∷ l) (variables_bound θ xs)

-- so each of them becomes the term of its value, and every other atom stays
read_laid_out : (T : Theory) (θ : Replacement) (xs : List ℕ) (x : ℕ)
    → read_substitution T (laid_out (bindings θ xs)) x ≡ cond (ltb 0 (count x xs)) (T.tree (θ x)) (T.atom x)
read_laid_out T θ xs x =
    ap (λ (ys : List ℕ). cond (ltb 0 (count x ys)) (T.tree (read_back (laid_out (bindings θ xs)) x)) (T.atom x))
    (ap (map (λ (b : Binding). b.variable)) (taken_apart-laid_out (bindings θ xs)) ∙ variables_bound θ xs)
    ∙ by_test (ltb 0 (count x xs)) refl
  where
    by_test : (b : Bool) → ltb 0 (count x xs) ≡ b
        → cond b (T.tree (read_back (laid_out (bindings θ xs)) x)) (T.atom x) ≡ cond b (T.tree (θ x)) (T.atom x)
    by_test true stands = ap T.tree (read_back-laid_out θ (count_member x xs (ltb-true 0 (count x xs) stands)))
    by_test false absent = refl

module _ {M : Mode} {L R : List ℕ} {G : Groups} (of : GroupsOf M L R G) where
  -- what Values writes of a key is read back as the substitution of the key's selection
  values_substitution : (T : Theory) (key : ℕ)
      → read_substitution T (values_of M L R G key)
      ≡ substitution_of T M layout.new L R G (selection_at layout G key)
  values_substitution T key =
      fun_ext (read_laid_out T (value M layout.new L R G (selection_at layout G key)) (variables M L R))

  -- each answer is what Values writes of its key
  answers_are : {asked : List ℕ} {answers : List (List ℕ)} → ValuesAsked M L R asked answers
      → answers ≡ map (values_of M L R G) asked
  answers_are no_more = refl
  answers_are (one_more {key = key} {out = out} (is_given none (values {G = H} others)) rest) =
      ap₂ {C = List (List ℕ)} (λ a as'. a ∷ as')
      (take-append_seam (values_of M L R H key) (drop (length (values_of M L R H key)) out)
      ∙ ap (λ K. values_of M L R K key) (groups_unique M L R others of))
      (answers_are rest)

  -- so the answers to the keys of selections are read back as the selections' substitutions
  read_as_substitutions : (T : Theory) → Fits layout G → (ks : List Selection)
      → ((k : Selection) → Memᴰ k ks → SelectionOf G k)
      → map (read_substitution T) (map (values_of M L R G) (map (key_of layout) ks))
      ≡ map (substitution_of T M layout.new L R G) ks
  read_as_substitutions T fits [] selection = refl
  read_as_substitutions T fits (k ∷ ks) selection =
      ap₂ {C = List (Substitution T)} (λ σ σs. σ ∷ σs)
      (values_substitution T (key_of layout k)
      ∙ ap (substitution_of T M layout.new L R G) (taken_apart fits (selection k (Memᴰ.head refl))))
      (read_as_substitutions T fits ks (λ l m. selection l (Memᴰ.tail m)))

module _ (T : Theory) {M : Mode} (s t : T.Terms) {G : Groups} (of : GroupsOf M (T.flatten s) (T.flatten t) G) where
  -- the substitutions read back from all answers are those of the listed selections
  read_listed : {pages answers : List (List ℕ)} → PagesAsked M (T.flatten s) (T.flatten t) start pages
      → ValuesAsked M (T.flatten s) (T.flatten t) (together pages) answers
      → map (read_substitution T) answers
      ≡ map (substitution_of T M layout.new (T.flatten s) (T.flatten t) G)
      (listed M layout (T.flatten s) (T.flatten t) G)
  read_listed asked answered =
      ap (map (read_substitution T))
      (answers_are of answered
      ∙ ap (map (values_of M (T.flatten s) (T.flatten t) G)) (pages_hold_the_list of asked).whole)
      ∙ read_as_substitutions of T ((asked_within refl asked).groups_fit G of)
      (listed M layout (T.flatten s) (T.flatten t) G)
      (λ k m. (selections_are G).0
      (filter_member (admissible M layout.new (T.flatten s) (T.flatten t) G) (selections G) m).0)

-- The substitutions read back from all answers are a complete set of minimal unifiers, in every mode in which no new
-- variable moves, and in the theory whose terms are its sums.
pub answers_minimal_set : {T : Theory} {M : Mode} → Sums T M → ((a : ℕ) → layout.new ≤ a → M.moves a ≡ false)
    → (s t : T.Terms) {pages answers : List (List ℕ)} → PagesAsked M (T.flatten s) (T.flatten t) start pages
    → ValuesAsked M (T.flatten s) (T.flatten t) (together pages) answers
    → MinimalSet T M layout.new s t (map (read_substitution T) answers)
answers_minimal_set {T} {M} sums stay s t asked answered =
    let of = groups_exist M (T.flatten s) (T.flatten t) in
    let fine = asked_within refl asked in
    subst (MinimalSet T M layout.new s t) (sym (read_listed T s t of asked answered))
    (minimal_set sums layout s t fine.left_side fine.right_side (lit≤ tt) stay of)
