-- Matching against a fixed subject (document 02, R-4): "Every replacement of the left variables by non-empty sums that
-- makes the sides equal is listed, and exactly once." The left side is the pattern, the right side the subject.
use Rattle.std.specs.Prelude.{ℕ, ◌<◌, ◌≡◌, true, length}
use mathlib.Core.List.{List, Memᴰ}
use Rattle.ac.specs.Term.{Term}
use Rattle.ac.specs.Pair.{is_variable, matching}
use Rattle.ac.specs.Rows.{Groups}
use Rattle.ac.specs.Selection.{Selection, SelectionOf, admissible, value}
use Rattle.ac.specs.Keys.{Layout, selection_at, keys}
use Rattle.ac.specs.Replacement.{Replacement, put, SameSum}
use Rattle.ac.specs.Fages.{Substitution, apply, ◌=AC◌}

-- a variable that stands on the left
pub record LeftVariable (L : List ℕ) (x : ℕ) : Type 0 where
  pub is_variable : is_variable x ≡ true
  pub on_left : Memᴰ x L

-- A match: a replacement that makes the sides equal. The right side stays as it stands, so its variables may stand in
-- values.
pub record Match (L R : List ℕ) (θ : Replacement) : Type 0 where
  -- each left variable gets a non-empty sum,
  pub non_empty : (x : ℕ) → LeftVariable L x → 0 < length (θ x)
  -- and the left side with these sums put in has the same atoms as the right side
  pub equal : SameSum (put is_variable θ L) R

-- The same of terms: the substitution makes the pattern the subject.
abbrev pub Covers : Term → Term → Substitution → Type 0
Covers pattern subject σ = apply is_variable σ pattern =AC subject

-- there is no match
abbrev pub NoMatch : List ℕ → List ℕ → Type 0
NoMatch L R = (θ : Replacement) → Match L R θ → ⊥

-- no variable stands on both sides
abbrev pub Separate : List ℕ → List ℕ → Type 0
Separate L R = (a : ℕ) → is_variable a ≡ true → Memᴰ a L → Memᴰ a R → ⊥

-- two matches are the same if they give each left variable the same sum
abbrev pub SameMatch : List ℕ → Replacement → Replacement → Type 0
SameMatch L θ σ = (x : ℕ) → LeftVariable L x → SameSum (θ x) (σ x)

-- exactly one has it
pub record ExactlyOne {A : Type 0} (Has : A → Type 0) : Type 0 where
  pub one : A
  pub has : Has one
  pub no_other : (other : A) → Has other → other ≡ one

-- the selection is an admissible one of the groups, and its values are the match
pub record SelectsMatch (new : ℕ) (L R : List ℕ) (G : Groups) (θ : Replacement) (s : Selection) : Type 0 where
  pub of_the_groups : SelectionOf G s
  pub is_admissible : admissible (matching L) new L R G s ≡ true
  pub its_values : SameMatch L θ (value (matching L) new L R G s)

-- the key is on the list, and its values are the match
pub record ListsMatch (lay : Layout) (L R : List ℕ) (G : Groups) (θ : Replacement) (key : ℕ) : Type 0 where
  pub on_list : Memᴰ key (keys (matching L) lay L R G)
  pub its_values : SameMatch L θ (value (matching L) lay.new L R G (selection_at lay G key))
