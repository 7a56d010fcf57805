-- Unifiers in an equational theory, in the words of source document 000 (Fages, RR-0287, sections 1.1 and 1.2). Which
-- theory it is, its terms and their equality say: Fages.antt has that of associativity and commutativity, Identity.antt
-- that of an identity beside them.
use Rattle.std.specs.Prelude.{ℕ, ◌≡◌, Bool, false, cond, ◌||◌, ltb}
use mathlib.Core.List.{List, Memᴰ}
use Rattle.ac.specs.Pair.{Mode, count, variables}
use Rattle.ac.specs.Rows.{Groups}
use Rattle.ac.specs.Selection.{Selection, value}
use Rattle.ac.specs.Replacement.{is_new}

-- A theory on terms whose variables and constants are atoms.
pub record Theory : Type 1 where
  -- the terms, among them each atom
  pub Terms : Type 0
  pub atom : ℕ → Terms
  -- the atoms of a term from left to right, and a term of some atoms
  pub flatten : Terms → List ℕ
  pub tree : List ℕ → Terms
  -- A mapping from variables to terms extended to terms, as an endomorphism. Which atoms are variables is said apart;
  -- the others are constants and stay.
  pub apply : (ℕ → Bool) → (ℕ → Terms) → Terms → Terms
  -- equality in the theory
  pub equal : Terms → Terms → Type 0

module _ (T : Theory) where
  -- The substitutions are all mappings from variables to terms.
  abbrev pub Substitution : Type 0
  Substitution = ℕ → T.Terms

  -- A substitution σ is a unifier of s and t if and only if σ s and σ t are equal in the theory.
  abbrev pub Unifier : Mode → T.Terms → T.Terms → Substitution → Type 0
  Unifier M s t σ = T.equal (T.apply M.moves σ s) (T.apply M.moves σ t)

  -- σ is more general than σ' over some variables if and only if there is an η such that η σ and σ' are equal there.
  pub record MoreGeneral (variable : ℕ → Bool) (over : List ℕ) (σ σ' : Substitution) : Type 0 where
    pub η : Substitution
    pub instances : (x : ℕ) → Memᴰ x over → T.equal (T.apply variable η (σ x)) (σ' x)

  -- no value on these variables holds an atom that moves
  abbrev pub Pure : (ℕ → Bool) → List ℕ → Substitution → Type 0
  Pure moves over σ = (x a : ℕ) → Memᴰ x over → Memᴰ a (T.flatten (σ x)) → moves a ≡ false

  -- the variables of the two terms
  abbrev pub variables_of : Mode → T.Terms → T.Terms → List ℕ
  variables_of M s t = variables M (T.flatten s) (T.flatten t)

-- The variables that η may move are those of terms and the new ones of answers. A unifier of a complete set
-- is pure: its values hold no variable of terms, but only new ones ("it is necessary to separate the
-- variables introduced by unification from the variables of the context"). On such values η does what it does
-- to the new variables, so "comes from" fills those alone; `every_variable` of proofs/Theory.antt is the
-- proof.
abbrev pub any_variable : Mode → ℕ → ℕ → Bool
any_variable M new a = M.moves a || is_new new a

-- A complete set of minimal unifiers of s and t away from W (section 1.2.2), where W is every variable of
-- terms: a) D(σ) ⊆ V and R(σ) ∩ W = ∅ (purity), b) each is a unifier (correctness), c) each unifier ρ has one
-- that is more general over V (completeness), d) none is more general over V than another (minimality), V
-- being the variables of s and t.
pub record MinimalSet (T : Theory) (M : Mode) (new : ℕ) (s t : T.Terms) (unifiers : List (Substitution T)) : Type 0 where
  pub domain : (σ : Substitution T) → Memᴰ σ unifiers → (x : ℕ) → (Memᴰ x (variables_of T M s t) → ⊥)
      → σ x ≡ T.atom x
  pub purity : (σ : Substitution T) → Memᴰ σ unifiers → Pure T M.moves (variables_of T M s t) σ
  pub correctness : (σ : Substitution T) → Memᴰ σ unifiers → Unifier T M s t σ
  pub completeness : (ρ : Substitution T) → Unifier T M s t ρ
      → (σ : Substitution T) × Memᴰ σ unifiers × MoreGeneral T (any_variable M new) (variables_of T M s t) σ ρ
  pub minimality : (σ σ' : Substitution T) → Memᴰ σ unifiers → Memᴰ σ' unifiers
      → MoreGeneral T (any_variable M new) (variables_of T M s t) σ σ'
      → σ ≡ σ'

-- the substitution that a selection gives: its values for the pair's variables, and nothing else is moved
abbrev pub substitution_of : (T : Theory) → Mode → ℕ → List ℕ → List ℕ → Groups → Selection → Substitution T
substitution_of T M new L R G s x =
    cond (ltb 0 (count x (variables M L R))) (T.tree (value M new L R G s x)) (T.atom x)
