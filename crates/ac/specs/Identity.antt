-- Sums with an identity (document 02, R-10): what demand 3 says with "non-empty" struck out, and which pairs have no
-- unifier. Then the same in the words of source document 002 (Henz, 1991): terms in which 0 may stand, their equality
-- (Definition 2.4), and complete sets of most general unifiers (Definitions 2.7 and 3.1). proofs/Identity.antt shows that
-- these unifiers are the replacements of flattened sides by sums that may be empty.
use Rattle.std.specs.Prelude.{ℕ, ◌≡◌, Bool, true, cond}
use mathlib.Core.List.{List, [], ◌∷◌, ◌++◌, Memᴰ}
use Rattle.ac.specs.Term.{Term}
use Rattle.ac.specs.Term as base
use Rattle.ac.specs.Pair.{Mode, is_variable, identity, variables, unbalanced}
use Rattle.ac.specs.Rows.{RowOf}
use Rattle.ac.specs.Replacement.{Replacement, put, SameSum, is_new}
use Rattle.ac.specs.Theory.{Theory, MoreGeneral, any_variable, variables_of}
use Rattle.ac.specs.Fages.{comb}

-- A replacement makes the sides equal as multisets, whether or not a value is empty.
abbrev pub MakesEqual : List ℕ → List ℕ → Replacement → Type 0
MakesEqual L R θ = SameSum (put is_variable θ L) (put is_variable θ R)

-- θ is filled from σ on the pair's variables: some sums for the new variables, empty or not, make σ's values θ's.
pub record FilledFrom (new : ℕ) (L R : List ℕ) (σ θ : Replacement) : Type 0 where
  pub fill : Replacement
  pub agrees : (x : ℕ) → Memᴰ x (variables identity L R) → SameSum (θ x) (put (is_new new) fill (σ x))

-- some unbalanced constant has no row
pub record WithoutRow (M : Mode) (L R : List ℕ) : Type 0 where
  pub constant : ℕ
  pub is_unbalanced : Memᴰ constant (unbalanced M L R)
  pub no_row : (v : List ℕ) → RowOf M L R constant v → ⊥

-- A term is an atom, the identity 0, or the sum of two terms.
pub data TermWithZero : Type 0 where
  zero : TermWithZero
  atom : ℕ → TermWithZero
  plus : TermWithZero → TermWithZero → TermWithZero

-- its atoms from left to right, with 0 left out
abbrev pub flatten : TermWithZero → List ℕ
flatten zero = []
flatten (atom a) = a ∷ []
flatten (plus s t) = flatten s ++ flatten t

-- A substitution is a mapping from variables to terms,
abbrev pub Substitution : Type 0
Substitution = ℕ → TermWithZero

-- extended to a mapping on terms. Which atoms are variables is said apart; the others are constants and stay.
abbrev pub apply : (ℕ → Bool) → Substitution → TermWithZero → TermWithZero
apply variable σ zero = zero
apply variable σ (atom a) = cond (variable a) (σ a) (atom a)
apply variable σ (plus s t) = plus (apply variable σ s) (apply variable σ t)

-- The associative commutative theory with identities, =AC1 (Definition 2.4), where a sum has two arguments: the
-- equational theory induced by equations that express associativity, commutativity and identity.
infix 4 ◌=AC1◌
pub data ◌=AC1◌ : TermWithZero → TermWithZero → Type 0 where
  associative : (s t u : TermWithZero) → plus (plus s t) u =AC1 plus s (plus t u)
  commutative : (s t : TermWithZero) → plus s t =AC1 plus t s
  identical : (s : TermWithZero) → plus s zero =AC1 s
  congruent : {s s' t t' : TermWithZero} → s =AC1 s' → t =AC1 t' → plus s t =AC1 plus s' t'
  reflexive : (s : TermWithZero) → s =AC1 s
  symmetric : {s t : TermWithZero} → s =AC1 t → t =AC1 s
  transitive : {s t u : TermWithZero} → s =AC1 t → t =AC1 u → s =AC1 u

-- a term of document 01, in which there is no identity
abbrev pub from_term : Term → TermWithZero
from_term (base.atom a) = atom a
from_term (base.plus s t) = plus (from_term s) (from_term t)

-- the term of a list of atoms; that of none is 0
abbrev pub tree : List ℕ → TermWithZero
tree [] = zero
tree (a ∷ rest) = from_term (comb a rest)

-- the theory
abbrev pub AC1 : Theory
AC1 = record { Terms = TermWithZero; atom = atom; flatten = flatten; tree = tree; apply = apply; equal = ◌=AC1◌ }

-- A solution of the problem to unify s and t (Definition 2.7): a substitution with s σ =AC1 t σ whose domain, the atoms
-- that it changes, lies within the variables of s and t.
pub record Solution (s t : TermWithZero) (σ : Substitution) : Type 0 where
  pub domain : (x : ℕ) → (Memᴰ x (variables_of AC1 identity s t) → ⊥) → σ x ≡ atom x
  pub equal : apply identity.moves σ s =AC1 apply identity.moves σ t

-- σ subsumes θ (section 3.1): there is a substitution ρ such that σ ρ and θ are AC1-equal on the variables of s and t.
abbrev pub Subsumes : ℕ → TermWithZero → TermWithZero → Substitution → Substitution → Type 0
Subsumes new s t σ θ = MoreGeneral AC1 (any_variable identity new) (variables_of AC1 identity s t) σ θ

-- A complete set of most general AC1-unifiers of s and t (Definition 3.1).
pub record MostGeneralSet (new : ℕ) (s t : TermWithZero) (unifiers : List Substitution) : Type 0 where
  -- each is a solution,
  pub correctness : (σ : Substitution) → Memᴰ σ unifiers → Solution s t σ
  -- each solution is subsumed by one of them,
  pub completeness : (θ : Substitution) → Solution s t θ
      → (σ : Substitution) × Memᴰ σ unifiers × Subsumes new s t σ θ
  -- no variable in the range of one, which is in what it gives its domain, is in its domain,
  pub idempotency : (σ : Substitution) → Memᴰ σ unifiers → (x y : ℕ) → (σ x ≡ atom x → ⊥)
      → Memᴰ y (flatten (σ x)) → any_variable identity new y ≡ true → σ y ≡ atom y
  -- and two of them are incomparable.
  pub incomparable : (σ σ' : Substitution) → Memᴰ σ unifiers → Memᴰ σ' unifiers
      → Subsumes new s t σ σ' → σ ≡ σ'
