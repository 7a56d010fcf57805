-- The theory of associativity and commutativity in the words of source document 000 (Fages, RR-0287, sections 1.1
-- and 3.1), where terms are trees; what a unifier in it is, is said in Theory.antt. proofs/Fages.antt shows that its
-- unifiers are the replacements of flattened sides.
use Rattle.std.specs.Prelude.{ℕ, Bool, cond, List, [], ◌∷◌}
use Rattle.ac.specs.Term.{Term, atom, plus, flatten}
use Rattle.ac.specs.Theory.{Theory}

-- The substitutions are all mappings from variables to terms,
abbrev pub Substitution : Type 0
Substitution = ℕ → Term

-- extended to terms as endomorphisms. Which atoms are variables is said apart; the others are constants and stay.
abbrev pub apply : (ℕ → Bool) → Substitution → Term → Term
apply variable σ (atom a) = cond (variable a) (σ a) (atom a)
apply variable σ (plus s t) = plus (apply variable σ s) (apply variable σ t)

-- The equational theory of x + y = y + x and (x + y) + z = x + (y + z): the finest congruence that holds all
-- their instances.
infix 4 ◌=AC◌
pub data ◌=AC◌ : Term → Term → Type 0 where
  commutative : (s t : Term) → plus s t =AC plus t s
  associative : (s t u : Term) → plus (plus s t) u =AC plus s (plus t u)
  congruent : {s s' t t' : Term} → s =AC s' → t =AC t' → plus s t =AC plus s' t'
  reflexive : (s : Term) → s =AC s
  symmetric : {s t : Term} → s =AC t → t =AC s
  transitive : {s t u : Term} → s =AC t → t =AC u → s =AC u

-- the term of an atom and others after it, leaning to the right
abbrev pub comb : ℕ → List ℕ → Term
comb a [] = atom a
comb a (b ∷ rest) = plus (atom a) (comb b rest)

-- the term of a list of atoms; the empty list, which is no term's flattening, gets any
abbrev pub tree : List ℕ → Term
tree [] = atom 0
tree (a ∷ rest) = comb a rest

-- the theory
abbrev pub Ac : Theory
Ac = record { Terms = Term; atom = atom; flatten = flatten; tree = tree; apply = apply; equal = ◌=AC◌ }
