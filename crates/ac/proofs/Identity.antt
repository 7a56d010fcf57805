-- Sums with an identity (document 02, R-10). `unifies_equal` and `comes_filled`: in the mode `identity` the theorems on
-- unifiers in any mode (Theorems.antt) are demand 3 with "non-empty" struck out. Then the words of source document 002.
-- `same_sum`: two terms are equal modulo associativity, commutativity and identity exactly if they have the same atoms
-- equally often, 0 left out. `identity_minimal_set` and `identity_most_general`: the substitutions of the listed selections
-- are a complete set of minimal, and of most general, unifiers. Which pairs have none is in WithoutRow.antt.
use Prim.Native.Nat.{ℕ, ◌<◌}
use native.Mathlib.Omega.{arith}
use native.Mathlib.Decide.{dec_lt}
use mathlib.Core.Path.{◌≡◌, refl, sym, ap, ap₂, subst, subst₂, ◌∙◌}
use mathlib.Core.Logic.{◌↔◌}
use mathlib.Core.Bool.{Bool, true, false, cond, true≢false}
use mathlib.Core.List.{List, [], ◌∷◌, ◌++◌, map, append-nil, append_assoc, Memᴰ}
use borrow.Author.Tests.{le-ltb}
use lib.Dec.{lit≤}
use lib.ListN.{length}
use Rattle.ac.specs.Term.{Term}
use Rattle.ac.specs.Term as base
use Rattle.ac.specs.Pair.{Mode, IsSide, identity, count}
use Rattle.ac.specs.Rows.{Groups, GroupsOf}
use Rattle.ac.specs.Keys.{layout, listed}
use Rattle.ac.specs.Replacement.{Replacement, put, SameSum, Unifies, ComesFrom}
use Rattle.ac.specs.Theory.{MinimalSet, substitution_of, variables_of}
use Rattle.ac.specs.Fages.{◌=AC◌}
use Rattle.ac.specs.Fages as fages
use Rattle.ac.specs.Identity.{MakesEqual, FilledFrom, TermWithZero, zero, atom, plus, flatten, Substitution, apply, ◌=AC1◌, associative, commutative, identical, congruent, reflexive, symmetric, transitive, from_term, tree, AC1, MostGeneralSet}
use Rattle.ac.proofs.Counts.{count-append, count_some, count_member, put-append}
use Rattle.ac.proofs.Multisets.{same_lengths}
use Rattle.ac.proofs.Replaced.{variables_move}
use Rattle.ac.proofs.Theory.{flattened, Sums}
use Rattle.ac.proofs.Fages as without_zero
use Rattle.ac.proofs.MinimalSet.{minimal_set}

-- ---- "non-empty" struck out

module _ {L R : List ℕ} where
  -- A replacement unifies exactly if it makes the sides equal.
  pub unifies_equal : {θ : Replacement} → Unifies identity L R θ ↔ MakesEqual L R θ
  unifies_equal = (
    λ unifies. unifies.equal,
    λ equal. record { non_empty = λ x m some. absurd (true≢false some); equal = equal },
  )

  -- It comes from another exactly if it is filled from it.
  pub comes_filled : {new : ℕ} {σ θ : Replacement} → ComesFrom identity new L R σ θ ↔ FilledFrom new L R σ θ
  comes_filled = (
    λ comes. record { fill = comes.fill; agrees = comes.agrees },
    λ from. record {
      fill = from.fill;
      filled = λ x n m k above some. absurd (true≢false some);
      agrees = from.agrees;
    },
  )

-- ---- =AC1 is having the same atoms equally often

-- equal terms have the same atoms: each law of =AC1 keeps their number
same_atoms : {s t : TermWithZero} → s =AC1 t → SameSum (flatten s) (flatten t)
same_atoms (associative s t u) b = ap (count b) (append_assoc (flatten s) (flatten t) (flatten u))
same_atoms (commutative s t) b =
    omega (arith, count-append b (flatten s) (flatten t), count-append b (flatten t) (flatten s))
same_atoms (identical s) b = ap (count b) (append-nil (flatten s))
same_atoms (congruent {s = s} {s' = s'} {t = t} {t' = t'} left right) b =
    omega (
      arith,
      count-append b (flatten s) (flatten t),
      count-append b (flatten s') (flatten t'),
      same_atoms left b,
      same_atoms right b,
    )
same_atoms (reflexive s) b = refl
same_atoms (symmetric equal) b = sym (same_atoms equal b)
same_atoms (transitive first second) b = same_atoms first b ∙ same_atoms second b

-- a term without 0 keeps its atoms, ..
flatten-from_term : (t : Term) → flatten (from_term t) ≡ base.flatten t
flatten-from_term (base.atom a) = refl
flatten-from_term (base.plus s t) = ap₂ {C = List ℕ} (λ x y. x ++ y) (flatten-from_term s) (flatten-from_term t)

-- .. and terms that are equal without an identity are equal
from_term_equal : {s t : Term} → s =AC t → from_term s =AC1 from_term t
from_term_equal (fages.commutative s t) = commutative (from_term s) (from_term t)
from_term_equal (fages.associative s t u) = associative (from_term s) (from_term t) (from_term u)
from_term_equal (fages.congruent left right) = congruent (from_term_equal left) (from_term_equal right)
from_term_equal (fages.reflexive s) = reflexive (from_term s)
from_term_equal (fages.symmetric equal) = symmetric (from_term_equal equal)
from_term_equal (fages.transitive first second) = transitive (from_term_equal first) (from_term_equal second)

-- every term equals 0, or a term without 0 that has its atoms
data WithoutZero (t : TermWithZero) : Type 0 where
  nothing : flatten t ≡ [] → t =AC1 zero → WithoutZero t
  something : (u : Term) → flatten t ≡ base.flatten u → t =AC1 from_term u → WithoutZero t

-- by the laws of =AC1 alone: a 0 in a sum is left out
without_zero_of : (t : TermWithZero) → WithoutZero t
without_zero_of zero = nothing refl (reflexive zero)
without_zero_of (atom a) = something (base.atom a) refl (reflexive (atom a))
without_zero_of (plus s t) = both (without_zero_of s) (without_zero_of t)
  where
    both : WithoutZero s → WithoutZero t → WithoutZero (plus s t)
    both (nothing none s_zero) (nothing none' t_zero) =
        nothing (ap₂ {C = List ℕ} (λ x y. x ++ y) none none')
        (transitive (congruent s_zero t_zero) (identical zero))
    both (nothing none s_zero) (something u atoms t_u) =
        something u (ap₂ {C = List ℕ} (λ x y. x ++ y) none atoms)
        (transitive (congruent s_zero t_u) (transitive (commutative zero (from_term u)) (identical (from_term u))))
    both (something u atoms s_u) (nothing none t_zero) =
        something u (ap₂ {C = List ℕ} (λ x y. x ++ y) atoms none ∙ append-nil (base.flatten u))
        (transitive (congruent s_u t_zero) (identical (from_term u)))
    both (something u atoms s_u) (something v atoms' t_v) =
        something (base.plus u v) (ap₂ {C = List ℕ} (λ x y. x ++ y) atoms atoms') (congruent s_u t_v)

-- Two terms are equal exactly if every atom occurs equally often in them, 0 left out.
pub same_sum : (s t : TermWithZero) → (s =AC1 t) ↔ SameSum (flatten s) (flatten t)
same_sum s t = (same_atoms, λ same. back (without_zero_of s) (without_zero_of t) same)
  where
    -- a term without 0 has an atom
    some_atom : {xs : List ℕ} (u : Term) → SameSum xs (base.flatten u) → xs ≡ [] → ⊥
    some_atom u same none =
        let equal : length (base.flatten u) ≡ 0 =
        sym (same_lengths [] (base.flatten u) (subst (λ (l : List ℕ). SameSum l (base.flatten u)) none same)) in
        omega (arith, without_zero.flatten_some u)

    back : WithoutZero s → WithoutZero t → SameSum (flatten s) (flatten t) → s =AC1 t
    back (nothing none s_zero) (nothing none' t_zero) same = transitive s_zero (symmetric t_zero)
    back (nothing none s_zero) (something v atoms' t_v) same =
        absurd (some_atom v (subst (SameSum (flatten s)) atoms' same) none)
    back (something u atoms s_u) (nothing none t_zero) same =
        absurd (some_atom u (subst (SameSum (flatten t)) atoms (λ b. sym (same b))) none)
    back (something u atoms s_u) (something v atoms' t_v) same =
        transitive s_u
        (transitive (from_term_equal ((without_zero.same_sum u v).1 (subst₂ SameSum atoms atoms' same)))
        (symmetric t_v))

-- ---- its terms are sums of atoms, where a value may be empty

-- applying a substitution to a term is putting its replacement into the flattened side
flatten_apply : (variable : ℕ → Bool) (σ : Substitution) (t : TermWithZero)
    → flatten (apply variable σ t) ≡ put variable (flattened AC1 σ) (flatten t)
flatten_apply variable σ zero = refl
flatten_apply variable σ (atom a) = by_test (variable a)
  where
    by_test : (b : Bool) → flatten (cond b (σ a) (atom a)) ≡ cond b (flatten (σ a)) (a ∷ []) ++ []
    by_test true = sym (append-nil (flatten (σ a)))
    by_test false = refl
flatten_apply variable σ (plus s t) =
    ap₂ {C = List ℕ} (λ x y. x ++ y) (flatten_apply variable σ s) (flatten_apply variable σ t)
    ∙ sym (put-append variable (flattened AC1 σ) (flatten s) (flatten t))

-- the atoms of a list's tree are the list
flatten_tree : (xs : List ℕ) → flatten (tree xs) ≡ xs
flatten_tree [] = refl
flatten_tree (a ∷ xs) = flatten-from_term (fages.comb a xs) ∙ without_zero.flatten_tree (a ∷ xs) (omega arith)

pub ac1_sums : {M : Mode} → M.empties ≡ true → Sums AC1 M
ac1_sums empties =
    record {
      same_sum = same_sum;
      flatten_apply = flatten_apply;
      flatten_some = λ t some. absurd (true≢false (sym empties ∙ some));
      flatten_tree = λ xs some. flatten_tree xs;
    }

-- ---- the list

-- A complete set of minimal unifiers is one of most general ones: a variable in the range of a pure substitution is a new
-- one, and these are not in its domain.
pub most_general : {new : ℕ} {s t : TermWithZero} {unifiers : List Substitution}
    → MinimalSet AC1 identity new s t unifiers → MostGeneralSet new s t unifiers
most_general {s = s} {t} {unifiers} set =
    record {
      correctness = λ σ m. record { domain = set.domain σ m; equal = set.correctness σ m };
      completeness = λ θ solution. set.completeness θ solution.equal;
      idempotency = λ σ m x y changed at variable. idempotent σ m x y changed at;
      incomparable = set.minimality;
    }
  where
    idempotent : (σ : Substitution) → Memᴰ σ unifiers → (x y : ℕ) → (σ x ≡ atom x → ⊥)
        → Memᴰ y (flatten (σ x)) → σ y ≡ atom y
    idempotent σ m x y changed at = by_member (dec_lt 0 (count x (variables_of AC1 identity s t)))
      where
        by_member : Dec (0 < count x (variables_of AC1 identity s t)) → σ y ≡ atom y
        by_member (yes stands) =
            set.domain σ m y
            (λ is_variable. true≢false (sym (variables_move identity (flatten s) (flatten t) y is_variable)
            ∙ set.purity σ m x y (count_member x (variables_of AC1 identity s t) stands) at))
        by_member (no absent) =
            absurd (changed (set.domain σ m x
            (λ stands. absent (count_some x (variables_of AC1 identity s t) stands))))

module _ (s t : TermWithZero) (left : IsSide (flatten s)) (right : IsSide (flatten t)) {G : Groups}
    (groups : GroupsOf identity (flatten s) (flatten t) G) where
  -- the substitutions of the listed selections
  abbrev substitutions : List Substitution
  substitutions =
      map (substitution_of AC1 identity 192 (flatten s) (flatten t) G)
      (listed identity layout (flatten s) (flatten t) G)

  -- They are a complete set of minimal unifiers of the two terms, for document 01's atoms and keys.
  pub identity_minimal_set : MinimalSet AC1 identity 192 s t substitutions
  identity_minimal_set =
      minimal_set (ac1_sums refl) layout s t left right (lit≤ tt) (λ a new. le-ltb a 64 (omega arith)) groups

  -- And a complete set of most general ones.
  pub identity_most_general : MostGeneralSet 192 s t substitutions
  identity_most_general = most_general identity_minimal_set
