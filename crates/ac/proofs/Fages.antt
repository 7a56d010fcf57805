-- Two terms are equal modulo associativity and commutativity exactly if they have the same atoms equally often. So
-- Fages' unifiers of trees are the replacements that unify the flattened sides (Theory.antt).
use Prim.Native.Nat.{ℕ, ◌<◌}
use native.Mathlib.Omega.{arith}
use mathlib.Core.Path.{◌≡◌, refl, sym, ap, ap₂, subst, ◌∙◌}
use mathlib.Core.Logic.{◌↔◌}
use mathlib.Core.Bool.{Bool, true, false, cond}
use mathlib.Core.List.{List, [], ◌∷◌, ◌++◌, append-nil, append_assoc}
use lib.ListN.{length, length-append}
use Rattle.ac.specs.Term.{Term, atom, plus, flatten}
use Rattle.ac.specs.Pair.{Mode, count}
use Rattle.ac.specs.Replacement.{put, SameSum}
use Rattle.ac.specs.Fages.{Ac, Substitution, apply, ◌=AC◌, commutative, associative, congruent, reflexive, symmetric, transitive, comb, tree}
use Rattle.ac.proofs.Members.{member_splits}
use Rattle.ac.proofs.Counts.{same_self, count-append, count_member, put-append}
use Rattle.ac.proofs.Theory.{flattened, Sums}

-- ---- =AC is having the same atoms equally often

-- equal terms have the same atoms: each law of =AC keeps their number
same_atoms : {s t : Term} → s =AC t → SameSum (flatten s) (flatten t)
same_atoms (commutative s t) b =
    omega (arith, count-append b (flatten s) (flatten t), count-append b (flatten t) (flatten s))
same_atoms (associative s t u) b = ap (count b) (append_assoc (flatten s) (flatten t) (flatten u))
same_atoms (congruent {s = s} {s' = s'} {t = t} {t' = t'} left right) b =
    omega (
      arith,
      count-append b (flatten s) (flatten t),
      count-append b (flatten s') (flatten t'),
      same_atoms left b,
      same_atoms right b,
    )
same_atoms (reflexive s) b = refl
same_atoms (symmetric equal) b = sym (same_atoms equal b)
same_atoms (transitive first second) b = same_atoms first b ∙ same_atoms second b

-- the atoms of a comb
flatten-comb : (a : ℕ) (rest : List ℕ) → flatten (comb a rest) ≡ a ∷ rest
flatten-comb a [] = refl
flatten-comb a (b ∷ rest) = ap {B = List ℕ} (λ l. a ∷ l) (flatten-comb b rest)

-- two combs added are the comb of their lists one after the other
plus_combs : (a : ℕ) (xs : List ℕ) (b : ℕ) (ys : List ℕ) → plus (comb a xs) (comb b ys) =AC comb a (xs ++ b ∷ ys)
plus_combs a [] b ys = reflexive (plus (atom a) (comb b ys))
plus_combs a (c ∷ xs) b ys = transitive (associative (atom a) (comb c xs) (comb b ys))
    (congruent (reflexive (atom a)) (plus_combs c xs b ys))

-- every term equals a comb of its atoms
record AsComb (t : Term) : Type 0 where
  first : ℕ
  others : List ℕ
  atoms : flatten t ≡ first ∷ others
  equal : t =AC comb first others

-- by the laws of =AC alone: a sum of two combs is a comb
as_comb : (t : Term) → AsComb t
as_comb (atom a) = record { first = a; others = []; atoms = refl; equal = reflexive (atom a) }
as_comb (plus s t) =
    let l = as_comb s in
    let r = as_comb t in
    record {
      first = l.first;
      others = l.others ++ r.first ∷ r.others;
      atoms = ap₂ {C = List ℕ} (λ x y. x ++ y) l.atoms r.atoms;
      equal = transitive (congruent l.equal r.equal)
          (plus_combs l.first l.others r.first r.others);
    }

swapped : (s t u : Term) → plus s (plus t u) =AC plus t (plus s u)
swapped s t u =
    transitive (symmetric (associative s t u))
    (transitive (congruent (commutative s t) (reflexive u)) (associative t s u))

first_instead : (b : ℕ) (before : List ℕ) (a : ℕ) (behind : List ℕ)
    → comb b (before ++ a ∷ behind) =AC plus (atom a) (comb b (before ++ behind))
first_instead b [] a [] = commutative (atom b) (atom a)
first_instead b [] a (c ∷ behind) = swapped (atom b) (atom a) (comb c behind)
first_instead b (c ∷ before) a behind =
    transitive (congruent (reflexive (atom b)) (first_instead c before a behind))
    (swapped (atom b) (atom a) (comb c (before ++ behind)))

-- an atom of a tree's list can stand first
tree_first : (before : List ℕ) (a : ℕ) (behind : List ℕ) → tree (before ++ a ∷ behind) =AC comb a (before ++ behind)
tree_first [] a behind = reflexive (comb a behind)
tree_first (b ∷ before) a behind = first_instead b before a behind

-- where one of two lists with the same atoms is empty, so is the other
no_atoms : (a : ℕ) (xs : List ℕ) → SameSum [] (a ∷ xs) → ⊥
no_atoms a xs same = omega (arith, same a, same_self a a refl)

comb_rest : (a : ℕ) (xs ys : List ℕ) → SameSum xs ys → tree xs =AC tree ys → comb a xs =AC comb a ys
comb_rest a [] [] same equal = reflexive (atom a)
comb_rest a [] (y ∷ ys) same equal = absurd (no_atoms y ys same)
comb_rest a (x ∷ xs) [] same equal = absurd (no_atoms x xs (λ b. sym (same b)))
comb_rest a (x ∷ xs) (y ∷ ys) same equal = congruent (reflexive (atom a)) equal

-- an atom taken out of both of two lists with the same atoms
one_less : (a : ℕ) (xs before behind : List ℕ) → SameSum (a ∷ xs) (before ++ a ∷ behind)
    → SameSum xs (before ++ behind)
one_less a xs before behind same b =
    omega (arith, same b, count-append b before (a ∷ behind), count-append b before behind)

-- trees of lists with the same atoms are equal: the first atom of the one stands somewhere in the other, and
-- can stand first there
tree-same : (xs ys : List ℕ) → SameSum xs ys → tree xs =AC tree ys
tree-same [] [] same = reflexive (atom 0)
tree-same [] (y ∷ ys) same = absurd (no_atoms y ys same)
tree-same (a ∷ xs) ys same =
    let at = member_splits (count_member a ys (omega (arith, same a, same_self a a refl))) in
    let less = one_less a xs at.0 at.1 (subst (SameSum (a ∷ xs)) at.2 same) in
    transitive (comb_rest a xs (at.0 ++ at.1) less (tree-same xs (at.0 ++ at.1) less))
    (symmetric (subst (λ (l : List ℕ). tree l =AC comb a (at.0 ++ at.1)) (sym at.2)
    (tree_first at.0 a at.1)))

-- Two terms are equal exactly if every atom occurs equally often in them.
pub same_sum : (s t : Term) → (s =AC t) ↔ SameSum (flatten s) (flatten t)
same_sum s t = (same_atoms, back)
  where
    back : SameSum (flatten s) (flatten t) → s =AC t
    back same =
        let l = as_comb s in
        let r = as_comb t in
        transitive l.equal
        (transitive
        (tree-same (l.first ∷ l.others) (r.first ∷ r.others)
        (λ b. sym (ap (count b) l.atoms) ∙ same b ∙ ap (count b) r.atoms))
        (symmetric r.equal))

-- ---- substitutions are replacements

-- a term has an atom
pub flatten_some : (t : Term) → 0 < length (flatten t)
flatten_some (atom a) = omega arith
flatten_some (plus s t) = omega (arith, length-append (flatten s) (flatten t), flatten_some s)

-- applying a substitution to a term is putting its replacement into the flattened side
pub flatten_apply : (variable : ℕ → Bool) (σ : Substitution) (t : Term)
    → flatten (apply variable σ t) ≡ put variable (flattened Ac σ) (flatten t)
flatten_apply variable σ (atom a) = by_test (variable a)
  where
    by_test : (b : Bool) → flatten (cond b (σ a) (atom a)) ≡ cond b (flatten (σ a)) (a ∷ []) ++ []
    by_test true = sym (append-nil (flatten (σ a)))
    by_test false = refl
flatten_apply variable σ (plus s t) =
    ap₂ {C = List ℕ} (λ x y. x ++ y) (flatten_apply variable σ s) (flatten_apply variable σ t)
    ∙ sym (put-append variable (flattened Ac σ) (flatten s) (flatten t))

-- the atoms of a list's tree are the list
pub flatten_tree : (xs : List ℕ) → 0 < length xs → flatten (tree xs) ≡ xs
flatten_tree [] h = absurd (omega arith)
flatten_tree (a ∷ xs) h = flatten-comb a xs

-- So its terms are sums of atoms, where no value may be empty.
pub ac_sums : {M : Mode} → M.empties ≡ false → Sums Ac M
ac_sums some =
    record {
      same_sum = same_sum;
      flatten_apply = flatten_apply;
      flatten_some = λ t e. flatten_some t;
      flatten_tree = λ xs non_empty. flatten_tree xs (non_empty some);
    }
