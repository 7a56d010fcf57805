-- The words in which answers are unifiers of two terms as source document 000 has them (Fages, RR-0287). The terms are
-- trees, those of a block or those of another theory, and a substitution is read back from the bytes of Values alone.
use Rattle.std.specs.Prelude.{ℕ, ◌-◌, cond, List, map, ltb}
use Rattle.ac.specs.Term.{Term, atom, plus}
use Rattle.ac.specs.Pair.{Mode, count}
use Rattle.ac.specs.Values.{Binding}
use Rattle.ac.specs.Theory.{Theory, Unifier}
use Rattle.ac.specs.Theory as in_theory
use Rattle.ac.specs.Fages.{Substitution, apply, ◌=AC◌}
use Rattle.whole.specs.Whole.{taken_apart, read_back}

-- the term with another name for each of its atoms
abbrev pub renamed : (ℕ → ℕ) → Term → Term
renamed name (atom a) = atom (name a)
renamed name (plus s t) = plus (renamed name s) (renamed name t)

-- the variables that stand in bytes, each with its value
abbrev pub variables_in : List ℕ → List ℕ
variables_in bytes = map (λ (b : Binding). b.variable) (taken_apart 0 bytes)

-- The substitution read back from bytes: a variable that stands in them becomes the term of its value, and
-- every other atom stays.
abbrev pub read_substitution : (T : Theory) → List ℕ → in_theory.Substitution T
read_substitution T bytes x = cond (ltb 0 (count x (variables_in bytes))) (T.tree (read_back bytes x)) (T.atom x)

-- no substitution is a unifier of the two terms
abbrev pub NoUnifierOf : (T : Theory) → Mode → T.Terms → T.Terms → Type 0
NoUnifierOf T M s t = (σ : in_theory.Substitution T) → Unifier T M s t σ → ⊥

-- Two patterns have separate variables (document 02, R-1): they overlap where one substitution of the first and another
-- of the second make them equal.
abbrev pub NoOverlap : Mode → Term → Term → Type 0
NoOverlap M s t = (σ τ : Substitution) → apply M.moves σ s =AC apply M.moves τ t → ⊥

-- The two joined to one: σ for v0 to v31, and for each variable that is 32 higher what τ has for it.
abbrev pub joined_substitution : Substitution → Substitution → Substitution
joined_substitution σ τ x = cond (ltb x 32) (σ x) (τ (x - 32))
