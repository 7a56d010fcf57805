-- A search for minimal solutions that computes: all vectors up to Huet's bound, those of them that solve,
-- those that no other one is at or below. It shows that every pair has its groups, and gives them where a
-- pair is small. No contract speaks of it: the rows of document 01, "From sides to equations", are minimal
-- among all vectors, without a bound (`specs/Rows.antt`). `proofs/Search.antt` shows that the search finds
-- exactly them.
use Rattle.std.specs.Prelude.{ℕ, zero, suc, ◌+◌, max, Bool, true, false, not, ◌&&◌, ◌||◌, List, [], ◌∷◌, map, length, leb, ltb, eqb}
use Rattle.ac.specs.Lists.{below, every, filter, flat_map, sum}
use Rattle.ac.specs.Pair.{Mode, unbalanced}
use Rattle.ac.specs.Rows.{Group, Groups}
use Rattle.ac.specs.Equation.{dot, Equation, balanced_equation, equation_of}

-- whether u is at or below v in every place
abbrev pub lower : List ℕ → List ℕ → Bool
lower [] [] = true
lower [] (n ∷ v) = false
lower (m ∷ u) [] = false
lower (m ∷ u) (n ∷ v) = leb m n && lower u v

-- whether no other of the vectors is at or below v
abbrev pub least_among : List (List ℕ) → List ℕ → Bool
least_among vectors v = every (λ u. not (lower u v) || lower v u) vectors

-- those vectors that no other one is at or below, in their order
abbrev pub least_of : List (List ℕ) → List (List ℕ)
least_of vectors = filter (least_among vectors) vectors

-- all vectors of so many places with entries up to a bound, ascending
abbrev pub box : ℕ → ℕ → List (List ℕ)
box zero search_bound = [] ∷ []
box (suc places) search_bound = flat_map (λ x. map (λ v. x ∷ v) (box places search_bound)) (below (suc search_bound))

-- whether a vector solves the equation
abbrev pub solves : Equation → List ℕ → Bool
solves E v = eqb (dot E.left v + E.left_offset) (dot E.right v + E.right_offset)
    && (not E.homogeneous || ltb 0 (sum v))

-- the largest of some numbers, 0 if there are none
abbrev pub largest : List ℕ → ℕ
largest [] = 0
largest (n ∷ ns) = max n (largest ns)

-- how far the search goes: to the largest coefficient, the offsets among them, and at least to 1
abbrev pub search_bound : Equation → ℕ
search_bound E = max 1 (max (largest (E.left_offset ∷ E.left)) (largest (E.right_offset ∷ E.right)))

-- the solutions up to the bound, ascending
abbrev pub candidates : Equation → List (List ℕ)
candidates E = filter (solves E) (box (length E.left) (search_bound E))

-- what the search finds
abbrev pub minimal_solutions : Equation → List (List ℕ)
minimal_solutions E = least_of (candidates E)

-- an unbalanced constant with the rows that are found for it
abbrev pub group_of : Mode → List ℕ → List ℕ → ℕ → Group
group_of M L R c = record { constant = c; rows = minimal_solutions (equation_of M L R c) }

-- the groups of a pair as they are found
abbrev pub groups : Mode → List ℕ → List ℕ → Groups
groups M L R = record {
  balanced = minimal_solutions (balanced_equation M L R);
  constants = map (group_of M L R) (unbalanced M L R);
}
