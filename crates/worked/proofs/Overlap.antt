-- Two patterns that were called free of overlap while v3 of both was one variable (document 02, R-1): in a block v3+c0
-- and v3+c1 are the sides v3+c0 and v35+c1, by `overlapping_gives`, `proofs/Reading.antt`, and have two unifiers.
use Prim.Native.Nat.{ℕ}
use mathlib.Core.Path.{refl}
use mathlib.Core.List.Memᴰ
use mathlib.Core.List.{List, [], ◌∷◌}
use Rattle.ac.specs.Values.{Binding}
use Rattle.ac.specs.Worked.{balanced_rows, rows_of, the_keys, substitutions}
use Rattle.worked.specs.Answers.{AnswersPrinted}
use Rattle.worked.proofs.Worked.{printed}

-- the sides that Read gives
abbrev left : List ℕ
left = 3 ∷ 64 ∷ []

abbrev right : List ℕ
right = 35 ∷ 65 ∷ []

-- a variable and its value
abbrev binding : ℕ → List ℕ → Binding
binding x atoms = record { variable = x; value = atoms }

-- One balanced row, and one for each of the two constants: `rows 1 2`.
pub overlap_balanced : AnswersPrinted left right (balanced_rows 1)
overlap_balanced = printed left right refl (balanced_rows 1) refl

pub overlap_c0 : AnswersPrinted left right (rows_of 64 1)
overlap_c0 = printed left right refl (rows_of 64 1) (_, Memᴰ.head refl, refl, refl)

pub overlap_c1 : AnswersPrinted left right (rows_of 65 1)
overlap_c1 = printed left right refl (rows_of 65 1) (_, Memᴰ.tail (Memᴰ.head refl), refl, refl)

-- Two keys, so two unifiers.
pub overlap_keys : AnswersPrinted left right (the_keys (0 ∷ 1 ∷ []))
overlap_keys = printed left right refl (the_keys (0 ∷ 1 ∷ [])) refl

-- v3=c1 v35=c0, and v3=c1+n0 v35=c0+n0
abbrev unifiers : List (List Binding)
unifiers =
    (binding 3 (65 ∷ []) ∷ binding 35 (64 ∷ []) ∷ [])
    ∷ (binding 3 (65 ∷ 192 ∷ []) ∷ binding 35 (64 ∷ 192 ∷ []) ∷ []) ∷ []

-- These are they.
pub overlap_unifiers : AnswersPrinted left right (substitutions unifiers)
overlap_unifiers = printed left right refl (substitutions unifiers) refl
