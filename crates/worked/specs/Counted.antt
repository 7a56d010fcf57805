-- Pairs and how many unifiers they have (document 02, R-7).
use Rattle.std.specs.Prelude.{ℕ, zero, suc, ◌+◌, List, [], ◌∷◌, ◌++◌}
use Rattle.numbers.specs.Outcome.{given}
use Rattle.worked.specs.Questions.{count_question}
use Rattle.worked.specs.Answers.{Answers}

-- two sides, and how many unifiers they have
pub record CountedPair : Type 0 where
  pub left : List ℕ
  pub right : List ℕ
  pub unifiers : ℕ

-- the constant ci
abbrev c : ℕ → ℕ
c i = 64 + i

-- atoms, each as often
abbrev times : ℕ → List ℕ → List ℕ
times zero atoms = []
times (suc n) atoms = atoms ++ times n atoms

-- Pairs 2, 9, 13 and 17 of document 01, and those whose numbers source document 002 prints.
abbrev pub counted_pairs : List CountedPair
counted_pairs =
    -- v0+v1 and v2+v3
    record { left = 0 ∷ 1 ∷ []; right = 2 ∷ 3 ∷ []; unifiers = 7 }
    -- v0 and v0+v1: none
    ∷ record { left = 0 ∷ []; right = 0 ∷ 1 ∷ []; unifiers = 0 }
    -- v0 four times with v4, and v1+v2+v3+v4
    ∷ record { left = 0 ∷ 0 ∷ 0 ∷ 0 ∷ 4 ∷ []; right = 1 ∷ 2 ∷ 3 ∷ 4 ∷ []; unifiers = 32_677 }
    -- v0+v1+v2 and v3+v4+v5
    ∷ record { left = 0 ∷ 1 ∷ 2 ∷ []; right = 3 ∷ 4 ∷ 5 ∷ []; unifiers = 265 }
    -- v0+v1+c0 and v2+v3+v4+c1
    ∷ record { left = 0 ∷ 1 ∷ c 0 ∷ []; right = 2 ∷ 3 ∷ 4 ∷ c 1 ∷ []; unifiers = 204 }
    -- v0+v0+c0 and v1+v2+c1+c2
    ∷ record { left = 0 ∷ 0 ∷ c 0 ∷ []; right = 1 ∷ 2 ∷ c 1 ∷ c 2 ∷ []; unifiers = 60 }
    -- v0+v0+v1 and v2+v3+c0+c1
    ∷ record { left = 0 ∷ 0 ∷ 1 ∷ []; right = 2 ∷ 3 ∷ c 0 ∷ c 1 ∷ []; unifiers = 228 }
    -- v0+v0+v0 and v1+v2+v3+c0
    ∷ record { left = 0 ∷ 0 ∷ 0 ∷ []; right = 1 ∷ 2 ∷ 3 ∷ c 0 ∷ []; unifiers = 6_006 }
    -- the longest list within the limits of document 01: net counts 6, -8, -7, -7, and 6 of each of four constants
    ∷ record {
      left = times 6 (0 ∷ c 0 ∷ c 1 ∷ c 2 ∷ c 3 ∷ []);
      right = times 8 (1 ∷ []) ++ times 7 (2 ∷ 3 ∷ []);
      unifiers = 4_294_651_782;
    }
    ∷ []

-- Count gives this number of the two sides.
abbrev pub CountAnswers : List ℕ → List ℕ → ℕ → Type 0
CountAnswers left right unifiers =
    Answers count_question (record { left = left; right = right; also = tt }) tt (given unifiers) tt
