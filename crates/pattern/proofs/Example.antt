-- A line worked out: `v0+(2v31) =v7 #` is the pair of v0, v31, v31 and v39.
use Rattle.std.proofs.Common.{ℕ, ◌<◌, List, [], ◌∷◌, arith}
use Rattle.pattern.specs.Characters.{plus_sign, closing_bracket, zero_digit, Digit, space, Stops, at_other}
use Rattle.pattern.specs.Word.{one_digit, two_digits, once, often, spells, Word, variable}
use Rattle.pattern.specs.Side.{blank, opening, word, plus, closing, done, next, Side}
use Rattle.pattern.specs.Line.{remark, PairLine, pair}

-- v0, 2v31 and v7
v0 : Word (118 ∷ 48 ∷ []) (0 ∷ [])
v0 = variable (spells once (one_digit {d = 48} (omega arith))) (omega arith)

two_v31 : Word (50 ∷ 118 ∷ 51 ∷ 49 ∷ []) (31 ∷ 31 ∷ [])
two_v31 =
    variable
    (spells (often {d = 50} (λ e. omega (arith, e)) (one_digit {d = 50} (omega arith)))
    (two_digits {d = 51} {e = 49} (omega arith) (omega arith)))
    (omega arith)

v7 : Word (118 ∷ 55 ∷ []) (7 ∷ [])
v7 = variable (spells once (one_digit {d = 55} (omega arith))) (omega arith)

-- a byte before the digits ends a word
ends : {b : ℕ} {rest : List ℕ} → b < zero_digit → Stops Digit (b ∷ rest)
ends {b} low = at_other (λ (digit : Digit b). omega arith)

-- these do
plus_ends : (rest : List ℕ) → Stops Digit (plus_sign ∷ rest)
plus_ends rest = ends (omega arith)

closing_ends : (rest : List ℕ) → Stops Digit (closing_bracket ∷ rest)
closing_ends rest = ends (omega arith)

blank_ends : (rest : List ℕ) → Stops Digit (32 ∷ rest)
blank_ends rest = ends (omega arith)

-- `v0+(2v31) `
left : Side (118 ∷ 48 ∷ 43 ∷ 40 ∷ 50 ∷ 118 ∷ 51 ∷ 49 ∷ 41 ∷ 32 ∷ []) (0 ∷ 31 ∷ 31 ∷ [])
left = record {
  sum = next (word v0 (plus_ends _)) (next plus (next opening
      (next (word two_v31 (closing_ends _)) (next closing (next (blank space) done)))));
  at_most = omega arith;
}

-- `v7 `
right : Side (118 ∷ 55 ∷ 32 ∷ []) (7 ∷ [])
right = record { sum = next (word v7 (blank_ends _)) (next (blank space) done); at_most = omega arith }

pub worked : PairLine (118 ∷ 48 ∷ 43 ∷ 40 ∷ 50 ∷ 118 ∷ 51 ∷ 49 ∷ 41 ∷ 32 ∷ 61 ∷ 118 ∷ 55 ∷ 32 ∷ 35 ∷ [])
    (0 ∷ 31 ∷ 31 ∷ []) (39 ∷ [])
worked = pair left right remark
