-- Numbers are decimal (document 01, "The nightly program").
use Rattle.std.specs.Prelude.{ℕ, zero, suc, ◌+◌, ◌/◌, ◌%◌, true, false, List, [], ◌∷◌, ◌++◌, ltb}

-- a digit as a byte
abbrev pub digit : ℕ → ℕ
digit d = 48 + d

-- the digits of n, of which there are at most as many as `places` says
abbrev pub digits_within : ℕ → ℕ → List ℕ
digits_within zero n = []
digits_within (suc places) n =
    elim (ltb n 10) [ true ↦ digit n ∷ [] | false ↦ digits_within places (n / 10) ++ (digit (n % 10) ∷ []) ]

-- n in decimal: a number below 10 is its digit, any other the decimal of its tenth with its last digit behind
-- (`decimal_digit`, `decimal-more`)
unfoldable pub decimal : ℕ → List ℕ
decimal n = digits_within (suc n) n
