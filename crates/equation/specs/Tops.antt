-- The largest coefficients of an equation, from each place on.
use Rattle.std.specs.Prelude.{ℕ, ◌≤◌, ◌<◌, List, length, get_or}

-- every coefficient of the places from i on is at most a number
abbrev pub AtMost : List ℕ → ℕ → ℕ → Type 0
AtMost coefficients i most = (j : ℕ) → i ≤ j → j < length coefficients → get_or coefficients j 0 ≤ most

-- for each place a number that none of the coefficients from there on is above
abbrev pub Tops : List ℕ → List ℕ → Type 0
Tops coefficients tops = (i : ℕ) → AtMost coefficients i (get_or tops i 0)
