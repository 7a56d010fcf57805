-- The characters of a line, as bytes.
use Rattle.std.specs.Prelude.{ℕ, ◌-◌, ◌≤◌, ◌≡◌, List, [], ◌∷◌}

-- `v` and `c`
abbrev pub variable_letter : ℕ
variable_letter = 118

abbrev pub constant_letter : ℕ
constant_letter = 99

-- `+`
abbrev pub plus_sign : ℕ
plus_sign = 43

-- `(` and `)`
abbrev pub opening_bracket : ℕ
opening_bracket = 40

abbrev pub closing_bracket : ℕ
closing_bracket = 41

-- `=`
abbrev pub equals_sign : ℕ
equals_sign = 61

-- `#`
abbrev pub remark_sign : ℕ
remark_sign = 35

-- `0` to `9`, and what each is worth
abbrev pub zero_digit : ℕ
zero_digit = 48

abbrev pub Digit : ℕ → Type 0
Digit b = (zero_digit ≤ b) × (b ≤ 57)

abbrev pub worth : ℕ → ℕ
worth b = b - zero_digit

-- a space, a tab or a carriage return
pub data Blank : ℕ → Type 0 where
  space : Blank 32
  tab : Blank 9
  carriage_return : Blank 13

-- no `#`
abbrev pub NoRemark : ℕ → Type 0
NoRemark b = b ≡ remark_sign → ⊥

-- a byte that may stand in a side: no `=` and no `#`
pub record Inside (b : ℕ) : Type 0 where
  pub no_equals : b ≡ equals_sign → ⊥
  pub no_remark : NoRemark b

-- each of the bytes is such
pub data Each (Such : ℕ → Type 0) : List ℕ → Type 0 where
  none : Each Such []
  one_more : {b : ℕ} {bytes : List ℕ} → Such b → Each Such bytes → Each Such (b ∷ bytes)

-- no byte that is such stands at the front
pub data Stops (Such : ℕ → Type 0) : List ℕ → Type 0 where
  at_end : Stops Such []
  at_other : {b : ℕ} {bytes : List ℕ} → (Such b → ⊥) → Stops Such (b ∷ bytes)
