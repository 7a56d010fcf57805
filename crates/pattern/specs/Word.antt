-- A word of a side: how often an atom stands there, its letter and its number, as `v0`, `c12` or `3c5`.
use Rattle.std.specs.Prelude.{ℕ, ◌+◌, ◌*◌, ◌≤◌, ◌<◌, ◌≡◌, List, [], ◌∷◌, ◌++◌, replicate}
use Rattle.pattern.specs.Characters.{variable_letter, constant_letter, zero_digit, Digit, worth}

-- A number has one or two digits.
pub data Number : List ℕ → ℕ → Type 0 where
  one_digit : {d : ℕ} → Digit d → Number (d ∷ []) (worth d)
  two_digits : {d e : ℕ} → Digit d → Digit e → Number (d ∷ e ∷ []) (worth d * 10 + worth e)

-- A multiple is a number that does not begin with 0; where there is none the atom stands once.
pub data Multiple : List ℕ → ℕ → Type 0 where
  once : Multiple [] 1
  often : {d times : ℕ} {digits : List ℕ} → (d ≡ zero_digit → ⊥) → Number (d ∷ digits) times
      → Multiple (d ∷ digits) times

-- a multiple, a letter and a number
pub data Spells : List ℕ → ℕ → ℕ → ℕ → Type 0 where
  spells : {letter times number : ℕ} {multiple digits : List ℕ} → Multiple multiple times → Number digits number
      → Spells (multiple ++ letter ∷ digits) times letter number

-- A word and the atoms that it stands for: v0 to v31, which are 0 to 31, or c0 to c63, which are 64 to 127.
pub data Word : List ℕ → List ℕ → Type 0 where
  variable : {bytes : List ℕ} {times number : ℕ} → Spells bytes times variable_letter number → number < 32
      → Word bytes (replicate times number)
  constant : {bytes : List ℕ} {times number : ℕ} → Spells bytes times constant_letter number → number < 64
      → Word bytes (replicate times (64 + number))

-- v32 to v63 cannot be written: they are the right side's variables in answers.
pub data Unwritable : List ℕ → Type 0 where
  unwritable : {bytes : List ℕ} {times number : ℕ} → Spells bytes times variable_letter number → 32 ≤ number
      → number < 64 → Unwritable bytes
