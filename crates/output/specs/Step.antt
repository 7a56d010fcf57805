-- Lines printed in steps through one lent buffer, which is written out between the steps.
use Rattle.std.specs.Prelude.{ℕ, ◌+◌, ◌<◌, ◌≤◌, ◌≡◌, ◌⊎◌, List, [], ◌∷◌, ◌++◌, length, drop}
use Rattle.buffer.specs.Put.{Put}
use Rattle.output.specs.declared.Progress.{Progress}

-- the lines one after the other
abbrev pub lines_joined : List (List ℕ) → List ℕ
lines_joined [] = []
lines_joined (line ∷ lines) = line ++ lines_joined lines

-- what is left to print, from the line of this number on
abbrev pub left_from : List (List ℕ) → ℕ → List ℕ
left_from lines number = lines_joined (drop number lines)

-- A step: what is left before it is what was put and then what is left after it; what was put stands in the
-- buffer from the place on, and every other byte is as it was.
pub record Steps (lines : List (List ℕ)) (number : ℕ) (out : List ℕ) (at : ℕ) (r : Progress) (out' : List ℕ) :
    Type 0 where
  pub put : List ℕ
  pub in_order : left_from lines number ≡ put ++ left_from lines r.line
  pub stands : Put out at put r.at out'

-- Steps one after the other until no line is left, and all that they put.
pub data Stepped (lines : List (List ℕ)) : ℕ → List ℕ → Type 0 where
  done : Stepped lines (length lines) []
  step : {number at : ℕ} {out out' rest : List ℕ} {r : Progress} (one : Steps lines number out at r out')
      → Stepped lines r.line rest → Stepped lines number (one.put ++ rest)

-- How far a step goes, of so many lines, from a line and a place in a buffer of so many bytes.
pub record Goes (lines number at size : ℕ) (r : Progress) : Type 0 where
  pub within : r.line ≤ lines
  pub inside : r.at ≤ size
  -- as far as fits: to the last line, or until there is no room for a line
  pub as_far : (r.line ≡ lines) ⊎ (size < r.at + 8192)
  -- where a line is left and there is room for it, it is put
  pub onward : number < lines → at + 8192 ≤ size → number < r.line
