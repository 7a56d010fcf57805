-- What a line says: a pair of sides, or nothing.
use Rattle.std.specs.Prelude.{ℕ, List, [], ◌∷◌, ◌++◌, map}
use Rattle.ac.specs.Apart.{renamed_apart}
use Rattle.pattern.specs.Characters.{equals_sign, remark_sign, Blank, Each}
use Rattle.pattern.specs.Side.{Side}

-- a remark is what follows `#`, up to the line's end
pub data Remark : List ℕ → Type 0 where
  no_remark : Remark []
  remark : {text : List ℕ} → Remark (remark_sign ∷ text)

-- A pair: two sides, and `=` between them. The sides have separate variables: those of the right one get the number 32
-- higher.
pub data PairLine : List ℕ → List ℕ → List ℕ → Type 0 where
  pair : {first second rest left right : List ℕ} → Side first left → Side second right → Remark rest
      → PairLine (first ++ (equals_sign ∷ (second ++ rest))) left (map renamed_apart right)

-- A line with blanks and a remark alone says nothing.
pub data SaysNothing : List ℕ → Type 0 where
  nothing : {blanks rest : List ℕ} → Each Blank blanks → Remark rest → SaysNothing (blanks ++ rest)
