-- What Page and Values give together where they match against a fixed subject (document 02, R-4), by what they promise
-- and by their bytes alone: "Every replacement of the left variables by non-empty sums that makes the sides equal is
-- listed, and exactly once."
use Rattle.std.specs.Prelude.{ℕ, ◌<◌, List, length}
use Rattle.ac.specs.Match.{Match, SameMatch, ExactlyOne}
use Rattle.ac.specs.Replacement.{Replacement}
use Rattle.whole.specs.Whole.{replacement_at}

-- the answer at a place of the list is read back as the match, sum for sum
pub record ReadAt (L : List ℕ) (answers : List (List ℕ)) (θ : Replacement) (i : ℕ) : Type 0 where
  pub on_list : i < length answers
  pub same : SameMatch L θ (replacement_at answers i)

-- What is asked of the replacements that are read back from the answers.
pub record EveryMatch (L R : List ℕ) (answers : List (List ℕ)) : Type 0 where
  -- each of them is a match
  pub each_matches : (i : ℕ) → i < length answers → Match L R (replacement_at answers i)
  -- every match is one of them, at exactly one place
  pub exactly_once : (θ : Replacement) → Match L R θ → ExactlyOne (ReadAt L answers θ)
