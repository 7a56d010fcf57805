-- What Page and Values give together in sums with an identity (document 02, R-10), by what they promise and by their
-- bytes alone: "Demand 3 is to hold with "non-empty" struck out, both for replacements and for new variables."
use Rattle.std.specs.Prelude.{ℕ, ◌<◌, ◌≡◌, List, length}
use Rattle.ac.specs.Keys.{layout}
use Rattle.ac.specs.Replacement.{Replacement}
use Rattle.ac.specs.Identity.{MakesEqual, FilledFrom}
use Rattle.whole.specs.Whole.{replacement_at}

-- What is demanded of the replacements that are read back from the answers.
pub record WholeIdentity (L R : List ℕ) (answers : List (List ℕ)) : Type 0 where
  -- each of them makes the sides equal
  pub each_equal : (i : ℕ) → i < length answers → MakesEqual L R (replacement_at answers i)
  -- every replacement that does, empty values allowed, is filled from one of them with sums, empty ones allowed
  pub every_filled_from_one : (θ : Replacement) → MakesEqual L R θ
      → (i : ℕ) × (i < length answers) × FilledFrom layout.new L R (replacement_at answers i) θ
  -- none is filled from another
  pub none_from_another : (i j : ℕ) → i < length answers → j < length answers
      → FilledFrom layout.new L R (replacement_at answers i) (replacement_at answers j) → i ≡ j
