-- The sum of some numbers, from the last on and from the first on.
use Rattle.std.proofs.Common.{◌≡◌, ℕ, ◌+◌, List, [], ◌∷◌, fold, sum, ◌∙◌, arith}
use Rattle.ac.specs.Lists.{sum as total}

-- what is added up already, and the rest
added_up : (so_far : ℕ) (v : List ℕ) → fold (λ a n. a + n) so_far v ≡ so_far + total v
added_up so_far [] = omega arith
added_up so_far (n ∷ v) = added_up (so_far + n) v ∙ omega arith

pub total_is_sum : (v : List ℕ) → total v ≡ sum v
total_is_sum v = omega (arith, added_up 0 v)
