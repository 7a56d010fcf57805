-- The example of source document 000, computed. By `groups_unique` the pair's groups are what is computed here.
use mathlib.Core.Path.{◌≡◌, refl}
use mathlib.Core.List.{[], ◌∷◌}
use Rattle.ac.specs.Pair.{unifying}
use Rattle.ac.specs.Search.{groups}

-- Source document 000, 3.1: the basis of 2x1 + x2 + x3 = 2y1 + y2 has seven solutions, s5, s2, s6, s1, s3,
-- s7, s4 in ascending order.
pub seven_rows : groups unifying (0 ∷ 0 ∷ 1 ∷ 2 ∷ []) (3 ∷ 3 ∷ 4 ∷ [])
    ≡ record {
      balanced =
          (0 ∷ 0 ∷ 1 ∷ 0 ∷ 1 ∷ [])
          ∷ (0 ∷ 0 ∷ 2 ∷ 1 ∷ 0 ∷ [])
          ∷ (0 ∷ 1 ∷ 0 ∷ 0 ∷ 1 ∷ [])
          ∷ (0 ∷ 1 ∷ 1 ∷ 1 ∷ 0 ∷ [])
          ∷ (0 ∷ 2 ∷ 0 ∷ 1 ∷ 0 ∷ [])
          ∷ (1 ∷ 0 ∷ 0 ∷ 0 ∷ 2 ∷ [])
          ∷ (1 ∷ 0 ∷ 0 ∷ 1 ∷ 0 ∷ [])
          ∷ [];
      constants = [];
    }
seven_rows = refl
