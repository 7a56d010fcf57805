-- Document 01's pairs 15, 16 and 17: the number that each of their second halves is given.
use mathlib.Core.List.{[], ◌∷◌}
use lib.Dec.{lit<}
use lib.ListN.{replicate}
use Rattle.ac.specs.Pair.{unifying}
use Rattle.ac.specs.Limits.{limits}
use Rattle.pair.specs.Given.{PairGiven, many_variables, far_net_count, many_constants}

-- v0 nine times and v1
nine_times : PairGiven limits unifying (replicate 9 0) (1 ∷ []) 10
nine_times = far_net_count 0 (lit< tt)

-- v0 and c0+c1+c2+c3+c4
five_constants : PairGiven limits unifying (0 ∷ []) (64 ∷ 65 ∷ 66 ∷ 67 ∷ 68 ∷ []) 11
five_constants = many_constants (lit< tt)

-- v0+v1+v2 and v3+v4+v5+v6
seven_variables : PairGiven limits unifying (0 ∷ 1 ∷ 2 ∷ []) (3 ∷ 4 ∷ 5 ∷ 6 ∷ []) 9
seven_variables = many_variables (lit< tt)
