-- The ways of listing (document 02, R-4 and R-10): what each of them says of two sides, in the mathematics' words.
use Rattle.std.specs.Prelude.{List, ℕ}
use Rattle.ac.specs.Pair.{Mode, unifying, matching, identity}
use Rattle.pair.specs.declared.ways.Way.{Way}
use Rattle.pair.specs.declared.ways.Way.TheVariants.{Unifying, Matching, Identity}

-- unifying, all variables move; matching, those of the left side; in sums with an identity all, and one may be empty
abbrev pub mode_of : Way → List ℕ → List ℕ → Mode
mode_of Unifying L R = unifying
mode_of Matching L R = matching L
mode_of Identity L R = identity
