-- Pairs whose number of unifiers is known (document 02, R-7): one test, computed over the table by the law that counts,
-- and what Count answers of each of them.
use Prim.Native.Nat.{ℕ}
use mathlib.Core.Path.{◌≡◌, refl, subst, ◌∙◌}
use mathlib.Core.Bool.{Bool, true, ◌&&◌}
use mathlib.Core.List.{List, Memᴰ}
use borrow.Author.Tests.{eqb-true}
use lib.Dec.{eqb}
use lib.ListN.{length}
use Rattle.ac.specs.Lists.{every}
use Rattle.ac.specs.Pair.{unifying}
use Rattle.ac.specs.Search.{groups}
use Rattle.ac.specs.Keys.{layout, keys}
use Rattle.ac.specs.Counting.{admissible_count}
use Rattle.ac.proofs.Counting.{keys_counted}
use Rattle.ac.proofs.Groups.{groups_exist}
use Rattle.ac.proofs.Tests.{both, every_member}
use Rattle.numbers.specs.Order.{count_numbers}
use Rattle.numbers.specs.Outcome.{is_given}
use Rattle.numbers.proofs.Carried.{none_of}
use Rattle.numbers.proofs.Promises.{outcome_determined}
use Rattle.solver.specs.Count.{as_listed}
use Rattle.solver.proofs.Determined.{one_count}
use Rattle.worked.specs.Counted.{CountedPair, counted_pairs, CountAnswers}
use Rattle.worked.proofs.Within.{within, never_given}

-- the sides keep the limits, and the law counts as many as are known
abbrev test : CountedPair → Bool
test pair =
    within unifying pair.left pair.right
    && eqb (admissible_count unifying pair.left pair.right (groups unifying pair.left pair.right))
    pair.unifiers

-- The test passes at every pair of the table.
all_pass : every test counted_pairs ≡ true
all_pass = refl

-- sides that keep the limits have as many unifiers as the law counts
counted : (L R : List ℕ) → within unifying L R ≡ true
    → CountAnswers L R (length (keys unifying layout L R (groups unifying L R)))
counted L R passes =
    let met = is_given (none_of (λ n. never_given unifying L R passes) count_numbers)
    (as_listed (groups_exist unifying L R)) in
    record { meets = met; alone = λ other exit p. outcome_determined one_count p met }

-- Count answers of each pair of the table as many unifiers as are known.
pub counted_pairs_lem : (pair : CountedPair) → Memᴰ pair counted_pairs
    → CountAnswers pair.left pair.right pair.unifiers
counted_pairs_lem pair member =
    let L = pair.left in
    let R = pair.right in
    let number = admissible_count unifying L R (groups unifying L R) in
    let passed = both (within unifying L R) (eqb number pair.unifiers) (every_member test all_pass member) in
    subst (CountAnswers L R)
    (keys_counted unifying layout L R (groups unifying L R) ∙ eqb-true number pair.unifiers passed.1)
    (counted L R passed.0)
