-- `table::masks::missed_by` meets its contract: the places that pass the test are marked, and they are few.
use Rattle.std.proofs.Common.{rules, tests}
use Prim.Native.Nat.{ℕ, ◌+◌, ◌*◌, ◌≤◌}
use native.Mathlib.Omega.{arith}
use mathlib.Core.Bool.{Bool}
use mathlib.Core.List.{List}
use lib.Bits.{bit_and}
use lib.Dec.{eqb}
use lib.ListN.{get_or}
use lib.Pow.{pow_mono}
use Rattle.table.specs.Masks.{MarkedTo}
use Rattle.table.proofs.masks.missed_by.Goals.{After-mask_where}
use Rattle.table.proofs.masks.missed_by.Goals as goal

-- none of the rows is above 0 at the place
abbrev misses : List ℕ → ℕ → ℕ → ℕ → Bool
misses reaching g rows p = eqb (bit_and (get_or reaching (6 * g + p) 0) rows) 0

marked : (c : After-mask_where) → MarkedTo (misses c.args.reaching.now c.args.g c.args.rows) c.args.places c.mask_where.result
marked c = c.mask_where.ensures (misses c.args.reaching.now c.args.g c.args.rows) (λ i b less said. search (rules, tests))

pub returns-clause-missed_by : goal.returns-clause-missed_by
returns-clause-missed_by c = (marked c).marks

pub returns-clause-upper_bound : goal.returns-clause-upper_bound
returns-clause-upper_bound c =
    let few : c.args.places ≤ 6 = omega arith in
    omega (arith, (marked c).small, pow_mono few)
