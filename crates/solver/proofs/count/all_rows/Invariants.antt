use Prim.Native.Nat.{ℕ, ◌<◌}
use mathlib.Core.Path.{◌≡◌}
use lib.ListN.{length, get_or}
use Rattle.solver.specs.Missing.{AllRows}
use Rattle.solver.proofs.count.all_rows.Given as goal

abbrev pub invariant-loop-g : goal.invariant-loop-g
invariant-loop-g l =
    (length l.rows ≡ 5) × ((k : ℕ) → k < l.g → AllRows (get_or l.sizes k 0) (get_or l.rows k 0))
