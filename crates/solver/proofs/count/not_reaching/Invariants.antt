use Prim.Native.Nat.{ℕ, ◌+◌, ◌*◌, ◌<◌}
use mathlib.Core.Path.{◌≡◌}
use lib.ListN.{length, get_or}
use Rattle.solver.specs.Missing.{Without}
use Rattle.solver.proofs.count.not_reaching.Given as goal

abbrev pub invariant-loop-g : goal.invariant-loop-g
invariant-loop-g l =
    (length l.fewer ≡ 5)
    × ((k : ℕ) → k < l.g → Without (get_or l.rows k 0) (get_or l.reaching (6 * k + l.place) 0) (get_or l.fewer k 0))
