-- Laws of a page request.
use Prim.Native.Nat.{ℕ, zero, suc, ◌<◌}
use native.Mathlib.Omega.{arith}
use Rattle.solver.specs.Page.{wanted_count}

-- at least one key is wanted
pub wanted_some : (n : ℕ) → 0 < wanted_count n
wanted_some zero = omega arith
wanted_some (suc n) = omega arith
