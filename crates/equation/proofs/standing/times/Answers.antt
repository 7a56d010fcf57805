-- `equation::standing::times` meets its contract: a product of two bytes fits. Assumes nothing.
use native.Mathlib.Omega.{arith}
use Prim.Native.Nat.{◌*◌}
use mathlib.Core.Path.{ap₂}
use Rattle.equation.proofs.Ranges.{bytes_product}
use Rattle.equation.proofs.standing.times.Goals as goal

pub overflow_mul-result : goal.overflow_mul-result
overflow_mul-result c = omega (
  arith,
  bytes_product {a = c.from.result} {b = c.from-2.result} (omega arith) (omega arith),
)

pub returns : goal.returns
returns c = ap₂ (λ a b. a * b) c.from.ensures c.from-2.ensures
