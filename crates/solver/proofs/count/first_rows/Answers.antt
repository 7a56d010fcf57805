-- `solver::count::first_rows` meets its contract: the mask has as many ones as there are rows. Assumes nothing.
use Prim.Native.Nat.{ℕ, ◌*◌, ◌%◌, ◌^◌, ◌<◌}
use native.Mathlib.Omega.{arith}
use mathlib.Core.Path.{◌≡◌, ◌∙◌}
use lib.Pow.{shl_exact}
use Rattle.solver.proofs.Missing.{all_rows_lem}
use Rattle.solver.proofs.count.first_rows.Goals as goal

shifted : (n : ℕ) → n < 64 → 1 * 2 ^ n % 2 ^ 64 ≡ 2 ^ n
shifted n h = shl_exact {a = 1} 1 n 64 (omega arith) (omega arith) ∙ omega arith

pub returns : goal.returns
returns c = rw (shifted c.args.size c.requires) (all_rows_lem c.args.size)
