use Prim.Native.Nat.{ℕ}
use mathlib.Core.Bool.{Bool}
use Rattle.table.specs.Masks.{Tests, MarkedTo}
use Rattle.table.proofs.masks.mask_where.Given as goal

abbrev pub invariant-loop-i : goal.invariant-loop-i
invariant-loop-i g l = (test : ℕ → Bool) → Tests (goal.F-post g l.passes) l.end test → MarkedTo test l.i l.mask
