use Prim.Native.Nat.{ℕ, ◌<◌}
use lib.ListN.{get_or}
use Rattle.table.specs.Marks.{MarksAt}
use Rattle.table.proofs.masks.reaching_of.Given as goal

abbrev pub invariant-loop-at : goal.invariant-loop-at
invariant-loop-at l = (k : ℕ) → k < l.at → MarksAt l.table.rows l.table.sizes k (get_or l.mask-items k 0)
