use Prim.Native.Nat.{ℕ, ◌<◌}
use Rattle.ac.specs.Keys.{layout, field_at}
use Rattle.list.specs.Candidates.{field_limit}
use Rattle.list.proofs.gap_end.Given as goal

abbrev pub invariant-loop-g : goal.invariant-loop-g
invariant-loop-g l = (h : ℕ) → h < l.g → field_at layout l.key h < field_limit l.masks.sizes l.masks.unbalanced h
