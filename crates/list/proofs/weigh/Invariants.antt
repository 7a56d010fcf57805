use Prim.Native.Nat.{ℕ}
use mathlib.Core.List.{List}
use Rattle.list.specs.Reach.{InTuple}
use Rattle.list.proofs.Weighing.{WeighsTo}
use Rattle.list.proofs.weigh.Given as goal

-- the number that the first places send to
abbrev pub To : List ℕ → ℕ → ℕ → ℕ → ℕ → ℕ → Type 0
To reaching unbalanced must key n first = InTuple key first × WeighsTo reaching unbalanced must key n first

abbrev pub invariant-loop-place : goal.invariant-loop-place
invariant-loop-place l = To l.masks.reaching l.masks.unbalanced l.masks.must l.key l.place l.first
