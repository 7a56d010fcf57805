use Prim.Native.Nat.{ℕ, ◌≤◌}
use mathlib.Core.Path.{◌≡◌}
use lib.ListN.{length, get_or}
use Rattle.table.specs.Choices.{Complete}
use Rattle.table.proofs.choices.choices_of.Given as goal

abbrev pub invariant-loop-g : goal.invariant-loop-g
invariant-loop-g l =
    (length l.choices ≡ 5)
    × ((h : ℕ) → l.g ≤ h → h ≤ l.unbalanced → Complete l.reaching l.sizes l.unbalanced l.largest h (get_or l.choices h 0))
