use Prim.Native.Nat.{◌+◌, ◌*◌, ◌≤◌}
use mathlib.Core.Path.{◌≡◌}
use Rattle.buffer.specs.Filled.{PutsAtMost}
use mathlib.Core.List.{List}
use lib.ListN.{length}
use Rattle.ac.specs.Values.{Binding, laid_out}
use Rattle.text.proofs.Bindings.{Told}
use Rattle.text.proofs.put_spaced.Given as goal

abbrev pub invariant-loop-rest : goal.invariant-loop-rest
invariant-loop-rest l =
    (l.out.end + 6 * length l.rest ≤ l.initial.out.end + 6 * length l.values)
    × PutsAtMost (6 * length l.values) l.initial.out l.out
    × ((bs : List Binding) → laid_out bs ≡ l.values → Told bs l.initial.out l.rest l.out)

abbrev pub decreases-loop-rest : goal.decreases-loop-rest
decreases-loop-rest l = length l.rest
