use Prim.Native.Nat.{ℕ}
use mathlib.Core.Path.{◌≡◌}
use mathlib.Core.List.{List}
use lib.ListN.{length}
use Rattle.pair.specs.declared.ways.Way.{Way}
use Rattle.output.specs.Step.{Steps}
use Rattle.output.proofs.Steps.{Going}
use Rattle.printing.specs.Printed.{line_count, lines_of, Prints}
use Rattle.printing.proofs.print.Listing.put_lines.Given as goal

abbrev pub invariant-loop-line : goal.invariant-loop-line
invariant-loop-line l =
    (l.filled.buffer.ghost_name ≡ l.initial.filled.buffer.ghost_name)
    × (length l.filled.buffer.now ≡ length l.initial.filled.buffer.now)
    × Going (line_count l.self) l.number l.initial.filled.end (length l.initial.filled.buffer.now) l.line l.filled.end
    × ((way : Way) (L R : List ℕ) → Prints way L R l.self
    → Steps (lines_of way L R l.self) l.number l.initial.filled.buffer.now l.initial.filled.end
    (record { line = l.line; at = l.filled.end }) l.filled.buffer.now)
