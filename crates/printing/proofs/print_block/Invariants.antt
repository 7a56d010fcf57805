use Prim.Native.Nat.{ℕ, ◌-◌, ◌≤◌}
use mathlib.Core.Path.{◌≡◌}
use mathlib.Core.List.{List, ◌++◌}
use lib.ListN.{length, take}
use Rattle.pair.specs.declared.ways.Way.{Way}
use Rattle.output.specs.Step.{lines_joined, left_from}
use Rattle.output.specs.Room.{HasRoom, StillHeld}
use Rattle.printing.specs.Printed.{line_count, lines_of, Prints}
use Rattle.printing.proofs.print_block.Given as goal

abbrev pub invariant-loop-number : goal.invariant-loop-number
invariant-loop-number g l =
    (length l.output ≡ length l.initial.output)
    × (l.number ≤ line_count l.listing)
    × HasRoom (length l.initial.output) l.next
    × ((way : Way) (L R : List ℕ) → Prints way L R l.listing
    → StillHeld (take l.at l.initial.output ++ lines_joined (lines_of way L R l.listing)) l.output l.next
    (left_from (lines_of way L R l.listing) l.number))

abbrev pub decreases-loop-number : goal.decreases-loop-number
decreases-loop-number g l = l.lines - l.number
