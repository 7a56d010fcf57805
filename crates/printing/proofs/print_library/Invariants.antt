use mathlib.Core.Path.{◌≡◌}
use lib.ListN.{length}
use Rattle.library.specs.Reading.{ReaderFits}
use Rattle.output.specs.Room.{HasRoom}
use Rattle.printing.proofs.Running.{Running}
use Rattle.printing.proofs.print_library.Given as goal

abbrev pub invariant-loop-start : goal.invariant-loop-start
invariant-loop-start g l =
    (length l.input ≡ length l.initial.input)
    × (length l.output ≡ length l.initial.output)
    × ReaderFits l.input l.reader
    × HasRoom (length l.initial.output) l.at
    × Running l.report l.input l.reader l.counts l.output l.at

abbrev pub decreases-loop-start : goal.decreases-loop-start
decreases-loop-start g l = l.reader.left
