-- The loop's invariant: the lines of the pieces that came are packed.
use Rattle.std.proofs.Common.{◌≡◌, length}
use Rattle.library.specs.Reading.{ReaderFits}
use Rattle.pack.specs.Packing.{Ready}
use Rattle.pack.proofs.Running.{Running}
use Rattle.pack.proofs.pack_lines.Given as goal

abbrev pub invariant-loop-start : goal.invariant-loop-start
invariant-loop-start g l = record {
  long : length l.input ≡ length l.initial.input;
  fits : ReaderFits l.input l.reader;
  ready : Ready l.packing (length l.initial.output);
  running : Running l.input l.reader l.line l.packing l.output;
}

abbrev pub decreases-loop-start : goal.decreases-loop-start
decreases-loop-start g l = l.reader.left
