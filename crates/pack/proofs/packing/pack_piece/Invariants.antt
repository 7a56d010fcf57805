-- The loop's invariant: the lines that ended in the piece's bytes before the rest are packed.
use Rattle.std.proofs.Common.{length}
use Rattle.pack.specs.Packing.{Ready}
use Rattle.pack.proofs.Going.{Piece}
use Rattle.pack.proofs.packing.pack_piece.Given as goal

abbrev pub invariant-loop-end : goal.invariant-loop-end
invariant-loop-end g l = record {
  ready : Ready l.on (length l.initial.output);
  piece : Piece l.bytes l.initial.line l.initial.on l.initial.output l.rest l.line l.on l.output;
}

abbrev pub decreases-loop-end : goal.decreases-loop-end
decreases-loop-end g l = length l.rest
