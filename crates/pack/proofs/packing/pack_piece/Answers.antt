-- `pack::packing::pack_piece` meets its contract. The loop's invariant: the lines that ended in the piece's bytes
-- before the rest are packed. The measure is the rest. Assumes nothing.
use Rattle.std.proofs.Common.{sym, ◌∙◌, arith}
use borrow.Author.Rules.{part_to_end}
use Rattle.std.proofs.lemmas.Result.{err_from_is_err_and}
use Rattle.pattern.proofs.Texts.{first_found, none_found}
use Rattle.pack.specs.Packing.{PieceGoes}
use Rattle.pack.proofs.Going.{when_on, piece_more, piece_over}
use Rattle.pack.proofs.packing.pack_piece.Goals as goal

pub returns-in_err-on : goal.returns-in_err-on
returns-in_err-on g c =
    let p = err_from_is_err_and c.from_residual.result c.from_residual.ensures.1 in rw p.1 PieceGoes.not_written

pub loop-end-preserved : goal.loop-end-preserved
loop-end-preserved g c =
    let l = c.loop-end in
    let on = when_on c.pack_line.ensures c.in_ok-on.was in
    record {
      ready = record { place = omega (arith, on.inside); room = l.invariant.ready.room };
      piece = rw part_to_end (piece_more l.invariant.piece (first_found (sym c.find.ensures ∙ c.in-Some.is))
          c.append.ensures on c.clear.ensures);
    }

pub returns : goal.returns
returns g c =
    let l = c.loop-end in
    PieceGoes.goes_on l.invariant.ready.place
    (piece_over l.invariant.piece (none_found (sym c.find.ensures ∙ c.in_default.is)) c.append-2.ensures)
