-- `writing::put_terms` meets its contract: one piece behind the other. Assumes nothing.
use Rattle.std.proofs.Common.{arith}
use Rattle.buffer.proofs.Puts.{put-length}
use Rattle.writing.proofs.Fronts.{length_front}
use Rattle.writing.proofs.Blocks.{terms_put}
use Rattle.writing.proofs.put_terms.Goals as goal

pub put_term-requires : goal.put_term-requires
put_term-requires c =
    let left = c.put_term-left_end.ensures in
    let lengths = c.put_bytes-lengths_end.ensures in
    let number = c.put_number-number_end.ensures in
    record {
      atoms_nonzero = c.requires.right_nonzero.0;
      atoms_in_bounds =
          omega (
            arith,
            left.place,
            lengths.place,
            number.place,
            put-length left,
            put-length lengths,
            put-length number,
            length_front c.args.left.now c.requires.left_nonzero.0,
          );
    }

pub returns : goal.returns
returns c =
    terms_put c.args.number
    (omega (arith, c.term_length.ensures, length_front c.args.left.now c.requires.left_nonzero.0))
    (omega (arith, c.term_length-2.ensures, length_front c.args.right.now c.requires.right_nonzero.0))
    c.put_number-number_end.ensures
    c.put_bytes-lengths_end.ensures
    c.put_term-left_end.ensures
    c.put_term.ensures
