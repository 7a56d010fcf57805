-- `lines::put_labelled` meets its contract: the word, and the number behind it. Assumes nothing.
use Rattle.std.proofs.Common.{arith, length-append}
use Rattle.buffer.proofs.Puts.{puts_then, room_behind}
use Rattle.text.specs.Decimal.{decimal}
use Rattle.text.proofs.Decimals.{decimal_fits}
use Rattle.lines.proofs.Putting.{within_bound}
use Rattle.lines.proofs.put_labelled.Goals as goal

pub put_number-requires : goal.put_number-requires
put_number-requires c = room_behind c.put.ensures 20 c.requires

pub returns : goal.returns
returns c =
    let few = decimal_fits c.args.number c.ranges.number.fits in
    within_bound (puts_then c.put.ensures c.put_number.ensures) (omega (arith, length-append c.args.word.now (decimal c.args.number)))
