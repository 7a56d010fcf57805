-- `pack::tell::put_line` meets its contract: the word and the number behind it. Assumes nothing.
use Rattle.std.proofs.Common.{arith, length, length-append}
use Rattle.buffer.proofs.Puts.{puts_then, room_behind}
use Rattle.text.specs.Decimal.{decimal}
use Rattle.text.proofs.Decimals.{decimal_fits}
use Rattle.pack.proofs.Telling.{puts_at_most}
use Rattle.pack.proofs.tell.put_line.Goals as goal

pub put_number-requires : goal.put_number-requires
put_number-requires c = room_behind c.put.ensures 20 (omega (arith, c.requires))

pub returns-clause-put : goal.returns-clause-put
returns-clause-put c = puts_then c.put.ensures c.put_number.ensures

pub returns-clause-at_most : goal.returns-clause-at_most
returns-clause-at_most c =
    puts_at_most (puts_then c.put.ensures c.put_number.ensures) (omega (arith, decimal_fits c.args.line c.ranges.line.fits))
