-- `pack::tell::put_column` meets its contract: its parts are put one behind the other. Assumes nothing.
use Rattle.std.proofs.Common.{arith}
use Rattle.buffer.proofs.Puts.{puts_then, put-length, room_behind}
use Rattle.text.proofs.Decimals.{decimal_fits}
use Rattle.pack.proofs.tell.put_column.Goals as goal

pub put_number-requires : goal.put_number-requires
put_number-requires c =
    room_behind c.put.ensures 20 (omega (arith, c.requires, c.put_line.ensures.at_most.within, c.put_line.ensures.at_most.long))

pub put-requires-2 : goal.put-requires-2
put-requires-2 c =
    let few = decimal_fits c.args.column c.ranges.column.fits in
    let put = puts_then c.put.ensures c.put_number.ensures in
    omega (
      arith,
      c.requires,
      c.put_line.ensures.at_most.within,
      c.put_line.ensures.at_most.long,
      c.put.ensures.put.place,
      c.put_number.ensures.put.place,
      put-length put.put,
      few,
    )

pub returns-clause-put : goal.returns-clause-put
returns-clause-put c =
    puts_then (puts_then (puts_then c.put_line.ensures.put c.put.ensures) c.put_number.ensures) c.put-2.ensures

pub returns-clause-at_most : goal.returns-clause-at_most
returns-clause-at_most c =
    let few = decimal_fits c.args.column c.ranges.column.fits in
    let put = puts_then (puts_then (puts_then c.put_line.ensures.put c.put.ensures) c.put_number.ensures) c.put-2.ensures in
    record {
      within =
          omega (
            arith,
            c.put_line.ensures.at_most.within,
            c.put.ensures.put.place,
            c.put_number.ensures.put.place,
            c.put-2.ensures.put.place,
            few,
          );
      long = put-length put.put;
      same = put.same;
    }
