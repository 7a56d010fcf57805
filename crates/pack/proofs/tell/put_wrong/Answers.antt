-- `pack::tell::put_wrong` meets its contract: its parts are put one behind the other. Assumes nothing.
use Rattle.std.proofs.Common.{arith}
use Rattle.buffer.proofs.Puts.{puts_then, puts_as, put-length}
use Rattle.pack.proofs.tell.put_wrong.Goals as goal

pub put-requires-2 : goal.put-requires-2
put-requires-2 c =
    omega (
      arith,
      c.requires,
      c.put_column.ensures.at_most.within,
      c.put_column.ensures.at_most.long,
      c.words_of.ensures.upper_bound,
      c.put.ensures.put.place,
      put-length c.put.ensures.put,
    )

pub returns-clause-put : goal.returns-clause-put
returns-clause-put c =
    puts_then (puts_then c.put_column.ensures.put (puts_as c.words_of.ensures.words c.put.ensures)) c.put-2.ensures

pub returns-clause-at_most : goal.returns-clause-at_most
returns-clause-at_most c =
    let put = puts_then (puts_then c.put_column.ensures.put c.put.ensures) c.put-2.ensures in
    record {
      within =
          omega (
            arith,
            c.put_column.ensures.at_most.within,
            c.words_of.ensures.upper_bound,
            c.put.ensures.put.place,
            c.put-2.ensures.put.place,
          );
      long = put-length put.put;
      same = put.same;
    }
