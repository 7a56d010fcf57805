-- `pack::tell::put_too_long` meets its contract. Assumes nothing.
use Rattle.std.proofs.Common.{arith}
use Rattle.buffer.proofs.Puts.{puts_then, put-length}
use Rattle.pack.proofs.tell.put_too_long.Goals as goal

pub returns-clause-put : goal.returns-clause-put
returns-clause-put c = puts_then c.put_line.ensures.put c.put.ensures

pub returns-clause-at_most : goal.returns-clause-at_most
returns-clause-at_most c =
    let put = puts_then c.put_line.ensures.put c.put.ensures in
    record {
      within = omega (arith, c.put_line.ensures.at_most.within, c.put.ensures.put.place);
      long = put-length put.put;
      same = put.same;
    }
