-- `pair::counting::occurrences` meets its contract. The loop's invariant: the table counts the atoms passed.
-- No count is above the side's length, so each fits a byte. Assumes nothing.
use Rattle.std.proofs.Common.{arith}
use Rattle.pair.proofs.Counts.{counts_none, counts_more, count_so_far, right-byte}
use Rattle.pair.proofs.counting.occurrences.Goals as goal

pub loop-atom-init : goal.loop-atom-init
loop-atom-init c = counts_none

-- the byte of the side that is read is an atom
pub bounds-table-from : goal.bounds-table-from
bounds-table-from c = right-byte c.from.ensures c.loop-atom-test.true c.requires.fact

pub overflow_add-table : goal.overflow_add-table
overflow_add-table c =
    omega (arith, count_so_far c.args.side.now c.loop-atom.table c.loop-atom.atom-index c.from.result c.loop-atom.invariant c.requires.side_len_bound)

pub bounds-table-from-in-loop-atom : goal.bounds-table-from-in-loop-atom
bounds-table-from-in-loop-atom c = right-byte c.from.ensures c.loop-atom-test.true c.requires.fact

pub loop-atom-preserved : goal.loop-atom-preserved
loop-atom-preserved c =
    let at = c.loop-atom in
    counts_more c.args.side.now at.table c.from.ensures c.loop-atom-test.true
    (omega (arith, right-byte c.from.ensures c.loop-atom-test.true c.requires.fact, at.invariant.places)) at.invariant
