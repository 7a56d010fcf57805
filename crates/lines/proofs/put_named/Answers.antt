-- `lines::put_named` meets its contract: a byte has a name of at most four bytes. Assumes nothing.
use Rattle.std.proofs.Common.{arith}
use Rattle.buffer.proofs.Puts.{puts_then}
use Rattle.text.proofs.Names.{name_short}
use Rattle.lines.proofs.Putting.{within_bound}
use borrow.Author.Rules.{rules}
use Rattle.lines.proofs.put_named.Goals as goal

pub returns : goal.returns
returns c =
    within_bound (puts_then c.put_byte.ensures c.put_name.ensures) (omega (arith, name_short c.args.atom (search rules)))
