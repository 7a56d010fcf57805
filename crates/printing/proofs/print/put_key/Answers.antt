-- `printing::print::put_key` meets its contract: the values that were written are those of the key. Assumes nothing.
use Rattle.pair.specs.Ways.{mode_of}
use Rattle.table.specs.Table.{groups_in}
use Rattle.lines.specs.Library.{bindings_of}
use Rattle.printing.proofs.KeyLines.{written_values}
use Rattle.printing.proofs.print.put_key.Goals as goal

pub returns-clause-key_put : goal.returns-clause-key_put
returns-clause-key_put c = λ way L R solved listed.
    let a = c.args in
    c.put_substitution_line.ensures.put (bindings_of way L R (groups_in a.table) a.key)
    (written_values (c.write_values-length.ensures.values_written (mode_of way L R) L R solved.the_table listed))
