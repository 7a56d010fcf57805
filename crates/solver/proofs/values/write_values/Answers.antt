-- `solver::values::write_values` meets its contract: what is put of the selection are the values of the listed key.
-- Assumes nothing.
use native.Mathlib.Omega.{arith}
use Rattle.solver.proofs.ValuesWritten.{writes_values}
use Rattle.solver.proofs.values.write_values.Goals as goal

pub returns-clause-values_written : goal.returns-clause-values_written
returns-clause-values_written c M L R of listed =
    writes_values of listed c.selection_of-selection.ensures (omega (arith, c.put_bindings.ensures.upper_bound))
    c.put_bindings.ensures.put
