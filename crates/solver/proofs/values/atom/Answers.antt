-- `solver::values::atom` meets its contract: a constant below their number, from there on a new variable. Assumes nothing.
use mathlib.Core.Path.{sym}
use Rattle.list.proofs.Runs.{atom_constant, atom_new}
use Rattle.solver.proofs.values.atom.Goals as goal

pub returns-then-run-selection : goal.returns-then-run-selection
returns-then-run-selection c = sym (atom_constant c.args.selection c.if-run-selection.true)

pub returns-else-run-selection : goal.returns-else-run-selection
returns-else-run-selection c = sym (atom_new c.args.selection c.if-run-selection.false)
