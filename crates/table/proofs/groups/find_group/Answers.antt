-- `table::groups::find_group` meets its contract: the two parts of a net count say what is found. Assumes
-- nothing.
use Prim.Native.Nat.{ℕ}
use mathlib.Core.Path.{subst₂}
use lib.ListN.{take}
use Rattle.equation.specs.Found.{equation_with, Finds}
use Rattle.equation.specs.declared.Offsets.{Offsets}
use Rattle.table.specs.Rows.{most_rows}
use Rattle.table.specs.Groups.{offsets_in}
use Rattle.table.proofs.Finding.{found_group, few_found}
use Rattle.table.proofs.groups.find_group.Goals as goal

finds : (c : goal.After-find_rows) → let v = c.args.pair.variables in
    Finds (most_rows c.args.group)
    (equation_with (take v.count v.left) (take v.count v.right) (offsets_in c.args.pair.constants c.args.group))
    c.find_rows.result
finds c =
    let v = c.args.pair.variables in
    subst₂ (λ (limit : ℕ) (offsets : Offsets).
    Finds limit (equation_with (take v.count v.left) (take v.count v.right) offsets) c.find_rows.result)
    c.most_rows.ensures c.offsets_in-offsets.ensures c.find_rows.ensures

pub returns-clause-few : goal.returns-clause-few
returns-clause-few c = few_found (finds c)

pub returns-clause-finds : goal.returns-clause-finds
returns-clause-finds c M L R of = found_group of c.args.group c.requires.1 (finds c)
