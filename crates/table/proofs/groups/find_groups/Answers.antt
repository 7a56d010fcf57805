-- `table::groups::find_groups` meets its contract: before each turn the groups before that one stand at their
-- places. Assumes nothing.
use Rattle.std.proofs.Common.{rules}
use Prim.Native.Nat.{suc, ◌<◌}
use mathlib.Core.Path.{◌≡◌, refl, subst, ◌∙◌}
use native.Mathlib.Omega.{arith}
use lib.ListN.{length, length-set}
use Rattle.ac.specs.Limits.{limits}
use Rattle.ac.specs.Pair.{unbalanced}
use Rattle.pair.proofs.Lists.{get_or-replicate-same}
use Rattle.table.specs.Groups.{RowIn, GroupsUpto}
use Rattle.table.specs.Table.{room_of_rows}
use Rattle.table.proofs.Accepting.{groups_none, groups_next}
use Rattle.table.proofs.Counting.{twelve_given}
use Rattle.table.proofs.groups.find_groups.Goals as goal

pub loop-group-init : goal.loop-group-init
loop-group-init c =
    record {
      rows_size = refl;
      sizes_size = refl;
      groups = λ M L R of. groups_none (λ g. get_or-replicate-same (suc limits.constants) g 0)
          (λ i. get_or-replicate-same room_of_rows i 0);
    }

pub returns-in_err-found : goal.returns-in_err-found
returns-in_err-found c M L R of =
    rw c.from_residual.ensures (twelve_given c.loop-group.group (omega (arith, of.the_constants.how_many))
    (c.in_err-found.ensures.finds M L R of))

pub loop-group-preserved : goal.loop-group-preserved
loop-group-preserved c =
    let at = c.loop-group in
    let found = c.in_ok-found.found in
    let spread = c.spread in
    let there : at.group < length at.sizes =
    omega (arith, c.requires.constants_fit, at.invariant.sizes_size) in
    record {
      rows_size = search rules;
      sizes_size = length-set at.sizes at.group found.number ∙ at.invariant.sizes_size;
      groups = λ M L R of. groups_next there c.in_ok-found.ensures.few (c.in_ok-found.ensures.finds M L R of)
          spread.ensures (at.invariant.groups M L R of);
    }

pub returns : goal.returns
returns c M L R of =
    subst (GroupsUpto (RowIn M L R) c.args.pair.variables.count c.loop-group.rows c.loop-group.sizes) (let all : c.loop-group.group ≡ suc (length (unbalanced M L R)) = omega (arith, of.the_constants.how_many) in all)
    (c.loop-group.invariant.groups M L R of)
