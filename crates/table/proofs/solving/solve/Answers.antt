-- `table::solving::solve` meets its contract: 7 to 11 and 19, then 12, or the table with all groups.
use Rattle.std.proofs.Common.{◌≡◌, suc, length, refl, Err}
use Rattle.std.proofs.lemmas.Result.{err_from_is_err_and}
use Rattle.ac.specs.Limits.{limits}
use Rattle.ac.specs.Pair.{Mode, unbalanced}
use Rattle.numbers.specs.First.{NoneOf, here}
use Rattle.numbers.specs.Order.{parting_numbers, row_limit_numbers}
use Rattle.numbers.specs.declared.Refusal.TheVariants.{Rows}
use Rattle.numbers.proofs.Carried.{first_before}
use Rattle.numbers.proofs.Said.{refuses_carried}
use Rattle.numbers.proofs.Verdicts.{decides_said, decides_refused, decides_after}
use Rattle.pair.specs.Given.{PairGiven}
use Rattle.pair.specs.Parted.{PairOf}
use Rattle.pair.specs.Ways.{mode_of}
use Rattle.table.specs.Groups.{RowIn, GroupsUpto}
use Rattle.table.proofs.Accepting.{constants_held, entries_fit, table_found}
use Rattle.table.proofs.Solvable.{pair_roomy}
use Rattle.table.proofs.solving.solve.Goals.{In_ok-pair, In_ok-rows}
use Rattle.table.proofs.solving.solve.Goals as goal

pub returns-in_err-pair : goal.returns-in_err-pair
returns-in_err-pair c =
    let p = err_from_is_err_and c.from_residual.result c.from_residual.ensures.1 in
    let told : c.from_residual.result ≡ Err c.in_err-pair.field-0.0 = cc (p.1, p.2) in
    decides_said told (refuses_carried (first_before row_limit_numbers) (c.take_apart.ensures.refused _ c.in_err-pair.was))

module _ (c : In_ok-pair) where
  abbrev mode : Mode
  mode = mode_of c.args.way c.args.left.now c.args.right.now

  -- no number before 12 is given, and the pair is that of the sides
  none_given : NoneOf (PairGiven limits mode c.args.left.now c.args.right.now) parting_numbers
  none_given = c.take_apart.ensures.none_given c.in_ok-pair.was

  pair_of : PairOf mode c.args.left.now c.args.right.now c.in_ok-pair.pair
  pair_of = c.take_apart.ensures.so c.in_ok-pair.was

pub find_groups-requires : goal.find_groups-requires
find_groups-requires c = pair_roomy (none_given c) (pair_of c)

pub returns-in_err-rows : goal.returns-in_err-rows
returns-in_err-rows c =
    let before = (goal.at.returns-in_err-rows c).In_ok-pair in
    let p = err_from_is_err_and c.from_residual-in_err-rows.result c.from_residual-in_err-rows.ensures.1 in
    let nothing = c.in_err-rows.ensures.ok_part in
    let rows = rw nothing at c.in_err-rows.ensures.value in
    let told : c.from_residual-in_err-rows.result ≡ Err Rows = cc (p.1, p.2, rows) in
    let given = rw nothing at (c.find_groups.ensures _ _ _ (pair_of before)) in
    decides_after (none_given before) (decides_refused told refl (here given))

-- all groups of the pair are found
known : (c : In_ok-rows) → let M = mode_of c.args.way c.args.left.now c.args.right.now in
    GroupsUpto (RowIn M c.args.left.now c.args.right.now) c.in_ok-pair.pair.variables.count c.in_ok-rows.field-0.rows
    c.in_ok-rows.field-0.sizes (suc (length (unbalanced M c.args.left.now c.args.right.now)))
known c =
    rw c.in_ok-rows.ensures.ok_part at (c.find_groups.ensures _ _ _ (c.take_apart.ensures.so c.in_ok-pair.was))

pub invariant_of-result : goal.invariant_of-result
invariant_of-result c =
    let before = (goal.at.invariant_of-result c).In_ok-pair in
    let roomy = find_groups-requires before in
    let groups = known (goal.at.invariant_of-result c).In_ok-rows in
    record {
      places_fit = roomy.variables_fit;
      constants_fit = roomy.constants_fit;
      constants_held = constants_held (none_given before) (pair_of before) roomy c.first_four-constants.ensures;
      sizes_fit = groups.sizes_fit;
      entries_fit = entries_fit (none_given before) (pair_of before) roomy groups;
    }

pub returns : goal.returns
returns c =
    let before = (goal.at.returns c).In_ok-pair in
    table_found (none_given before) (pair_of before) (find_groups-requires before) _ refl refl
    c.first_four-constants.ensures refl (c.may_be_empty.ensures _ _) (known (goal.at.returns c).In_ok-rows)
