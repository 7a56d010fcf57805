-- `printing::ask::list_sides` meets its contract: what solving refuses, Rows and Page refuse; a solved pair
-- they answer. Assumes nothing.
use native.Mathlib.Omega.{arith}
use mathlib.Core.Path.{refl}
use mathlib.Core.List.{[]}
use Rattle.ac.proofs.Groups.{groups_exist}
use Rattle.numbers.specs.Order.{beginning_numbers}
use Rattle.numbers.proofs.Parts.{verdict_promised}
use Rattle.solver.proofs.Given.{rows_made, page_made}
use Rattle.printing.specs.Asked.{listing}
use Rattle.printing.proofs.ask.list_sides.Goals as goal

pub returns-in-Err : goal.returns-in-Err
returns-in-Err c =
    let decided = c.solve.ensures in
    let refused = c.in-Err.is in
    record {
      same_read = refl;
      sides =
          listing
          (record {
            rows_after = _;
            rows_promise = verdict_promised rows_made (omega arith) decided [] refused;
            page_promise =
                verdict_promised (page_made (groups_exist _ _ _))
                c.requires decided beginning_numbers refused;
            solved = λ e. absurd (cc e);
          });
    }

pub returns-in-Ok : goal.returns-in-Ok
returns-in-Ok c =
    let solved = c.solve.ensures in
    let accepted = c.in-Ok.is in
    record {
      same_read = refl;
      sides =
          listing
          (record {
            rows_after = _;
            rows_promise = c.rows_of-rows.ensures _ _ _
                (solved.so accepted) (solved.none_given accepted);
            page_promise = c.page_of-page.ensures _ _ _ (solved.so accepted)
                (solved.none_given accepted);
            solved = λ e. record { none_given = solved.none_given accepted; the_table = solved.so accepted };
          });
    }
