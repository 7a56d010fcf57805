-- `solver::page::page` meets its contract: 16, then the numbers of the sides, then the page of the solved pair; demand 3
-- follows from the promise. Assumes nothing.
use Prim.Native.Nat.{ℕ, ◌<◌, ◌≤◌}
use mathlib.Core.Path.{refl, subst}
use lib.ListN.{length}
use Rattle.ac.proofs.Groups.{groups_exist}
use Rattle.std.proofs.lemmas.Result.{err_from_is_err_and}
use Rattle.numbers.specs.Order.{beginning_numbers}
use Rattle.numbers.proofs.Parts.{short_promised, verdict_promised}
use Rattle.solver.proofs.Existence.{page_existence}
use Rattle.solver.proofs.Given.{page_made}
use Rattle.solver.proofs.page.page.Goals as goal

pub returns-then-out-wanted_count : goal.returns-then-out-wanted_count
returns-then-out-wanted_count c =
    let out = c.args.out.now in
    let promised = short_promised (page_made (groups_exist _ _ _)) (subst (λ (n : ℕ). length out < n) c.wanted_count.ensures c.if-out-wanted_count.true) in
    record { promise = promised; existence = page_existence promised }

pub returns-in_err-table : goal.returns-in_err-table
returns-in_err-table c =
    let out = c.args.out.now in
    let enough = subst (λ (n : ℕ). n ≤ length out) c.wanted_count.ensures c.if-out-wanted_count.false in
    let promised =
    verdict_promised (page_made (groups_exist _ _ _)) enough c.in_err-table.ensures beginning_numbers refl in
    let refused = err_from_is_err_and c.from_residual.result c.from_residual.ensures.1 in
    rw (refused.1, refused.2) (record { promise = promised; existence = page_existence promised })

pub returns : goal.returns
returns c =
    let solved = c.in_ok-table.ensures in
    let promised = c.page_of.ensures _ _ _ (solved.so refl) (solved.none_given refl) in
    record { promise = promised; existence = page_existence promised }
