-- `solver::values::value_length` meets its contract: the sum over the runs is their total. Assumes nothing.
use Prim.Native.Nat.{◌^◌}
use native.Mathlib.Omega.{arith}
use mathlib.Core.Path.{◌∙◌}
use borrow.Author.Rules.{rules}
use Rattle.list.specs.Runs.{run_count, times_at}
use Rattle.std.proofs.lemmas.Iterator.{YieldsList-from_range, YieldsList-from_map}
use Rattle.std.proofs.lemmas.Iterator.Consumers.{sum_from_yields_List, YieldsList-at}
use Rattle.std.proofs.lemmas.Iterator.Adapters.{fits_from_length, at_most_from_yields_List}
use Rattle.std.proofs.lemmas.List.FromFn.{length-range_with_len}
use Rattle.solver.proofs.Totals.{total_summed}
use Rattle.solver.proofs.values.value_length.Goals as goal

pub sum-requires-clause-fits : goal.sum-requires-clause-fits
sum-requires-clause-fits c =
    let n = run_count c.args.selection in
    fits_from_length _ _ 20 (2 ^ 64)
    (at_most_from_yields_List (YieldsList-at c.map.ensures.source (YieldsList-from_range 0 n n (cc) (omega arith))) (omega (arith, length-range_with_len 0 n)))
    c.map.ensures.closure (omega arith) (λ x r q k. search rules)

pub returns : goal.returns
returns c =
    let a = c.args in
    let n = run_count a.selection in
    sum_from_yields_List c.map.result c.sum.result c.sum.ensures.ran
    (YieldsList-from_map _ (times_at a.rows.now a.selection a.place)
    (YieldsList-at c.map.ensures.source (YieldsList-from_range 0 n n (cc) (omega arith)))
    c.map.ensures.closure (λ x r q k. search rules))
    ∙ total_summed n (times_at a.rows.now a.selection a.place)
