-- `pair::counting::shares_variable` meets its contract: the variables' places are gone through in both tables. Assumes
-- nothing.
use Rattle.std.proofs.Common.{◌≡◌, ◌&&◌, ℕ, arith, rules, tests, take, length-take}
use Rattle.std.proofs.lemmas.Iterator.{YieldsList-from_slice, YieldsList-from_zip}
use Rattle.std.proofs.lemmas.Iterator.Search.{any_from_yields_List}
use Rattle.std.specs.List.{list_any, zip}
use lib.Dec.{ltb}
use Rattle.pair.proofs.Counts.{tells_shared}
use Rattle.pair.proofs.counting.shares_variable.Goals as goal

pub slice_bounds-iter-end : goal.slice_bounds-iter-end
slice_bounds-iter-end c = omega (arith, length-take 64 c.args.lefts)

pub returns : goal.returns
returns c L R of_left of_right =
    let some : c.any.result ≡ list_any (λ (p : ℕ × ℕ). ltb 0 p.0 && ltb 0 p.1) (zip (take 64 c.args.lefts) c.args.rights) =
    any_from_yields_List _ c.any.new.self _ _ c.any.ensures.ran
    (YieldsList-from_zip (YieldsList-from_slice (take 64 c.args.lefts) (cc)) (YieldsList-from_slice c.args.rights (cc)))
    (λ x b q k. search (rules, tests)) in
    rw some (tells_shared of_left of_right)
