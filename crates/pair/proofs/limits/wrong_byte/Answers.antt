-- `pair::limits::wrong_byte` meets its contract. Assumes nothing.
use Rattle.std.proofs.Common.{◌≡◌, rules, tests}
use Rattle.std.proofs.lemmas.Iterator.{YieldsList-from_slice}
use Rattle.std.proofs.lemmas.Iterator.Search.{any_from_yields_List}
use Rattle.std.specs.List.{list_any}
use lib.Dec.{ltb}
use Rattle.pair.proofs.Telling.{tells_wrong}
use Rattle.pair.proofs.limits.wrong_byte.Goals as goal

pub returns : goal.returns
returns c =
    let some : c.any.result ≡ list_any (λ byte. ltb 127 byte) c.args.side.now =
    any_from_yields_List _ _ _ _ c.any.ensures.ran (YieldsList-from_slice c.args.side.now (cc)) (λ x b q k. search (rules, tests)) in
    rw some (tells_wrong c.args.side.now)
