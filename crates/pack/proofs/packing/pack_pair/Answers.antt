-- `pack::packing::pack_pair` meets its contract: the block is put where there is room for it. Assumes nothing.
use Rattle.std.proofs.lemmas.Result.{err_from_is_err_and}
use Rattle.pack.specs.Packing.{PairGoes}
use Rattle.pack.proofs.Blocks.{block_is, refuses, pair_made, pair_refused}
use Rattle.pack.proofs.packing.pack_pair.Goals as goal

pub returns-in_err-at : goal.returns-in_err-at
returns-in_err-at g c =
    let p = err_from_is_err_and c.from_residual.result c.from_residual.ensures.1 in rw p.1 PairGoes.not_written

pub returns-in-Ok : goal.returns-in-Ok
returns-in-Ok g c =
    let out = c.args.output.now in
    let makes = c.make_room.ensures in
    let write = c.write in
    let its = block_is out c.args.packing makes c.in_ok-at.was write.new.block write.auto.block c.in-Ok.ensures in
    pair_made out c.args.packing makes c.in_ok-at.was write.new.block write.auto.block its c.after_block.ensures

pub returns-in-Err : goal.returns-in-Err
returns-in-Err g c =
    let out = c.args.output.now in
    let makes = c.make_room.ensures in
    let write = c.write in
    let no = refuses out c.args.packing makes c.in_ok-at.was write.new.block write.auto.block _ c.in-Err.ensures in
    pair_refused out c.args.packing makes c.in_ok-at.was write.new.block write.auto.block no c.after_wrong.ensures
