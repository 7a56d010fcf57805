-- `pack::packing::pack_line` meets its contract: each answer has its own way. Assumes nothing.
use Rattle.std.proofs.Common.{ap, ◌∙◌, Ok}
use Rattle.pack.proofs.Answered.{long_goes, nothing_goes, wrong_goes, pair_goes}
use Rattle.pack.proofs.packing.pack_line.Goals as goal

pub returns-in_default : goal.returns-in_default
returns-in_default g c = long_goes c.requires.place c.in_default.ensures c.after_wrong.ensures

pub returns-in-Ok-None : goal.returns-in-Ok-None
returns-in-Ok-None g c =
    nothing_goes c.requires.place c.in-Some.ensures c.read_line.ensures
    (c.in-Ok-None.is ∙ ap Ok c.in-Ok-None.field-0-is) c.after_line.ensures

pub returns-in-Ok-Some : goal.returns-in-Ok-Some
returns-in-Ok-Some g c =
    pair_goes c.requires.place c.in-Some.ensures c.read_line.ensures
    (c.in-Ok-Some.is ∙ ap Ok c.in-Ok-Some.field-0-is) c.pack_pair.ensures

pub returns-in-Err : goal.returns-in-Err
returns-in-Err g c =
    wrong_goes c.requires.place c.in-Some.ensures c.read_line.ensures c.in-Err.is c.after_wrong-in-Err.ensures
