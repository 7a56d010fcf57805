-- `pattern::read_line` meets its contract: the line is cut at its remark. Assumes nothing.
use Rattle.std.proofs.Common.{drop, take-append-drop}
use Rattle.pattern.proofs.Texts.{remark_cut}
use Rattle.pattern.proofs.read_line.Goals as goal

pub read_text-requires : goal.read_text-requires
read_text-requires c = (remark_cut c.find.ensures c.unwrap_or-end.ensures).plain

pub returns : goal.returns
returns c =
    let line = c.args.line.now in
    let end = c.unwrap_or-end.result in
    rw (take-append-drop end line)
    at (c.read_text.ensures (drop end line) (remark_cut c.find.ensures c.unwrap_or-end.ensures).rest)
