-- `pack::cut::Line::append` meets its contract: the bytes stand behind the line so far, or it is too long. Assumes
-- nothing.
use Rattle.std.proofs.Common.{refl, arith}
use Rattle.pack.proofs.Cutting.{holds_longer, holds_over, holds_more}
use Rattle.pack.proofs.cut.Line.append.Goals as goal

pub returns-in_default : goal.returns-in_default
returns-in_default c = λ line holds. holds_longer c.args.bytes.now c.in_default.is holds

pub returns-then-held-bytes : goal.returns-then-held-bytes
returns-then-held-bytes c =
    λ line holds. holds_over c.args.bytes.now c.in-Some.is refl c.if-held-bytes.true holds

pub returns : goal.returns
returns c =
    λ line holds. holds_more c.args.bytes.now c.in-Some.is refl c.put_bytes.ensures (omega arith) (omega arith) holds
