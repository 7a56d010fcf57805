-- `lines::put_substitution_line` meets its contract: the substitution, and a line feed behind it. Assumes nothing.
use Rattle.std.proofs.Common.{arith, ◌∙◌}
use Rattle.buffer.proofs.Puts.{puts_then, put-length}
use Rattle.lines.proofs.put_substitution_line.Goals as goal

pub returns : goal.returns
returns c =
    let substitution = c.put_substitution.ensures in
    let feed = c.put.ensures in
    record {
      put = λ bs e. puts_then (substitution.put bs e) feed;
      at_most =
          record {
            within = omega (arith, substitution.at_most.within, feed.put.place);
            long = put-length feed.put ∙ substitution.at_most.long;
            same = feed.same ∙ substitution.at_most.same;
          };
    }
