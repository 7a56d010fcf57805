-- `library::next_step` meets its contract: enough bytes wait, or what comes next depends on the input.
-- Assumes nothing.
use Rattle.std.proofs.Common.{arith, sym, subst, w32, SFits, to_z-of_z, rules}
use Rattle.library.specs.Reading.{Comes}
use Rattle.library.specs.declared.Next.TheVariants as next
use Rattle.library.proofs.next_step.Goals as goal

pub returns-then-reader-eq0 : goal.returns-then-reader-eq0
returns-then-reader-eq0 c = Comes.remains c.if-reader-eq0.true (grind arith)

pub returns-then-wanted-waiting : goal.returns-then-wanted-waiting
returns-then-wanted-waiting c =
    simp (c.hand_on.ensures.next_value, c.hand_on.ensures.reader_value) (Comes.a_block (grind arith) (grind arith))

pub returns-in-More : goal.returns-in-More
returns-in-More c = Comes.a_read (grind arith) c.in-More.is

pub returns-in-Failed : goal.returns-in-Failed
returns-in-Failed c =
    let r = c.args.reader in
    let error = c.in-Failed.error in
    let fits : SFits w32 error = search rules in
    subst (λ e. Comes r (next.Failed e) r) (sym (to_z-of_z fits)) (Comes.failed (grind arith) c.in-Failed.is)

pub returns-in-Ended : goal.returns-in-Ended
returns-in-Ended c = Comes.the_end c.if-waiting-eq0.true c.in-Ended.is

pub returns-in-Ended-2 : goal.returns-in-Ended-2
returns-in-Ended-2 c =
    simp (c.hand_on-in-Ended-2.ensures.next_value, c.hand_on-in-Ended-2.ensures.reader_value)
    (Comes.a_short_block (grind arith) (grind arith) (grind arith) c.in-Ended-2.is)
