-- `library::took` meets its contract: each arm is a case of `Takes`. Assumes nothing.
use Rattle.std.proofs.Common.{subst, w32, SFits, to_z-of_z, rules}
use Rattle.library.specs.Reading.{Takes, Misses}
use Rattle.library.proofs.Taking.{takes_bytes}
use Rattle.library.proofs.took.Goals as goal

pub returns-in-Ok-eq0 : goal.returns-in-Ok-eq0
returns-in-Ok-eq0 c = Takes.the_end (cc (c.in-Ok-eq0.is, c.in-Ok-eq0.field-0-is))

pub returns-in-Ok : goal.returns-in-Ok
returns-in-Ok c =
    let some = rw c.in-Ok.is at c.in-Ok.count-test.1 in
    rw c.min.ensures (takes_bytes c.in-Ok.is some)

pub returns-in-Err : goal.returns-in-Err
returns-in-Err c =
    let error = c.in-Err.error in
    let fits : SFits w32 error = search rules in
    Takes.missed c.in-Err.is
    (subst (λ e. Misses c.args.reader e c.missed.result) (to_z-of_z fits) c.missed.ensures)
