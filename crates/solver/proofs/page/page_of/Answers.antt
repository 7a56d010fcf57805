-- `solver::page::page_of` meets its contract: 16 first, then what is settled, then what is written and weighed.
use Rattle.std.proofs.lemmas.Result.{err_from_is_err_and}
use Rattle.numbers.proofs.Parts.{short_promised}
use Rattle.solver.proofs.Given.{page_made}
use Rattle.solver.proofs.Promise.{page_refused, page_promised}
use Rattle.solver.proofs.page.page_of.Goals as goal

pub returns-then-out-wanted : goal.returns-then-out-wanted
returns-then-out-wanted c = λ M L R of none.
    short_promised (page_made of.the_groups) (rw c.wanted_count-wanted.ensures at c.if-out-wanted.true)

pub returns-in_err-first : goal.returns-in_err-first
returns-in_err-first c = λ M L R of none.
    let refused = err_from_is_err_and c.from_residual.result c.from_residual.ensures.1 in
    rw (refused.1, refused.2)
    (page_refused of none (rw c.wanted_count-wanted.ensures at c.if-out-wanted.false)
    (c.in_err-first.ensures _ c.of-masks.ensures M L R of))

pub returns : goal.returns
returns c = λ M L R of none.
    let its = c.of-masks.ensures in
    page_promised of none (rw c.wanted_count-wanted.ensures at c.if-out-wanted.false) its
    (c.in_ok-first.ensures _ its M L R of)
    (rw c.wanted_count-wanted.ensures at (c.write_keys-keys.ensures _ its M L R of))
    c.weigh_up_to-weighed.ensures
