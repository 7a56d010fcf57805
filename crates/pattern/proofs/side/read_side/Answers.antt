-- `pattern::side::read_side` meets its contract. The loop's invariant: the atoms of what was read stand at the front
-- of the buffer. The measure is the bytes left. Assumes nothing.
use Rattle.std.proofs.Common.{◌≡◌, arith, rules, Ok}
use Rattle.std.proofs.lemmas.Result.{err_from_is_err_and}
use Rattle.pattern.proofs.Reached.{nothing_read, when_on, step_fails, read_to_end}
use Rattle.pattern.proofs.side.read_side.Goals as goal

pub loop-reading-init : goal.loop-reading-init
loop-reading-init c = nothing_read c.args.bytes.now c.requires.1

pub loop-reading-smaller : goal.loop-reading-smaller
loop-reading-smaller c =
    let was : c.take_token.result ≡ Ok c.in_ok-reading.reading = grind arith in
    let next = when_on c.take_token.ensures was in
    omega (arith, next.0, next.1.within)

pub loop-reading-preserved : goal.loop-reading-preserved
loop-reading-preserved c =
    let was : c.take_token.result ≡ Ok c.in_ok-reading.reading = grind arith in
    (when_on c.take_token.ensures was).1

pub returns-in_err-reading : goal.returns-in_err-reading
returns-in_err-reading c =
    let p = err_from_is_err_and c.from_residual.result c.from_residual.ensures.1 in
    rw (p.1, p.2)
    (step_fails c.take_token.result _ c.map_err.ensures.cases (λ why w given. search (rules, given))
    c.in_err-reading.was c.take_token.ensures)

pub returns : goal.returns
returns c =
    read_to_end c.finish.result _ c.map_err-2.ensures.cases (λ why w given. search (rules, given))
    (c.finish.ensures c.args.bytes.now c.loop-reading.atoms c.loop-reading.invariant c.loop-reading-test.false)
