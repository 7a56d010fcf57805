-- `pattern::side::take_word` meets its contract: the word at the place is read, or it is told why there is none.
-- Assumes nothing.
use Rattle.std.proofs.Common.{arith}
use borrow.Author.Rules.{part_to_end}
use Rattle.std.proofs.lemmas.Result.{err_from_is_err_and}
use Rattle.pattern.specs.Inner.{is_wrong}
use Rattle.pattern.proofs.Reached.{when_word, word_within, word_too_many, word_goes, word_fault}
use Rattle.pattern.proofs.side.take_word.Goals as goal

pub returns-in_err-word : goal.returns-in_err-word
returns-in_err-word c =
    let r = c.requires in
    let p = err_from_is_err_and c.from_residual.result c.from_residual.ensures.1 in
    rw (p.1, p.2) (is_wrong (word_fault r.reached r.at_in_bounds r.ended_value.0 r.ended_value.1
    (rw part_to_end at c.scan.ensures) c.in_err-word.was))

pub returns-then-reading-word : goal.returns-then-reading-word
returns-then-reading-word c =
    let r = c.requires in
    let found = when_word (rw part_to_end at c.scan.ensures) c.in_ok-word.was in
    is_wrong (word_too_many r.reached r.at_in_bounds found r.ended_value.0 c.if-reading-word.true)

pub overflow_add-result : goal.overflow_add-result
overflow_add-result c =
    let r = c.requires in
    let found = when_word (rw part_to_end at c.scan.ensures) c.in_ok-word.was in
    omega (arith, word_within r.reached r.at_in_bounds found r.ended_value.0, c.well_formed)

pub returns : goal.returns
returns c =
    let r = c.requires in
    let found = when_word (rw part_to_end at c.scan.ensures) c.in_ok-word.was in
    word_goes r.reached r.at_in_bounds found r.ended_value.0 c.put_repeated-count.ensures (omega arith)
