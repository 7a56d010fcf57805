-- `pattern::word::scan` meets its contract: the bytes taken apart at the digits that stand at their front, the byte
-- behind them, and the digits behind that. Assumes nothing.
use Rattle.std.proofs.Common.{arith}
use Rattle.pattern.specs.Inner.{no_word}
use Rattle.pattern.proofs.Words.{digits_alone, all_digits, scanned_cut, scans_spelled}
use Rattle.pattern.proofs.word.scan.Goals as goal

pub returns-in_default : goal.returns-in_default
returns-in_default c =
    no_word (digits_alone (all_digits c.args.bytes.now c.count_digits.ensures.value
    (omega (arith, c.split_at.ensures.back_len))))

pub spell-requires-clause-each : goal.spell-requires-clause-each
spell-requires-clause-each c =
    let split = c.split_at.ensures in
    let known = scanned_cut c.args.bytes.now c.count_digits.ensures.value split.front split.back
    c.in-len1-up.len_at_least c.count_digits-2.ensures.value in
    (known.multiple_digits, known.no_digit, known.number_digits)

pub returns : goal.returns
returns c =
    let split = c.split_at.ensures in
    scans_spelled (scanned_cut c.args.bytes.now c.count_digits.ensures.value split.front split.back
    c.in-len1-up.len_at_least c.count_digits-2.ensures.value) c.spell.ensures
