-- `text::put_number` meets its contract: the digits that `io::decimal` finds are the decimal, at most 20 of
-- them. Assumes nothing.
use mathlib.Core.Path.{◌∙◌}
use Rattle.buffer.proofs.Puts.{puts_as}
use Rattle.text.proofs.Decimals.{digits_decimal}
use Rattle.text.proofs.put_number.Goals as goal

pub returns : goal.returns
returns c =
    let d = c.decimal-count in
    puts_as (d.ensures.digits ∙ digits_decimal d.result c.args.number d.ensures.len)
    c.put.ensures
