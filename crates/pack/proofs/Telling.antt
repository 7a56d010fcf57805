-- Laws of what is told, put into a buffer.
use Rattle.std.proofs.Common.{ℕ, ◌≤◌, arith, List, length}
use Rattle.buffer.specs.Filled.{Puts, PutsAtMost}
use Rattle.buffer.specs.declared.filled.Filled.{Filled}
use Rattle.buffer.proofs.Puts.{put-length}

-- a text of at most so many bytes takes at most so many
pub puts_at_most : {before after : Filled} {text : List ℕ} {most : ℕ} → Puts before text after → length text ≤ most
    → PutsAtMost most before after
puts_at_most puts few =
    record { within = omega (arith, puts.put.place); long = put-length puts.put; same = puts.same }
