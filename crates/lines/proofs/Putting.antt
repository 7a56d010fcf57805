-- Laws of texts of bounded length, put one after the other.
use Rattle.std.proofs.Common.{ℕ, ◌+◌, ◌≤◌, arith, ◌≡◌, List, ◌++◌, length}
use Rattle.buffer.specs.Filled.{Puts}
use Rattle.buffer.specs.declared.filled.Filled.{Filled}
use Rattle.buffer.proofs.Puts.{puts_as, puts_then, put-length}
use Rattle.lines.specs.Putting.{PutsWithin}

-- a text of at most so many bytes takes at most so many
pub within_bound : {before after : Filled} {most : ℕ} {text : List ℕ} → Puts before text after → length text ≤ most
    → PutsWithin most before text after
within_bound puts few =
    record {
      puts = puts;
      at_most = record { within = omega (arith, puts.put.place); long = put-length puts.put; same = puts.same };
    }

-- the same text, said in another way
pub within_as : {before after : Filled} {most : ℕ} {text said : List ℕ} → text ≡ said → PutsWithin most before text after
    → PutsWithin most before said after
within_as e within = record { puts = puts_as e within.puts; at_most = within.at_most }

-- it takes at most more
pub within_more : {before after : Filled} {most more : ℕ} {text : List ℕ} → PutsWithin most before text after → most ≤ more
    → PutsWithin more before text after
within_more within few =
    let most = within.at_most in
    record {
      puts = within.puts;
      at_most = record { within = omega (arith, most.within); long = most.long; same = most.same };
    }

-- one text and then another take at most as many bytes as both
pub within_then : {before between after : Filled} {m n : ℕ} {s t : List ℕ} → PutsWithin m before s between
    → PutsWithin n between t after → PutsWithin (m + n) before (s ++ t) after
within_then first second =
    let puts = puts_then first.puts second.puts in
    record {
      puts = puts;
      at_most =
          record {
            within = omega (arith, first.at_most.within, second.at_most.within);
            long = put-length puts.put;
            same = puts.same;
          };
    }

-- a text and then a last one take at most as many bytes as are lent
pub within_end : {before between after : Filled} {m most : ℕ} {s t : List ℕ} → PutsWithin m before s between
    → Puts between t after → m + length t ≤ most → PutsWithin most before (s ++ t) after
within_end {t = t} first last few = within_more (within_then first (within_bound {most = length t} last (omega arith))) few
