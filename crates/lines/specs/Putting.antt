-- What it means to put a text of bounded length behind what a lent buffer is filled with.
use Rattle.std.specs.Prelude.{ℕ, List}
use Rattle.buffer.specs.Filled.{Puts, PutsAtMost}
use Rattle.buffer.specs.declared.filled.Filled.{Filled}

-- The text stands behind it now, and takes at most so many bytes.
pub record PutsWithin (most : ℕ) (before : Filled) (text : List ℕ) (after : Filled) : Type 0 where
  pub puts : Puts before text after
  pub at_most : PutsAtMost most before after
