-- What is held of a line.
use Rattle.std.specs.Prelude.{◌≡◌, ℕ, ◌<◌, ◌≤◌, List, length, take, Some, None}
use Rattle.pack.specs.Cut.{most_bytes}
use Rattle.pack.specs.declared.cut.Line.{Line}

-- These are the bytes of a line so far: so many stand at the front of the buffer; or there are more than a line may
-- have.
pub data Holds (l : Line) : List ℕ → Type 0 where
  fits : {line : List ℕ} → l.held ≡ Some (length line) → length line ≤ most_bytes → take (length line) l.bytes ≡ line
      → Holds l line
  too_long : {line : List ℕ} → l.held ≡ None → most_bytes < length line → Holds l line
