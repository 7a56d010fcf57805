-- The input cut into lines.
use Rattle.std.specs.Prelude.{◌≡◌, ℕ, List, [], ◌∷◌, ◌++◌}
use Rattle.pattern.specs.Characters.{Each}

-- a line ends with a line feed
abbrev pub line_feed : ℕ
line_feed = 10

abbrev pub NoFeed : ℕ → Type 0
NoFeed b = b ≡ line_feed → ⊥

-- a line has at most so many bytes
abbrev pub most_bytes : ℕ
most_bytes = 4096

-- Bytes cut into lines: each ends with a line feed, and what comes behind the last one has not ended.
pub data Lines : List ℕ → List (List ℕ) → List ℕ → Type 0 where
  no_line : {bytes : List ℕ} → Each NoFeed bytes → Lines bytes [] bytes
  a_line : {line rest last : List ℕ} {lines : List (List ℕ)} → Each NoFeed line → Lines rest lines last
      → Lines (line ++ line_feed ∷ rest) (line ∷ lines) last
