-- What it means to put bytes into a lent buffer from a place on: "bytes after the written part stay unchanged"
-- (document 01, "The questions").
use Rattle.std.specs.Prelude.{ℕ, ◌+◌, ◌≡◌, List, length}
use Rattle.std.proofs.lemmas.List.Edits.{sets}

-- The bytes stand in the buffer from `at` on and `next` is the place after them; every other byte is as it was.
pub record Put (out : List ℕ) (at : ℕ) (bytes : List ℕ) (next : ℕ) (after : List ℕ) : Type 0 where
  pub place : next ≡ at + length bytes
  pub stored : after ≡ sets out at bytes
