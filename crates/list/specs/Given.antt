-- Numbers 13 to 15 of document 01's table: when each is given, of a list and where to begin on it, whatever
-- else is wrong.
use Rattle.std.specs.Prelude.{ℕ, ◌≡◌}
use mathlib.Core.List.{List, [], Memᴰ}
use Rattle.ac.specs.Keys.{Beginning, after, remaining}

-- A constructor for each row of the table that speaks of the list. The key is the one after which to begin.
pub data ListGiven (listed : List ℕ) (begin : Beginning) : ℕ → Type 0 where
  -- no selection is admissible
  none_admissible : listed ≡ [] → ListGiven listed begin 13
  -- the key isn't on the list
  not_listed : {key : ℕ} → begin ≡ after key → (Memᴰ key listed → ⊥) → ListGiven listed begin 14
  -- the key is the last on the list
  last_listed : {key : ℕ} → begin ≡ after key → Memᴰ key listed → remaining (after key) listed ≡ []
      → ListGiven listed begin 15
