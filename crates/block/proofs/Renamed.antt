-- What an atom of the right term becomes.
use Rattle.std.proofs.Common.{◌≡◌, ℕ, ◌+◌, ◌<◌, ◌≤◌, le-ltb, lt-ltb}
use Rattle.block.specs.Front.{on_the_right}

-- a variable gets the number 32 higher
pub variable_higher : {a : ℕ} → a < 64 → on_the_right a ≡ a + 32
variable_higher {a} h = rw (lt-ltb a 64 h)

-- and a constant stays
pub constant_stays : {a : ℕ} → 64 ≤ a → on_the_right a ≡ a
constant_stays {a} h = rw (le-ltb a 64 h)
