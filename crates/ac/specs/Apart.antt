-- Two patterns have separate variables (document 02, R-1): what keeps those of the second apart from those of the
-- first.
use Rattle.std.specs.Prelude.{ℕ, ◌+◌, cond, ltb}

-- Each variable, 0 to 63, gets the number 32 higher; a constant stays.
abbrev pub renamed_apart : ℕ → ℕ
renamed_apart a = cond (ltb a 64) (a + 32) a
