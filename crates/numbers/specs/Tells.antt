-- What a test tells.
use Rattle.std.specs.Prelude.{◌≡◌, Bool, true, false}

-- the truth value says whether it is so
pub record Tells (So : Type 0) (told : Bool) : Type 0 where
  pub if_true : told ≡ true → So
  pub if_false : told ≡ false → So → ⊥
