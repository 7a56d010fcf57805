-- The largest byte from each place on, found from the last place to the first.
use Prim.Native.Nat.{ℕ, ◌≤◌}
use mathlib.Core.Path.{◌≡◌}
use mathlib.Core.List.{List}
use lib.ListN.{length, get_or}
use Rattle.equation.specs.Tops.{AtMost}

-- the places from one on have their numbers, the last of which is `most`
pub record ToppedFrom (bytes tops : List ℕ) (most place : ℕ) : Type 0 where
  pub tops_length : length tops ≡ 6
  pub within : place ≤ length bytes
  pub at_most : AtMost bytes place most
  pub topped : (i : ℕ) → place ≤ i → AtMost bytes i (get_or tops i 0)
