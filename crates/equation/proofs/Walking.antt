-- Where the walk ends before it goes through the numbers of a place.
use Prim.Native.Nat.{ℕ, ◌+◌, ◌≤◌, ◌<◌}
use native.Mathlib.Omega.{arith}
use mathlib.Core.Path.{refl}
use mathlib.Core.List.{List}
use lib.ListN.{length, get_or, take, drop, length-drop}
use lib.Seq.{get_or-drop}
use Rattle.std.specs.Prelude.{Some}
use Rattle.equation.specs.declared.searched.Searched.{Searched}
use Rattle.equation.specs.declared.standing.Standing.{Standing}
use Rattle.equation.specs.Places.{Apart}
use Rattle.equation.specs.Walk.{Ready, Walks}
use Rattle.equation.proofs.Held.{skip}
use Rattle.equation.proofs.Reach.{no_row_apart}

module _ {searched : Searched} {vector bytes : List ℕ} {place n : ℕ} {at : Standing}
    (ready : Ready searched vector bytes place n at) where
  -- no row begins with the prefix
  pub walks_apart : place < length searched.left.now
      → Apart at (get_or searched.lifts place 0) (get_or searched.drops place 0)
      → Walks searched vector bytes place n at vector bytes (Some n)
  walks_apart within apart =
      record {
        counted = ready.counted;
        prefix = refl;
        found = λ E s held. (ready.counted, skip (take place vector) (no_row_apart s lefts rights apart) held);
      }
    where
      lefts : (i : ℕ) → i < length (drop place searched.left.now)
          → get_or (drop place searched.left.now) i 0 ≤ get_or searched.lifts place 0
      lefts i h = rw get_or-drop (searched.left_tops place (place + i) (omega arith)
          (omega (arith, length-drop place searched.left.now)))

      rights : (i : ℕ) → i < length (drop place searched.right.now)
          → get_or (drop place searched.right.now) i 0 ≤ get_or searched.drops place 0
      rights i h = rw get_or-drop (searched.right_tops place (place + i) (omega arith)
          (omega (arith, length-drop place searched.right.now)))
