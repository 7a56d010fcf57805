-- What the walk through the vectors is given at a place, and what it gives: the rows of document 01, "From
-- sides to equations", that begin with the numbers before the place.
use Rattle.std.specs.Prelude.{ℕ, ◌*◌, ◌≤◌, ◌≡◌, not, List, [], length, take, drop, Option, IfSome}
use Rattle.ac.specs.Equation.{Equation}
use Rattle.ac.specs.Budgets.{Enough}
use Rattle.equation.specs.declared.searched.Searched.{Searched}
use Rattle.equation.specs.declared.standing.Standing.{Standing}
use Rattle.equation.specs.Kept.{Advances}
use Rattle.equation.specs.Places.{Stands, Room}

-- After the last place: where the walk stood at the end of a vector, the rows up to the vector are found.
pub record Settles (limit : ℕ) (v : List ℕ) (at : Standing) (bytes : List ℕ) (n : ℕ) (bytes' : List ℕ)
    (n' : Option ℕ) : Type 0 where
  pub counted : IfSome n' (λ m. m ≤ limit)
  pub found : (E : Equation) → Stands E v [] [] at → Advances E v limit bytes n bytes' n'

-- the walk begins with the offsets as sums, and with budgets that are enough
pub record Starts (E : Equation) (at : Standing) : Type 0 where
  pub left_sum : at.left ≡ E.left_offset
  pub right_sum : at.right ≡ E.right_offset
  pub counts : at.counts ≡ not E.homogeneous
  pub enough : Enough E at.up at.down
  pub room : Room at

-- a vector and bytes of the lengths that go with the equation, a place of the vector, and no more rows than the limit
pub record Ready (searched : Searched) (vector bytes : List ℕ) (place n : ℕ) (at : Standing) : Type 0 where
  pub vectors : length vector ≡ length searched.left.now
  pub bytes_room : searched.limit * length searched.left.now ≤ length bytes
  pub within : place ≤ length searched.left.now
  pub counted : n ≤ searched.limit
  pub room : Room at

-- the numbers before the place stay, and the rows that begin with them are found
pub record Walks (searched : Searched) (vector bytes : List ℕ) (place n : ℕ) (at : Standing)
    (vector' bytes' : List ℕ) (n' : Option ℕ) : Type 0 where
  pub counted : IfSome n' (λ m. m ≤ searched.limit)
  pub prefix : take place vector' ≡ take place vector
  pub found : (E : Equation)
      → Stands E (take place vector) (drop place searched.left.now) (drop place searched.right.now) at
      → Advances E (take place vector) searched.limit bytes n bytes' n'
