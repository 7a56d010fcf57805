-- The working form in ℕ of the weights of document 01, "From sides to equations": a weight is 0, or minus a
-- constant's net count, exactly when two sums of naturals agree. `proofs/Bridge.antt` proves it.
use Rattle.std.specs.Prelude.{ℕ, suc, ◌+◌, ◌*◌, ◌-◌, ◌<◌, ◌≡◌, Bool, true, false, List, [], ◌∷◌, map, length, get_or}
use Rattle.ac.specs.Lists.{sum}
use Rattle.ac.specs.Pair.{Mode, count, variables}
use Rattle.ac.specs.Rows.{Least}

-- l · v: the sum of the products, place by place
abbrev pub dot : List ℕ → List ℕ → ℕ
dot [] v = 0
dot (c ∷ cs) [] = 0
dot (c ∷ cs) (n ∷ v) = c * n + dot cs v

-- the same with the coefficients as a function of the place: the sum of the entries, each times the
-- coefficient of its place
abbrev pub weighted : (ℕ → ℕ) → List ℕ → ℕ
weighted p [] = 0
weighted p (x ∷ v) = p 0 * x + weighted (λ i. p (suc i)) v

-- the coefficients that a list gives, 0 after its end
abbrev pub coefficient : List ℕ → ℕ → ℕ
coefficient l i = get_or l i 0

-- left · v + left-offset = right · v + right-offset; where `homogeneous`, of vectors that are not all zero
pub record Equation : Type 0 where
  pub left : List ℕ
  pub right : List ℕ
  pub left_offset : ℕ
  pub right_offset : ℕ
  pub homogeneous : Bool

-- the equation of these coefficients and offsets
abbrev pub equation : List ℕ → List ℕ → ℕ → ℕ → Bool → Equation
equation left right left_offset right_offset homogeneous =
    record {
      left = left;
      right = right;
      left_offset = left_offset;
      right_offset = right_offset;
      homogeneous =
          homogeneous;
    }

-- the vector solves the equation
pub record Solves (E : Equation) (v : List ℕ) : Type 0 where
  pub equal : dot E.left v + E.left_offset ≡ dot E.right v + E.right_offset
  pub not_all_zero : E.homogeneous ≡ true → 0 < sum v

-- a vector that solves the equation, where no other vector at or below it does
pub record Minimal (E : Equation) (v : List ℕ) : Type 0 where
  pub vector : length v ≡ length E.left
  pub least : Least (Solves E) v

-- what the first numbers are beyond the second, place by place
abbrev pub beyond : List ℕ → List ℕ → List ℕ
beyond [] ms = []
beyond (n ∷ ns) [] = n ∷ beyond ns []
beyond (n ∷ ns) (m ∷ ms) = (n - m) ∷ beyond ns ms

-- The equation of net parts: left is what left is beyond right, and right what right is beyond left.
abbrev pub netted : Equation → Equation
netted E =
    record {
      left = beyond E.left E.right;
      right = beyond E.right E.left;
      left_offset = E.left_offset - E.right_offset;
      right_offset = E.right_offset - E.left_offset;
      homogeneous = E.homogeneous;
    }

-- the equations whose minimal solutions are the rows of a pair
module _ (M : Mode) (L R : List ℕ) where
  -- the variables' occurrences on the left
  abbrev pub on_left : List ℕ
  on_left = map (λ x. count x L) (variables M L R)

  -- and on the right
  abbrev pub on_right : List ℕ
  on_right = map (λ x. count x R) (variables M L R)

  -- of the balanced rows: "not all zero, of weight 0"
  abbrev pub balanced_equation : Equation
  balanced_equation = equation on_left on_right 0 0 true

  -- of the rows of a constant: "whose weight is minus the constant's net count"
  abbrev pub equation_of : ℕ → Equation
  equation_of c = equation on_left on_right (count c L) (count c R) false

-- at place i, the sum over the rows of multiplicity times entry
abbrev pub combined : List ℕ → List (List ℕ) → ℕ → ℕ
combined [] rows i = 0
combined (m ∷ ms) [] i = 0
combined (m ∷ ms) (r ∷ rows) i = m * get_or r i 0 + combined ms rows i

-- v is a sum of the rows, each as often as its multiplicity says
pub record SumOf (rows : List (List ℕ)) (v : List ℕ) : Type 0 where
  pub times : List ℕ
  pub a_number_each : length times ≡ length rows
  pub adds_up : (i : ℕ) → get_or v i 0 ≡ combined times rows i

-- v is one of the first rows plus a sum of the second ones
pub record RowAndSum (rows balanced : List (List ℕ)) (v : List ℕ) : Type 0 where
  pub index : ℕ
  pub within : index < length rows
  pub times : List ℕ
  pub a_number_each : length times ≡ length balanced
  pub adds_up : (i : ℕ) → get_or v i 0 ≡ get_or (get_or rows index []) i 0 + combined times balanced i
