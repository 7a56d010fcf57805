-- The working form in ℕ is document 01's signed weight: a weight is 0, or minus a constant's net count,
-- exactly when two sums of naturals agree. So the rows of a pair are the minimal solutions of its equations.
use Prim.Native.Nat.{ℕ, zero, suc, ◌+◌, ◌*◌, ◌<◌}
use native.Mathlib.Omega.{arith}
use native.Mathlib.Nat.{mul-suc, mul-zero}
use mathlib.Core.Path.{◌≡◌, refl, sym, ap, ap₂, ◌∙◌}
use mathlib.Core.Logic.Iff
use mathlib.Core.Logic.{◌↔◌}
use mathlib.Core.Bool.{false≢true}
use mathlib.Core.List.{List, [], ◌∷◌, map}
use lib.ListN.{length, length-map}
use lib.IntN.{pos, neg_ℤ, ◌+ℤ◌, ◌-ℤ◌, ◌*ℤ◌, +ℤ_assoc, +ℤ_comm, +ℤ_idr, +ℤ_invr, neg_ℤ-+ℤ, neg_ℤ-neg_ℤ, -ℤ-+ℤ_cancel, *ℤ_comm, suc_ℤ-*ℤ, zero-*ℤ}
use Rattle.ac.specs.Lists.{sum}
use Rattle.ac.specs.Pair.{Mode, count, net, variables}
use Rattle.ac.specs.Rows.{IsVector, weigh, weight, BalancedRow, RowOf}
use Rattle.ac.proofs.Vectors.{least_same}
use Rattle.ac.specs.Equation.{dot, Solves, Minimal, on_left, on_right, balanced_equation, equation_of}

-- Differences of naturals in ℤ.

-- a sum of differences is the difference of the sums
difference_add : (a b c d : ℕ) → (pos a -ℤ pos b) +ℤ (pos c -ℤ pos d) ≡ pos (a + c) -ℤ pos (b + d)
difference_add a b c d =
    +ℤ_assoc (pos a) (neg_ℤ (pos b)) (pos c +ℤ neg_ℤ (pos d))
    ∙ ap (λ z. pos a +ℤ z) middle
    ∙ sym (+ℤ_assoc (pos a) (pos c) (neg_ℤ (pos b) +ℤ neg_ℤ (pos d)))
    ∙ ap (λ z. pos (a + c) +ℤ z) (sym (neg_ℤ-+ℤ (pos b) (pos d)))
  where
    middle : neg_ℤ (pos b) +ℤ (pos c +ℤ neg_ℤ (pos d)) ≡ pos c +ℤ (neg_ℤ (pos b) +ℤ neg_ℤ (pos d))
    middle =
        sym (+ℤ_assoc (neg_ℤ (pos b)) (pos c) (neg_ℤ (pos d)))
        ∙ ap (λ z. z +ℤ neg_ℤ (pos d)) (+ℤ_comm (neg_ℤ (pos b)) (pos c))
        ∙ +ℤ_assoc (pos c) (neg_ℤ (pos b)) (neg_ℤ (pos d))

-- a difference times a natural is the difference of the products
difference_times : (a b n : ℕ) → (pos a -ℤ pos b) *ℤ pos n ≡ pos (a * n) -ℤ pos (b * n)
difference_times a b n = *ℤ_comm (pos a -ℤ pos b) (pos n) ∙ times n
  where
    times : (n : ℕ) → pos n *ℤ (pos a -ℤ pos b) ≡ pos (a * n) -ℤ pos (b * n)
    times zero = zero-*ℤ (pos a -ℤ pos b) ∙ ap₂ (λ x y. pos x -ℤ pos y) (sym (mul-zero a)) (sym (mul-zero b))
    times (suc n) =
        suc_ℤ-*ℤ (pos n) (pos a -ℤ pos b)
        ∙ ap (λ z. z +ℤ (pos a -ℤ pos b)) (times n)
        ∙ difference_add (a * n) (b * n) a b
        ∙ ap₂ (λ x y. pos x -ℤ pos y) (sym (mul-suc a n)) (sym (mul-suc b n))

-- the negated difference is the difference the other way round
pub difference_negated : (a b : ℕ) → neg_ℤ (pos a -ℤ pos b) ≡ pos b -ℤ pos a
difference_negated a b = neg_ℤ-+ℤ (pos a) (neg_ℤ (pos b)) ∙ ap (λ z. neg_ℤ (pos a) +ℤ z) (neg_ℤ-neg_ℤ (pos b))
    ∙ +ℤ_comm (neg_ℤ (pos a)) (pos b)

-- a difference, with what was taken away put back
difference_restored : (a b d : ℕ) → (pos a -ℤ pos b) +ℤ pos (b + d) ≡ pos (a + d)
difference_restored a b d =
    sym (+ℤ_assoc (pos a -ℤ pos b) (pos b) (pos d)) ∙ ap (λ z. z +ℤ pos d) (-ℤ-+ℤ_cancel (pos a) (pos b))

pos_injective : {m n : ℕ} → pos m ≡ pos n → m ≡ n
pos_injective e = cc

-- two differences are equal exactly when the crosswise sums are
pub difference_equal : (a b c d : ℕ) → (pos a -ℤ pos b ≡ pos c -ℤ pos d) ↔ (a + d ≡ c + b)
difference_equal a b c d = (to, back)
  where
    to : pos a -ℤ pos b ≡ pos c -ℤ pos d → a + d ≡ c + b
    to e = pos_injective (sym (difference_restored a b d)
        ∙ ap₂ (λ x y. x +ℤ pos y) e (let h : b + d ≡ d + b = omega arith in h) ∙ difference_restored c d b)

    back : a + d ≡ c + b → pos a -ℤ pos b ≡ pos c -ℤ pos d
    back e =
        difference_shifted a b d ∙ ap₂ (λ x y. pos x -ℤ pos y) e (let h : b + d ≡ d + b = omega arith in h)
        ∙ sym (difference_shifted c d b)
      where
        difference_shifted : (a b d : ℕ) → pos a -ℤ pos b ≡ pos (a + d) -ℤ pos (b + d)
        difference_shifted a b d = sym (+ℤ_idr (pos a -ℤ pos b))
            ∙ ap (λ z. (pos a -ℤ pos b) +ℤ z) (sym (+ℤ_invr (pos d))) ∙ difference_add a b d d

-- The weight, over any list of atoms, is the difference of the two sums of products.
pub weigh_difference : (L R : List ℕ) (xs v : List ℕ)
    → weigh (net L R) xs v ≡ pos (dot (map (λ x. count x L) xs) v) -ℤ pos (dot (map (λ x. count x R) xs) v)
weigh_difference L R [] v = refl
weigh_difference L R (x ∷ xs) [] = refl
weigh_difference L R (x ∷ xs) (n ∷ v) =
    ap₂ (λ y z. y +ℤ z) (difference_times (count x L) (count x R) n) (weigh_difference L R xs v)
    ∙ difference_add (count x L * n) (count x R * n) (dot (map (λ x. count x L) xs) v)
    (dot (map (λ x. count x R) xs) v)

module _ (M : Mode) (L R : List ℕ) where
  -- a weight is a difference of two numbers exactly when the two sums of products agree with these added crosswise
  weight_difference : (v : List ℕ) (a b : ℕ)
      → (weight M L R v ≡ pos a -ℤ pos b) ↔ (dot (on_left M L R) v + b ≡ dot (on_right M L R) v + a)
  weight_difference v a b = (to, back)
    where
      left : ℕ
      left = dot (on_left M L R) v

      right : ℕ
      right = dot (on_right M L R) v

      to : weight M L R v ≡ pos a -ℤ pos b → left + b ≡ right + a
      to e = omega (arith, (difference_equal left right a b).0 (sym (weigh_difference L R (variables M L R) v) ∙ e))

      back : left + b ≡ right + a → weight M L R v ≡ pos a -ℤ pos b
      back e = weigh_difference L R (variables M L R) v
          ∙ (difference_equal left right a b).1 (let h : left + b ≡ a + right = omega arith in h)

  -- A weight is 0 exactly when the two sums of products agree.
  pub weight_zero : (v : List ℕ) → (weight M L R v ≡ pos 0) ↔ (dot (on_left M L R) v ≡ dot (on_right M L R) v)
  weight_zero v = (
    λ e. omega (arith, (weight_difference v 0 0).0 e),
    λ e. (weight_difference v 0 0).1 (let h : dot (on_left M L R) v + 0
        ≡ dot (on_right M L R) v + 0 = omega arith in h),
  )

  -- A weight is minus a constant's net count exactly when they agree with the constant's occurrences added.
  pub weight_of_constant : (c : ℕ) (v : List ℕ)
      → (weight M L R v ≡ neg_ℤ (net L R c)) ↔ (dot (on_left M L R) v + count c L ≡ dot (on_right M L R) v + count c R)
  weight_of_constant c v = (
    λ e. (weight_difference v (count c R) (count c L)).0 (e ∙ difference_negated (count c L) (count c R)),
    λ e. (weight_difference v (count c R) (count c L)).1 e ∙ sym (difference_negated (count c L) (count c R)),
  )

  -- a vector has a number for each variable exactly when it has one for each coefficient
  vector_length : (v : List ℕ) → IsVector (variables M L R) v ↔ (length v ≡ length (on_left M L R))
  vector_length v = (
    λ e. e ∙ sym (length-map (variables M L R) (λ x. count x L)),
    λ e. e ∙ length-map (variables M L R) (λ x. count x L),
  )

  -- what balanced rows are least for, and what the minimal solutions of their equation are
  balanced_solves : (u : List ℕ) → ((0 < sum u) × (weight M L R u ≡ pos 0)) ↔ Solves (balanced_equation M L R) u
  balanced_solves u = (
    λ h. record { equal = (weight_difference u 0 0).0 h.1; not_all_zero = λ t. h.0 },
    λ s. (s.not_all_zero refl, (weight_difference u 0 0).1 s.equal),
  )

  -- and the same for the rows of a constant
  constant_solves : (c : ℕ) (u : List ℕ) → (weight M L R u ≡ neg_ℤ (net L R c)) ↔ Solves (equation_of M L R c) u
  constant_solves c u = (
    λ h. record { equal = (weight_of_constant c u).0 h; not_all_zero = λ t. absurd (false≢true t) },
    λ s. (weight_of_constant c u).1 s.equal,
  )

  -- Balanced rows are the minimal solutions of the balanced equation.
  pub balanced_row_is_minimal : (v : List ℕ) → BalancedRow M L R v ↔ Minimal (balanced_equation M L R) v
  balanced_row_is_minimal v = (
    λ r. record {
      vector = (vector_length v).0 r.vector;
      least = least_same (λ u h. balanced_solves u) r.least;
    },
    λ m. record {
      vector = (vector_length v).1 m.vector;
      least = least_same (λ u h. Iff.symm (balanced_solves u)) m.least;
    },
  )

  -- Rows of a constant are the minimal solutions of its equation.
  pub row_of_constant_is_minimal : (c : ℕ) (v : List ℕ) → RowOf M L R c v ↔ Minimal (equation_of M L R c) v
  row_of_constant_is_minimal c v = (
    λ r. record {
      vector = (vector_length v).0 r.vector;
      least = least_same (λ u h. constant_solves c u) r.least;
    },
    λ m. record {
      vector = (vector_length v).1 m.vector;
      least = least_same (λ u h. Iff.symm (constant_solves c u)) m.least;
    },
  )
