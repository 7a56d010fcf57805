-- Opposite net counts: those of the two sides exchanged. A weight by opposite net counts is the opposite weight.
use Prim.Native.Nat.{ℕ, zero, suc, ◌*◌}
use mathlib.Core.Path.{◌≡◌, refl, sym, ap, ap₂, ◌∙◌}
use mathlib.Core.List.{List, [], ◌∷◌}
use lib.IntN.{ℤ, pos, negsuc, neg_ℤ, nat_abs, ◌+ℤ◌, ◌*ℤ◌, neg_ℤ-+ℤ, neg_ℤ-neg_ℤ, zero-*ℤ}
use Rattle.ac.specs.Pair.{count, net}
use Rattle.ac.specs.Rows.{weigh}
use Rattle.ac.proofs.Bridge.{difference_negated}

-- a number and its opposite are equally far from 0
pub nat_abs_negated : (k : ℤ) → nat_abs (neg_ℤ k) ≡ nat_abs k
nat_abs_negated (pos zero) = refl
nat_abs_negated (pos (suc n)) = refl
nat_abs_negated (negsuc n) = refl

-- the opposite of a number times a natural is the opposite of the product
negated_times : (k : ℤ) (n : ℕ) → neg_ℤ k *ℤ pos n ≡ neg_ℤ (k *ℤ pos n)
negated_times (pos zero) n = zero-*ℤ (pos n) ∙ ap neg_ℤ (sym (zero-*ℤ (pos n)))
negated_times (pos (suc m)) n = refl
negated_times (negsuc m) n = sym (neg_ℤ-neg_ℤ (pos (suc m * n)))

-- with the sides exchanged an atom has the opposite net count
pub net_exchanged : (L R : List ℕ) (a : ℕ) → net L R a ≡ neg_ℤ (net R L a)
net_exchanged L R a = sym (difference_negated (count a R) (count a L))

-- and a vector the opposite weight
pub weigh_negated : (net : ℕ → ℤ) (xs v : List ℕ) → weigh (λ x. neg_ℤ (net x)) xs v ≡ neg_ℤ (weigh net xs v)
weigh_negated net [] v = refl
weigh_negated net (x ∷ xs) [] = refl
weigh_negated net (x ∷ xs) (n ∷ v) =
    ap₂ (λ y z. y +ℤ z) (negated_times (net x) n) (weigh_negated net xs v)
    ∙ sym (neg_ℤ-+ℤ (net x *ℤ pos n) (weigh net xs v))
