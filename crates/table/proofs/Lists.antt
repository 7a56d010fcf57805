-- Lists made of the numbers from one on, and lists for each member, one after the other.
use Prim.Native.Nat.{ℕ, zero, suc, ◌+◌, ◌≤◌, ◌<◌}
use native.Mathlib.Omega.{arith}
use mathlib.Core.Path.{◌≡◌, refl, ap, ap₂, ◌∙◌}
use mathlib.Core.List.{List, [], ◌∷◌, ◌++◌, map, append-nil}
use Rattle.ac.specs.Lists.{from, below, flat_map}
use Rattle.ac.proofs.Members.{map_append, flat_map_append}
use Rattle.pair.proofs.Lists.{from_last}

-- functions that agree on the numbers from a on, or below one, make the same of them
from-same {ℓ} : {A : Type ℓ} (f g : ℕ → A) (a n : ℕ) → ((i : ℕ) → a ≤ i → i < a + n → f i ≡ g i)
    → map f (from a n) ≡ map g (from a n)
from-same f g a zero same = refl
from-same f g a (suc n) same =
    ap₂ (λ x xs. x ∷ xs) (same a (omega arith) (omega arith))
    (from-same f g (suc a) n (λ i low high. same i (omega arith) (omega arith)))

pub below-same {ℓ} : {A : Type ℓ} (f g : ℕ → A) (n : ℕ) → ((i : ℕ) → i < n → f i ≡ g i)
    → map f (below n) ≡ map g (below n)
below-same f g n same = from-same f g 0 n (λ i low high. same i (omega arith))

-- what is made of the last of the numbers from a on stands last
pub map_from_last {ℓ} : {A : Type ℓ} (f : ℕ → A) (a n : ℕ)
    → map f (from a (suc n)) ≡ map f (from a n) ++ (f (a + n) ∷ [])
map_from_last f a n = ap (map f) (from_last a n) ∙ map_append f (from a n) ((a + n) ∷ [])

pub flat_map_from_last {ℓ} : {B : Type ℓ} (f : ℕ → List B) (a n : ℕ)
    → flat_map f (from a (suc n)) ≡ flat_map f (from a n) ++ f (a + n)
flat_map_from_last f a n =
    ap (flat_map f) (from_last a n)
    ∙ flat_map_append f (from a n) ((a + n) ∷ [])
    ∙ ap (λ l. flat_map f (from a n) ++ l) (append-nil (f (a + n)))
