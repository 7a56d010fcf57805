-- Where each number of a list is given or not, the list has a first one that is, or none of it is given.
use Rattle.std.proofs.Common.{ℕ, refl, subst, ◌⊎◌, inl, inr, ⊎_elim, List, [], ◌∷◌}
use mathlib.Core.List.Memᴰ
use mathlib.Core.List.{Memᴰ}
use Rattle.numbers.specs.First.{First, NoneOf, here, later, end, also}

-- every number of a list is decided
pub data Decided (Given : ℕ → Type 0) : List ℕ → Type 0 where
  none : Decided Given []
  next : {n : ℕ} {ns : List ℕ} → Dec (Given n) → Decided Given ns → Decided Given (n ∷ ns)

-- the first number that is given, or that none is
pub data Settled (Given : ℕ → Type 0) (ns : List ℕ) : Type 0 where
  given : {n : ℕ} → First Given ns n → Settled Given ns
  none_given : NoneOf Given ns → Settled Given ns

pub settle : {Given : ℕ → Type 0} {ns : List ℕ} → Decided Given ns → Settled Given ns
settle none = none_given end
settle {Given} (next {n = n} {ns = ns} first rest) = go first (settle rest)
  where
    go : Dec (Given n) → Settled Given ns → Settled Given (n ∷ ns)
    go (yes g) others = given (here g)
    go (no skip) (given f) = given (later skip f)
    go (no skip) (none_given others) = none_given (also skip others)

-- the other way of saying the same
pub same_dec : {A B : Type 0} → (A → B) → (B → A) → Dec A → Dec B
same_dec to from (yes a) = yes (to a)
same_dec to from (no not_a) = no (λ b. not_a (from b))

-- what is not so
pub not_dec : {A : Type 0} → Dec A → Dec (A → ⊥)
not_dec (yes a) = no (λ not_a. not_a a)
not_dec (no not_a) = yes not_a

-- one of two, and both
pub either_dec : {A B : Type 0} → Dec A → Dec B → Dec (A ⊎ B)
either_dec (yes a) b = yes (inl a)
either_dec (no not_a) (yes b) = yes (inr b)
either_dec (no not_a) (no not_b) = no (⊎_elim not_a not_b)

pub both_dec : {A B : Type 0} → Dec A → Dec B → Dec (A × B)
both_dec (yes a) (yes b) = yes (a, b)
both_dec (yes a) (no not_b) = no (λ both. not_b both.1)
both_dec (no not_a) b = no (λ both. not_a both.0)

-- one of a list's members
pub record Some {A : Type 0} (P : A → Type 0) (xs : List A) : Type 0 where
  pub member : A
  pub on_list : Memᴰ member xs
  pub so : P member

pub some_dec : {A : Type 0} {P : A → Type 0} → ((a : A) → Dec (P a)) → (xs : List A) → Dec (Some P xs)
some_dec dec [] = no (λ s. Memᴰ.not-nil s.on_list)
some_dec {A} {P} dec (a ∷ xs) = go (dec a) (some_dec dec xs)
  where
    go : Dec (P a) → Dec (Some P xs) → Dec (Some P (a ∷ xs))
    go (yes p) rest = yes (record { member = a; on_list = Memᴰ.head refl; so = p })
    go (no not_p) (yes s) = yes (record { member = s.member; on_list = Memᴰ.tail s.on_list; so = s.so })
    go (no not_p) (no no_other) = no (λ s. by_place s s.on_list)
      where
        by_place : (s : Some P (a ∷ xs)) → Memᴰ s.member (a ∷ xs) → ⊥
        by_place s (Memᴰ.head e) = not_p (subst P e s.so)
        by_place s (Memᴰ.tail m) = no_other (record { member = s.member; on_list = m; so = s.so })
