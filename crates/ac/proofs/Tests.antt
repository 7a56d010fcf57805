-- Tests that compute, and what they show: every member of a list passes, two lists are equal.
use mathlib.Core.Path.{◌≡◌, refl, ap, ap₂, ◌∙◌}
use mathlib.Core.Bool.{Bool, true, false, ◌&&◌, and-eq-true_iff, false≢true}
use mathlib.Core.List.{List, [], ◌∷◌, Memᴰ}
use Rattle.ac.specs.Lists.{every}

-- both tests pass
pub both : (s t : Bool) → s && t ≡ true → (s ≡ true) × (t ≡ true)
both s t e = (and-eq-true_iff s t).0 e

-- where every member passes, each one does, and the other way round
pub every_member : {A : Type 0} (passes : A → Bool) {a : A} {xs : List A} → every passes xs ≡ true
    → Memᴰ a xs → passes a ≡ true
every_member {A = A} passes {a = a} {xs = []} e x5 = elim x5 [ ]
every_member passes {xs = x ∷ xs} e (Memᴰ.head q) = ap passes q ∙ (both (passes x) (every passes xs) e).0
every_member passes {xs = x ∷ xs} e (Memᴰ.tail m) =
    every_member passes (both (passes x) (every passes xs) e).1 m

-- where each member passes, every one does
pub member_every : {A : Type 0} (passes : A → Bool) (xs : List A)
    → ((a : A) → Memᴰ a xs → passes a ≡ true) → every passes xs ≡ true
member_every passes [] each = refl
member_every passes (a ∷ xs) each =
    (and-eq-true_iff (passes a) (every passes xs)).1
    (each a (Memᴰ.head refl), member_every passes xs (λ b m. each b (Memᴰ.tail m)))

-- a test of equality for members, and what it is for lists
abbrev pub Tests : {A : Type 0} → (A → A → Bool) → Type 0
Tests {A} same = (a b : A) → same a b ≡ true → a ≡ b

-- what it is for lists
abbrev pub equal_lists : {A : Type 0} → (A → A → Bool) → List A → List A → Bool
equal_lists same [] [] = true
equal_lists same [] (b ∷ ys) = false
equal_lists same (a ∷ xs) [] = false
equal_lists same (a ∷ xs) (b ∷ ys) = same a b && equal_lists same xs ys

-- lists that pass it are equal
pub lists_equal : {A : Type 0} {same : A → A → Bool} → Tests same → Tests (equal_lists same)
lists_equal tests [] [] e = refl
lists_equal tests [] (b ∷ ys) e = absurd (false≢true e)
lists_equal tests (a ∷ xs) [] e = absurd (false≢true e)
lists_equal {A} {same} tests (a ∷ xs) (b ∷ ys) e =
    let t = both (same a b) (equal_lists same xs ys) e in
    ap₂ {C = List A} (λ x l. x ∷ l) (tests a b t.0) (lists_equal tests xs ys t.1)
