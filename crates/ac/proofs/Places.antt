-- Places in lists: what stands where, and the place of a variable among the variables.
use Prim.Native.Nat.{ℕ, zero, suc, ◌+◌, ◌≤◌, ◌<◌}
use mathlib.Core.Path.{◌≡◌, refl, sym, ap, ◌∙◌}
use mathlib.Core.List.{List, [], ◌∷◌, map, Memᴰ}
use mathlib.Core.Logic.{⊎_elim}
use native.Mathlib.Nat.{eq-or-lt_of_le}
use native.Mathlib.Omega.{arith}
use lib.ListN.{length, get_or}
use native.Mathlib.Decide.{ℕ_discrete}
use borrow.Author.Tests.{eq-eqb, ne_eqb}
use Rattle.ac.specs.Lists.{from, Ascending, none, next}
use Rattle.ac.specs.Selection.{place_of}

-- what stands at a place of a list is a member of it
pub get_or_member {ℓ} : {A : Type ℓ} (xs : List A) (i : ℕ) (d : A) → i < length xs → Memᴰ (get_or xs i d) xs
get_or_member [] i d h = absurd (omega arith)
get_or_member (x ∷ xs) zero d h = Memᴰ.head refl
get_or_member (x ∷ xs) (suc i) d h = Memᴰ.tail (get_or_member xs i d (omega arith))

-- what stands at a place of a list that is made member by member
pub get_or-map {ℓ κ} : {A : Type ℓ} {B : Type κ} (f : A → B) (xs : List A) (i : ℕ) (d : A) (e : B)
    → i < length xs → get_or (map f xs) i e ≡ f (get_or xs i d)
get_or-map f [] i d e h = absurd (omega arith)
get_or-map f (x ∷ xs) zero d e h = refl
get_or-map f (x ∷ xs) (suc i) d e h = get_or-map f xs i d e (omega arith)

-- the numbers from k on are those from k up to, and not with, k + n
pub from_bounds : (k n : ℕ) (a : ℕ) → Memᴰ a (from k n) → (k ≤ a) × (a < k + n)
from_bounds k zero a x' = elim x' [ ]
from_bounds k (suc n) a (Memᴰ.head e) = omega arith
from_bounds k (suc n) a (Memᴰ.tail m) = omega (arith, from_bounds (suc k) n a m)

-- and every such number is one of them
pub from_member : (k n : ℕ) (a : ℕ) → k ≤ a → a < k + n → Memᴰ a (from k n)
from_member k zero a low high = absurd (omega arith)
from_member k (suc n) a low high =
    ⊎_elim (λ (e : k ≡ a). Memᴰ.head (sym e))
    (λ (l : k < a). Memᴰ.tail (from_member (suc k) n a l (omega arith))) (eq-or-lt_of_le low)

-- they stand in ascending order
pub from_ascending : (k n : ℕ) → Ascending ◌<◌ (from k n)
from_ascending k zero = none
from_ascending k (suc n) = next (λ a m. (from_bounds (suc k) n a m).0) (from_ascending (suc k) n)

-- where a variable stands first
place_of_here : (x y : ℕ) (ys : List ℕ) → x ≡ y → place_of x (y ∷ ys) ≡ 0
place_of_here x y ys e = rw (eq-eqb x y e, place_of)

-- where another stands in front
place_of_later : (x y : ℕ) (ys : List ℕ) → (x ≡ y → ⊥) → place_of x (y ∷ ys) ≡ suc (place_of x ys)
place_of_later x y ys n = rw (ne_eqb x y n, place_of)

-- the place of a member is one of the list's
pub place_of_lt : (xs : List ℕ) (x : ℕ) → Memᴰ x xs → place_of x xs < length xs
place_of_lt [] x x3 = elim x3 [ ]
place_of_lt (y ∷ ys) x (Memᴰ.head e) = rw (place_of_here x y ys e) (omega arith)
place_of_lt (y ∷ ys) x (Memᴰ.tail m) = by_first (ℕ_discrete x y) (place_of_lt ys x m)
  where
    by_first : Dec (x ≡ y) → place_of x ys < length ys → place_of x (y ∷ ys) < suc (length ys)
    by_first (yes e) h = rw (place_of_here x y ys e) (omega arith)
    by_first (no n) h = rw (place_of_later x y ys n) (omega arith)

-- what a list that is made member by member has at a member's place
pub get_or-place_of : (f : ℕ → ℕ) (xs : List ℕ) (x : ℕ) → Memᴰ x xs → get_or (map f xs) (place_of x xs) 0 ≡ f x
get_or-place_of f [] x x3 = elim x3 [ ]
get_or-place_of f (y ∷ ys) x (Memᴰ.head e) = rw (place_of_here x y ys e) (ap f (sym e))
get_or-place_of f (y ∷ ys) x (Memᴰ.tail m) = by_first (ℕ_discrete x y) (get_or-place_of f ys x m)
  where
    by_first : Dec (x ≡ y) → get_or (map f ys) (place_of x ys) 0 ≡ f x
        → get_or (map f (y ∷ ys)) (place_of x (y ∷ ys)) 0 ≡ f x
    by_first (yes e) h = rw (place_of_here x y ys e) (ap f (sym e))
    by_first (no n) h = rw (place_of_later x y ys n) h

-- in an ascending list each member stands at one place only
pub place_of-get_or : {xs : List ℕ} → Ascending ◌<◌ xs → (i : ℕ) → i < length xs → place_of (get_or xs i 0) xs ≡ i
place_of-get_or none i h = absurd (omega arith)
place_of-get_or (next {a} {rest} before ascending) zero h = place_of_here a a rest refl
place_of-get_or (next {a} {rest} before ascending) (suc i) h =
    let l : i < length rest = omega arith in
    let n : (get_or rest i 0 ≡ a → ⊥) = λ e. omega (arith, before (get_or rest i 0) (get_or_member rest i 0 l)) in
    place_of_later (get_or rest i 0) a rest n ∙ ap suc (place_of-get_or ascending i l)

-- so what stands at two places of it is the same only if the places are
pub one_place : {xs : List ℕ} → Ascending ◌<◌ xs → (i j : ℕ) → i < length xs → j < length xs
    → get_or xs i 0 ≡ get_or xs j 0 → i ≡ j
one_place {xs} ascending i j h h' same =
    sym (place_of-get_or ascending i h) ∙ ap (λ x. place_of x xs) same ∙ place_of-get_or ascending j h'
