-- Facts about lists: members and places, and lists one member at a time.
use mathlib.Core.Path.{◌≡◌, refl, sym, ap, ◌∙◌, fun_ext}
use mathlib.Core.Bool.{Bool, true, false}
use mathlib.Core.List.{List, [], ◌∷◌, ◌++◌, Memᴰ}
use Prim.Native.Nat.{ℕ, zero, suc, ◌+◌, ◌<◌}
use native.Mathlib.Nat.{zero-add}
use native.Mathlib.Numerals.{add-one}
use native.Mathlib.Omega.{arith}
use lib.ListN.{length, get_or, replicate, length-append}
use Rattle.ac.specs.Lists.{from, below, keep, filter}

-- a member stands at some place
pub member_at : {x : ℕ} {xs : List ℕ} → Memᴰ x xs → (i : ℕ) × (i < length xs) × (get_or xs i 0 ≡ x)
member_at (Memᴰ.head e) = (0, omega arith, sym e)
member_at (Memᴰ.tail m) = let t = member_at m in (suc t.0, omega arith, t.2)

-- a list of one value has it at each place, and past its end it is the default
pub get_or-replicate-same {ℓ} : {A : Type ℓ} (n i : ℕ) (a : A) → get_or (replicate n a) i a ≡ a
get_or-replicate-same zero i a = refl
get_or-replicate-same (suc n) zero a = refl
get_or-replicate-same (suc n) (suc i) a = get_or-replicate-same n i a

-- which members of a list joined from two pass
keep_append : (b : Bool) (x : ℕ) (xs ys : List ℕ) → keep b x xs ++ ys ≡ keep b x (xs ++ ys)
keep_append true x xs ys = refl
keep_append false x xs ys = refl

filter-append : (p : ℕ → Bool) (xs ys : List ℕ) → filter p (xs ++ ys) ≡ filter p xs ++ filter p ys
filter-append p [] ys = refl
filter-append p (x ∷ xs) ys = ap (λ (l : List ℕ). keep (p x) x l) (filter-append p xs ys)
    ∙ sym (keep_append (p x) x (filter p xs) (filter p ys))

-- the last of the numbers from a on
pub from_last : (a n : ℕ) → from a (suc n) ≡ from a n ++ (a + n) ∷ []
from_last a zero = ap (λ (m : ℕ). m ∷ []) (omega arith)
from_last a (suc n) =
    ap (λ (l : List ℕ). a ∷ l) (from_last (suc a) n ∙ ap (λ (m : ℕ). from (suc a) n ++ m ∷ []) (omega arith))

-- the members below one number more: those below it, and the number itself if it passes
pub filter-below : (p : ℕ → Bool) (n : ℕ) → filter p (below (n + 1)) ≡ filter p (below n) ++ keep (p n) n []
filter-below p n =
    ap (λ (m : ℕ). filter p (below m)) (add-one n) ∙
    ap (filter p) (from_last 0 n ∙ ap (λ (m : ℕ). below n ++ m ∷ []) (zero-add n)) ∙
    filter-append p (below n) (n ∷ [])

-- two tests that agree everywhere keep the same members
pub filter_same : (p q : ℕ → Bool) (xs : List ℕ) → ((x : ℕ) → p x ≡ q x) → filter p xs ≡ filter q xs
filter_same p q xs same = ap (λ f. filter f xs) (fun_ext same)

-- one member more
pub length_snoc : (xs : List ℕ) (x : ℕ) → length (xs ++ x ∷ []) ≡ length xs + 1
length_snoc xs x = length-append xs (x ∷ [])
