-- Members of the lists that the definitions build, and lists in ascending order.
use Prim.Native.Nat.{ℕ, zero, suc, ◌<◌}
use native.Mathlib.Omega.{arith}
use mathlib.Core.Path.{◌≡◌, refl, sym, ap, ap₂, subst, ◌∙◌}
use mathlib.Core.Logic.{⊎_elim}
use mathlib.Core.Bool.{Bool, true}
use mathlib.Core.List.Memᴰ
use mathlib.Core.List.{List, [], ◌∷◌, ◌++◌, map, Memᴰ}
use mathlib.Core.List.{append_assoc}
use lib.ListN.{take}
use Rattle.ac.specs.Lists.{below, keep, filter, flat_map, Ascending, none, next}
use Rattle.ac.proofs.Places.{from_bounds, from_member}
use Rattle.ac.proofs.Order.{ascending_append}

-- the members of `below n` are below n
pub below_members : (n : ℕ) {i : ℕ} → Memᴰ i (below n) → i < n
below_members n {i} m = omega (arith, from_bounds 0 n i m)

-- and every number below n is one of them
pub members_below : {i n : ℕ} → i < n → Memᴰ i (below n)
members_below {i} {n} h = from_member 0 n i (omega arith) (omega arith)

module _ {ℓ κ} {A : Type ℓ} {B : Type κ} where
  -- a member of a mapped list is the image of a member
  pub map_members : (f : A → B) (xs : List A) {b : B} → Memᴰ b (map f xs)
      → (a : A) × Memᴰ a xs × (b ≡ f a)
  map_members f [] m = absurd (Memᴰ.not-nil m)
  map_members f (a ∷ xs) (Memᴰ.head e) = (a, Memᴰ.head refl, e)
  map_members f (a ∷ xs) (Memᴰ.tail m) = let t = map_members f xs m in (t.0, Memᴰ.tail t.1, t.2)

  -- and every image of a member is a member of it
  pub members_map : (f : A → B) {a : A} {xs : List A} → Memᴰ a xs → Memᴰ (f a) (map f xs)
  members_map f (Memᴰ.head e) = Memᴰ.head (ap f e)
  members_map f (Memᴰ.tail m) = Memᴰ.tail (members_map f m)

  -- a member of lists one after the other is a member of one of them
  pub flat_map_members : (f : A → List B) (xs : List A) {b : B} → Memᴰ b (flat_map f xs)
      → (a : A) × Memᴰ a xs × Memᴰ b (f a)
  flat_map_members f [] m = absurd (Memᴰ.not-nil m)
  flat_map_members f (a ∷ xs) m =
      ⊎_elim (λ here. (a, Memᴰ.head refl, here))
      (λ later. let t = flat_map_members f xs later in (t.0, Memᴰ.tail t.1, t.2))
      (Memᴰ.append_cases (f a) m)

  -- and a member of one of them is a member
  pub members_flat_map : (f : A → List B) {a : A} {xs : List A} {b : B} → Memᴰ a xs → Memᴰ b (f a)
      → Memᴰ b (flat_map f xs)
  members_flat_map f {b = b} (Memᴰ.head {xs = rest} e) m =
      Memᴰ.append_left (flat_map f rest) (subst (λ (c : A). Memᴰ b (f c)) e m)
  members_flat_map f (Memᴰ.tail {x = a} at) m = Memᴰ.append_right (f a) (members_flat_map f at m)

module _ {ℓ} {A : Type ℓ} (passes : A → Bool) where
  -- where every member passes, nothing is left out
  pub filter_all : (xs : List A) → ((a : A) → Memᴰ a xs → passes a ≡ true) → filter passes xs ≡ xs
  filter_all [] all = refl
  filter_all (a ∷ xs) all =
      ap₂ {C = List A} (λ p rest. keep p a rest) (all a (Memᴰ.head refl))
      (filter_all xs (λ b m. all b (Memᴰ.tail m)))

module _ {ℓ κ} {A : Type ℓ} {B : Type κ} where
  -- what is made of two lists one after the other, member by member or list by list
  pub map_append : (f : A → B) (xs ys : List A) → map f (xs ++ ys) ≡ map f xs ++ map f ys
  map_append f [] ys = refl
  map_append f (x ∷ xs) ys = ap (λ l. f x ∷ l) (map_append f xs ys)

  pub flat_map_append : (f : A → List B) (xs ys : List A) → flat_map f (xs ++ ys) ≡ flat_map f xs ++ flat_map f ys
  flat_map_append f [] ys = refl
  flat_map_append f (x ∷ xs) ys =
      ap (λ l. f x ++ l) (flat_map_append f xs ys) ∙ sym (append_assoc (f x) (flat_map f xs) (flat_map f ys))

-- a member stands somewhere in its list, with what is before and after it
pub member_splits {ℓ} : {A : Type ℓ} {a : A} {xs : List A} → Memᴰ a xs
    → (before : List A) × (after : List A) × (xs ≡ before ++ a ∷ after)
member_splits {A = A} (Memᴰ.head {x = b} {xs = rest} e) = ([], rest, ap {B = List A} (λ c. c ∷ rest) (sym e))
member_splits {A = A} (Memᴰ.tail {x = b} m) =
    let t = member_splits m in
    (b ∷ t.0, t.1, ap {B = List A} (λ l. b ∷ l) t.2)

-- a member of a list's front is a member of the list
pub taken_member : {A : Type 0} {a : A} (n : ℕ) (xs : List A) → Memᴰ a (take n xs) → Memᴰ a xs
taken_member zero xs m = absurd (Memᴰ.not-nil m)
taken_member (suc n) [] m = absurd (Memᴰ.not-nil m)
taken_member (suc n) (x ∷ xs) (Memᴰ.head e) = Memᴰ.head e
taken_member (suc n) (x ∷ xs) (Memᴰ.tail m) = Memᴰ.tail (taken_member n xs m)

-- the front of an ascending list ascends
pub taken_ascending : {A : Type 0} {◌before◌ : A → A → Type 0} (n : ℕ) {xs : List A} → Ascending ◌before◌ xs
    → Ascending ◌before◌ (take n xs)
taken_ascending zero ascending = none
taken_ascending (suc n) none = none
taken_ascending (suc n) (next {rest = rest} first later) =
    next (λ b m. first b (taken_member n rest m)) (taken_ascending n later)

-- a list that ascends in one order ascends in any other that follows from it on the members
pub ascending_in : {A : Type 0} {◌before◌ ◌earlier◌ : A → A → Type 0} {xs : List A}
    → ((a b : A) → Memᴰ a xs → Memᴰ b xs → ◌before◌ a b → ◌earlier◌ a b) → Ascending ◌before◌ xs
    → Ascending ◌earlier◌ xs
ascending_in implies none = none
ascending_in implies (next {a = a} first later) =
    next (λ b m. implies a b (Memᴰ.head refl) (Memᴰ.tail m) (first b m))
    (ascending_in (λ b c m n. implies b c (Memᴰ.tail m) (Memᴰ.tail n)) later)

module _ {A B : Type 0} {◌before◌ : B → B → Type 0} where
  -- a mapped list ascends where the images do
  pub ascending_map : (f : A → B) {xs : List A} → Ascending (λ a b. ◌before◌ (f a) (f b)) xs
      → Ascending ◌before◌ (map f xs)
  ascending_map f none = none
  ascending_map f (next {a = a} {rest = rest} first later) =
      next (λ b m. let t = map_members f rest m in subst (λ (c : B). ◌before◌ (f a) c) (sym t.2)
      (first t.0 t.1)) (ascending_map f later)

  -- lists one after the other, each ascending and each before the next ones
  pub ascending_flat_map : (f : A → List B) {xs : List A} → ((a : A) → Memᴰ a xs → Ascending ◌before◌ (f a))
      → Ascending (λ a a'. (b b' : B) → Memᴰ b (f a) → Memᴰ b' (f a') → ◌before◌ b b') xs
      → Ascending ◌before◌ (flat_map f xs)
  ascending_flat_map f each none = none
  ascending_flat_map f each (next {a = a} {rest = rest} first later) =
      ascending_append (each a (Memᴰ.head refl)) (ascending_flat_map f (λ c m. each c (Memᴰ.tail m)) later)
      (λ b b' here there. let t = flat_map_members f rest there in first t.0 t.1 b b' here t.2)
