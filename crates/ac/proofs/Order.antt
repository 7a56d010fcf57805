-- Laws of ascending lists, and of the order on vectors by the first place that differs.
use Prim.Native.Nat.{ℕ}
use native.Mathlib.Omega.{arith}
use mathlib.Core.Path.{ap, ◌≡◌, refl, sym, ap₂, subst, ◌∙◌}
use mathlib.Core.Logic.{◌↔◌, ◌⊎◌, inl, inr}
use mathlib.Core.Bool.{Bool, true, false}
use mathlib.Core.List.Memᴰ
use mathlib.Core.List.{List, [], ◌∷◌, ◌++◌, Memᴰ}
use Rattle.ac.specs.Lists.{keep, filter, Ascending, Ascending.none, Ascending.next}
use Rattle.ac.specs.Rows.{Exactly, ◌≺◌, ◌≺◌.here, ◌≺◌.later}

-- no vector is before another and that one before it
not_before : {u v u' v' : List ℕ} → u ≡ u' → v ≡ v' → u ≺ v → v' ≺ u' → ⊥
not_before e f (here {m = m} {n = n} h) (here {m = n'} {n = m'} h') =
    let p : m ≡ m' = cc in
    let q : n ≡ n' = cc in
    omega arith
not_before e f (here {m = m} {n = n} h) (later {n = k} l) =
    let p : m ≡ k = cc in
    let q : n ≡ k = cc in
    omega arith
not_before e f (later {n = k} l) (here {m = n'} {n = m'} h) =
    let p : k ≡ m' = cc in
    let q : k ≡ n' = cc in
    omega arith
not_before e f (later {u = u} {v = v} l) (later {u = v'} {v = u'} l') =
    let p : u ≡ u' = cc in
    let q : v ≡ v' = cc in
    not_before p q l l'

pub ≺_asymmetric : {u v : List ℕ} → u ≺ v → v ≺ u → ⊥
≺_asymmetric u_v v_u = not_before refl refl u_v v_u

module _ {A : Type 0} {◌before◌ : A → A → Type 0} (asymmetric : (a b : A) → ◌before◌ a b → ◌before◌ b a → ⊥) where
  -- the first members of two ascending lists with the same members are equal
  first_same : {a b : A} {xs ys : List A} → ((c : A) → Memᴰ c xs → ◌before◌ a c)
      → ((c : A) → Memᴰ c ys → ◌before◌ b c)
      → Memᴰ a (b ∷ ys) → Memᴰ b (a ∷ xs) → a ≡ b
  first_same after_a after_b (Memᴰ.head e) member = e
  first_same after_a after_b (Memᴰ.tail m) (Memᴰ.head e) = sym e
  first_same {a} {b} after_a after_b (Memᴰ.tail m) (Memᴰ.tail m') =
      absurd (asymmetric a b (after_a b m') (after_b a m))

  -- a member of the one tail is a member of the other
  later_same : {a b c : A} {xs ys : List A} → a ≡ b → ((c : A) → Memᴰ c xs → ◌before◌ a c)
      → Memᴰ c xs → Memᴰ c (b ∷ ys) → Memᴰ c ys
  later_same {a} {b} {c} same after_a member (Memᴰ.head e) = absurd (asymmetric c c itself itself)
    where
      itself : ◌before◌ c c
      itself = subst (λ x. ◌before◌ x c) (same ∙ sym e) (after_a c member)
  later_same same after_a member (Memᴰ.tail m) = m

  -- Two strictly ascending lists with the same members are equal.
  pub ascending_unique : {xs ys : List A} → Ascending ◌before◌ xs → Ascending ◌before◌ ys
      → ((c : A) → Memᴰ c xs ↔ Memᴰ c ys) → xs ≡ ys
  ascending_unique none none same = refl
  ascending_unique none (next {a = b} after ys) same = absurd (Memᴰ.not-nil ((same b).1 (Memᴰ.head refl)))
  ascending_unique (next {a = a} after xs) none same = absurd (Memᴰ.not-nil ((same a).0 (Memᴰ.head refl)))
  ascending_unique (next {a = a} {rest = xs} after_a asc_a) (next {a = b} {rest = ys} after_b asc_b) same =
      ap₂ {C = List A} (λ x zs. x ∷ zs) first (ascending_unique asc_a asc_b rests)
    where
      first : a ≡ b
      first = first_same after_a after_b ((same a).0 (Memᴰ.head refl)) ((same b).1 (Memᴰ.head refl))

      rests : (c : A) → Memᴰ c xs ↔ Memᴰ c ys
      rests c = (
        λ m. later_same first after_a m ((same c).0 (Memᴰ.tail m)),
        λ m. later_same (sym first) after_b m ((same c).1 (Memᴰ.tail m)),
      )

-- The rows of a group are one list.
pub exactly_unique : {Row : List ℕ → Type 0} {rows rows' : List (List ℕ)} → Exactly Row rows
    → Exactly Row rows' → rows ≡ rows'
exactly_unique e e' =
    ascending_unique (λ u v. ≺_asymmetric) e.ascending e'.ascending
    (λ v. (λ m. e'.all v (e.only v m), λ m. e.all v (e'.only v m)))

-- Ascending lists put together.
module _ {A : Type 0} {◌before◌ : A → A → Type 0} where
  -- one member alone
  pub ascending_single : (a : A) → Ascending ◌before◌ (a ∷ [])
  ascending_single a = next (λ b m. absurd (Memᴰ.not-nil m)) none

  -- two lists, all of the one before all of the other
  pub ascending_append : {xs ys : List A} → Ascending ◌before◌ xs → Ascending ◌before◌ ys
      → ((a b : A) → Memᴰ a xs → Memᴰ b ys → ◌before◌ a b) → Ascending ◌before◌ (xs ++ ys)
  ascending_append none ascending_ys apart = ascending_ys
  ascending_append {ys = ys} (next {a = a} {rest = xs} others ascending) ascending_ys apart =
      next (λ b m. by_part b (Memᴰ.append_cases xs m))
      (ascending_append ascending ascending_ys (λ c d m m'. apart c d (Memᴰ.tail m) m'))
    where
      by_part : (b : A) → Memᴰ b xs ⊎ Memᴰ b ys → ◌before◌ a b
      by_part b (inl m) = others b m
      by_part b (inr m) = apart a b (Memᴰ.head refl) m

-- The members that pass a test, and their order.
module _ {A : Type 0} (test : A → Bool) where
  -- a member that is kept is a member and passes
  pub filter_member : (xs : List A) {a : A} → Memᴰ a (filter test xs) → Memᴰ a xs × (test a ≡ true)
  filter_member [] m = absurd (Memᴰ.not-nil m)
  filter_member (x ∷ xs) {a} m = by_test (test x) refl m (λ m'. filter_member xs m')
    where
      by_test : (b : Bool) → test x ≡ b → Memᴰ a (keep b x (filter test xs))
          → (Memᴰ a (filter test xs) → Memᴰ a xs × (test a ≡ true))
          → Memᴰ a (x ∷ xs) × (test a ≡ true)
      by_test true t (Memᴰ.head e) rest = (Memᴰ.head e, ap test e ∙ t)
      by_test true t (Memᴰ.tail m) rest = (Memᴰ.tail (rest m).0, (rest m).1)
      by_test false t m rest = (Memᴰ.tail (rest m).0, (rest m).1)

  keep_tail : (b : Bool) (x : A) {a : A} {xs : List A} → Memᴰ a xs → Memᴰ a (keep b x xs)
  keep_tail true x m = Memᴰ.tail m
  keep_tail false x m = m

  -- and a member that passes is kept
  pub member_filter : {a : A} {xs : List A} → Memᴰ a xs → test a ≡ true → Memᴰ a (filter test xs)
  member_filter {a = a} (Memᴰ.head {x = x} {xs = xs} e) t =
      subst (λ b. Memᴰ a (keep b x (filter test xs))) (sym (ap test (sym e) ∙ t)) (Memᴰ.head e)
  member_filter (Memᴰ.tail {x = x} m) t = keep_tail (test x) x (member_filter m t)

  -- in an ascending list those that pass ascend
  pub filter_ascending : {◌before◌ : A → A → Type 0} {xs : List A} → Ascending ◌before◌ xs
      → Ascending ◌before◌ (filter test xs)
  filter_ascending none = none
  filter_ascending {◌before◌} (next {a = x} {rest = xs} others ascending) =
      by_test (test x) (filter_ascending ascending)
    where
      by_test : (b : Bool) → Ascending ◌before◌ (filter test xs) → Ascending ◌before◌ (keep b x (filter test xs))
      by_test true kept_ones = next (λ a m. others a (filter_member xs m).0) kept_ones
      by_test false kept_ones = kept_ones
