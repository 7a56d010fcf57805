-- Different numbers below a bound are at most as many as the bound.
use Prim.Native.Nat.{ℕ, zero, suc, ◌≤◌, ◌<◌}
use native.Mathlib.Omega.{arith}
use native.Mathlib.Decide.{ℕ_discrete}
use mathlib.Core.Path.{◌≡◌, refl, sym}
use mathlib.Core.List.Memᴰ
use mathlib.Core.List.{List, [], ◌∷◌, Memᴰ}
use lib.ListN.{length}

-- no number stands twice in the list
pub data Distinct : List ℕ → Type 0 where
  none : Distinct []
  also : {x : ℕ} {xs : List ℕ} → (Memᴰ x xs → ⊥) → Distinct xs → Distinct (x ∷ xs)

-- the list without a number: at most one shorter, and the number is no member
record Without (b : ℕ) (xs : List ℕ) : Type 0 where
  rest : List ℕ
  shorter : length xs ≤ suc (length rest)
  distinct : Distinct rest
  members : (y : ℕ) → Memᴰ y rest → Memᴰ y xs
  gone : Memᴰ b rest → ⊥

without : (b : ℕ) {xs : List ℕ} → Distinct xs → Without b xs
without b none = record {
  rest = [];
  shorter = omega arith;
  distinct = none;
  members = λ y m. m;
  gone = λ m.
      Memᴰ.not-nil m;
}
without b (also {x = x} {xs = xs} new distinct) = by_head (ℕ_discrete x b) (without b distinct)
  where
    by_head : Dec (x ≡ b) → Without b xs → Without b (x ∷ xs)
    by_head (yes e) w =
        record {
          rest = xs;
          shorter = omega arith;
          distinct = distinct;
          members = λ y m. Memᴰ.tail m;
          gone = λ m. new (Memᴰ.cast e m);
        }
    by_head (no other) w =
        record {
          rest = x ∷ w.rest;
          shorter = omega (arith, w.shorter);
          distinct = also (λ m. new (w.members x m)) w.distinct;
          members = kept;
          gone = still_gone;
        }
      where
        kept : (y : ℕ) → Memᴰ y (x ∷ w.rest) → Memᴰ y (x ∷ xs)
        kept y (Memᴰ.head e) = Memᴰ.head e
        kept y (Memᴰ.tail m) = Memᴰ.tail (w.members y m)

        still_gone : Memᴰ b (x ∷ w.rest) → ⊥
        still_gone (Memᴰ.head e) = other (sym e)
        still_gone (Memᴰ.tail m) = w.gone m

-- By induction on the bound: without its largest number the list is at most one shorter.
pub pigeonhole : (bound : ℕ) {xs : List ℕ} → Distinct xs → ((x : ℕ) → Memᴰ x xs → x < bound)
    → length xs ≤ bound
pigeonhole zero none small = omega arith
pigeonhole zero (also {x = x} new distinct) small =
    absurd (let h : x < 0 = small x (Memᴰ.head refl) in omega arith)
pigeonhole (suc b) {xs} distinct small =
    let w : Without b xs = without b distinct in omega (arith, w.shorter, pigeonhole b w.distinct (smaller w))
  where
    smaller : (w : Without b xs) (x : ℕ) → Memᴰ x w.rest → x < b
    smaller w x m = by_value (ℕ_discrete x b)
      where
        by_value : Dec (x ≡ b) → x < b
        by_value (yes e) = absurd (w.gone (Memᴰ.cast (sym e) m))
        by_value (no other) = omega (arith, small x (w.members x m))
