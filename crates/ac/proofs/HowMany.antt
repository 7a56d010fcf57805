-- How many members of a list pass a test: of lists joined, mapped and made for each member, and of two tests together.
use Prim.Native.Nat.{ℕ, zero, suc, ◌+◌, ◌*◌, ◌≤◌}
use native.Mathlib.Omega.{arith}
use mathlib.Core.Path.{◌≡◌, refl, ap, ap₂, fun_ext, ◌∙◌}
use mathlib.Core.Bool.{Bool, true, false, not, cond, ◌&&◌}
use mathlib.Core.List.{List, [], ◌∷◌, ◌++◌, map}
use lib.ListN.{length, get_or}
use Rattle.ac.specs.Lists.{from, below, keep, filter, flat_map}
use Rattle.ac.specs.Counting.{how_many}

-- one member more
kept : {A : Type 0} (b : Bool) (a : A) (rest : List A) → length (keep b a rest) ≡ cond b 1 0 + length rest
kept true a rest = omega arith
kept false a rest = omega arith

at_most_one : (b : Bool) → cond b 1 0 ≤ 1
at_most_one true = omega arith
at_most_one false = omega arith

module _ {A : Type 0} where
  pub how_many_next : (test : A → Bool) (a : A) (rest : List A)
      → how_many test (a ∷ rest) ≡ cond (test a) 1 0 + how_many test rest
  how_many_next test a rest = kept (test a) a (filter test rest)

  -- tests that agree
  pub how_many_same : {test other : A → Bool} → ((a : A) → test a ≡ other a) → (xs : List A)
      → how_many test xs ≡ how_many other xs
  how_many_same same xs = ap (λ t. how_many t xs) (fun_ext same)

  -- no more pass than there are
  pub how_many_most : (test : A → Bool) (xs : List A) → how_many test xs ≤ length xs
  how_many_most test [] = omega arith
  how_many_most test (a ∷ rest) =
      omega (arith, how_many_next test a rest, at_most_one (test a), how_many_most test rest)

  -- all of them, and none
  pub how_many_all : (xs : List A) → how_many (λ a. true) xs ≡ length xs
  how_many_all [] = refl
  how_many_all (a ∷ rest) = ap suc (how_many_all rest)

  how_many_none : (xs : List A) → how_many (λ a. false) xs ≡ 0
  how_many_none [] = refl
  how_many_none (a ∷ rest) = how_many_none rest

  pub how_many_append : (test : A → Bool) (xs ys : List A) → how_many test (xs ++ ys) ≡ how_many test xs + how_many test ys
  how_many_append test [] ys = omega arith
  how_many_append test (a ∷ xs) ys =
      omega (arith, how_many_next test a (xs ++ ys), how_many_next test a xs, how_many_append test xs ys)

  -- those that pass a test pass another one too, or they do not
  pub how_many_split : (test other : A → Bool) (xs : List A)
      → how_many test xs ≡ how_many (λ a. test a && other a) xs + how_many (λ a. test a && not (other a)) xs
  how_many_split test other [] = omega arith
  how_many_split test other (a ∷ rest) =
      omega (
        arith,
        how_many_next test a rest,
        how_many_next (λ b. test b && other b) a rest,
        how_many_next (λ b. test b && not (other b)) a rest,
        by_tests (test a) (other a),
        how_many_split test other rest,
      )
    where
      by_tests : (s t : Bool) → cond s 1 0 ≡ cond (s && t) 1 0 + cond (s && not t) 1 0
      by_tests true true = omega arith
      by_tests true false = omega arith
      by_tests false t = omega arith

  -- a truth value that goes before a test
  pub how_many_if : (b : Bool) (test : A → Bool) (xs : List A)
      → how_many (λ a. b && test a) xs ≡ cond b (how_many test xs) 0
  how_many_if true test xs = refl
  how_many_if false test xs = how_many_none xs

module _ {A B : Type 0} where
  pub how_many_map : (test : B → Bool) (f : A → B) (xs : List A) → how_many test (map f xs) ≡ how_many (λ a. test (f a)) xs
  how_many_map test f [] = refl
  how_many_map test f (a ∷ rest) =
      omega (
        arith,
        how_many_next test (f a) (map f rest),
        how_many_next (λ x. test (f x)) a rest,
        how_many_map test f rest,
      )

  -- of the lists made for each member, where as many pass in each list as in any other, or none do
  pub how_many_flat_map : (test : B → Bool) (f : A → List B) (first : A → Bool) (each : ℕ)
      → ((a : A) → how_many test (f a) ≡ cond (first a) each 0)
      → (xs : List A) → how_many test (flat_map f xs) ≡ how_many first xs * each
  how_many_flat_map test f first each of_each [] = omega arith
  how_many_flat_map test f first each of_each (a ∷ rest) =
      how_many_append test (f a) (flat_map f rest)
      ∙ ap₂ (λ (m n : ℕ). m + n) (of_each a) (how_many_flat_map test f first each of_each rest)
      ∙ by_test (first a) (how_many_next first a rest)
    where
      by_test : (b : Bool) → how_many first (a ∷ rest) ≡ cond b 1 0 + how_many first rest
          → cond b each 0 + how_many first rest * each ≡ how_many first (a ∷ rest) * each
      by_test true e = omega (arith, ap (λ (n : ℕ). n * each) e)
      by_test false e = omega (arith, ap (λ (n : ℕ). n * each) e)

-- numbers by one more
pub how_many-further : (test : ℕ → Bool) (a n : ℕ)
    → how_many test (from (suc a) n) ≡ how_many (λ i. test (suc i)) (from a n)
how_many-further test a zero = refl
how_many-further test a (suc n) =
    omega (
      arith,
      how_many_next test (suc a) (from (suc (suc a)) n),
      how_many_next (λ i. test (suc i)) a (from (suc a) n),
      how_many-further test (suc a) n,
    )

-- members by their places
pub how_many_places : {A : Type 0} (test : A → Bool) (xs : List A) (d : A)
    → how_many (λ i. test (get_or xs i d)) (below (length xs)) ≡ how_many test xs
how_many_places test [] d = refl
how_many_places test (a ∷ rest) d =
    omega (
      arith,
      how_many_next (λ i. test (get_or (a ∷ rest) i d)) 0 (from 1 (length rest)),
      how_many_next test a rest,
      how_many-further (λ i. test (get_or (a ∷ rest) i d)) 0 (length rest),
      how_many_places test rest d,
    )

-- numbers two by two: the even ones and the odd ones
pub how_many_halves : (test : ℕ → Bool) (a n : ℕ)
    → how_many test (from (2 * a) (2 * n))
    ≡ how_many (λ i. test (2 * i)) (from a n) + how_many (λ i. test (1 + 2 * i)) (from a n)
how_many_halves test a zero = refl
how_many_halves test a (suc n) =
    ap (how_many test) two
    ∙ omega (
      arith,
      how_many_next test (2 * a) ((1 + 2 * a) ∷ from (2 * suc a) (2 * n)),
      how_many_next test (1 + 2 * a) (from (2 * suc a) (2 * n)),
      how_many_next (λ i. test (2 * i)) a (from (suc a) n),
      how_many_next (λ i. test (1 + 2 * i)) a (from (suc a) n),
      how_many_halves test (suc a) n,
    )
  where
    two : from (2 * a) (2 * suc n) ≡ (2 * a) ∷ (1 + 2 * a) ∷ from (2 * suc a) (2 * n)
    two =
        let more : 2 * suc n ≡ suc (suc (2 * n)) = omega arith in
        let one : suc (2 * a) ≡ 1 + 2 * a = omega arith in
        let both : suc (suc (2 * a)) ≡ 2 * suc a = omega arith in
        ap (from (2 * a)) more
        ∙ ap₂ {C = List ℕ} (λ m rest. (2 * a) ∷ m ∷ rest) one (ap (λ (m : ℕ). from m (2 * n)) both)
