-- The answer to a question's list of numbers, carried from one table to another and past numbers that are not
-- given.
use Rattle.std.proofs.Common.{ℕ, ◌≡◌, refl, subst, Bool, true, false, not, ◌&&◌, ◌↔◌, List, [], ◌∷◌, ◌++◌, eqb-true, eqb}
use mathlib.Core.List.Memᴰ
use mathlib.Core.List.{Memᴰ}
use borrow.Author.Tests.{eqb-false, not-true}
use Rattle.numbers.specs.First.{First, NoneOf, here, later, end, also}

-- where two truth values are true together, each is
pub and_true : (a b : Bool) → (a && b) ≡ true → (a ≡ true) × (b ≡ true)
and_true true b e = (refl, e)
and_true false b e = absurd (cc e)

-- a number is none of the list's, by a test that computes
abbrev pub elsewhere : ℕ → List ℕ → Bool
elsewhere n [] = true
elsewhere n (m ∷ ms) = not (eqb n m) && elsewhere n ms

-- so it is no member
pub not_elsewhere : {n : ℕ} (ms : List ℕ) → elsewhere n ms ≡ true → Memᴰ n ms → ⊥
not_elsewhere [] e mem = Memᴰ.not-nil mem
not_elsewhere {n} (m ∷ ms) e (Memᴰ.head same) =
    eqb-false n m (not-true (eqb n m) (and_true (not (eqb n m)) (elsewhere n ms) e).0) same
not_elsewhere {n} (m ∷ ms) e (Memᴰ.tail mem) =
    not_elsewhere ms (and_true (not (eqb n m)) (elsewhere n ms) e).1 mem

-- a number that is not elsewhere is a member
pub its_member : {n : ℕ} (ms : List ℕ) → elsewhere n ms ≡ false → Memᴰ n ms
its_member [] e = absurd (cc e)
its_member {n} (m ∷ ms) e = go (eqb n m) refl (its_member ms)
  where
    go : (b : Bool) → eqb n m ≡ b → (elsewhere n ms ≡ false → Memᴰ n ms) → Memᴰ n (m ∷ ms)
    go true same rest = Memᴰ.head (eqb-true n m same)
    go false other rest = Memᴰ.tail (rest (rw other at e))

-- a member of a list's front is one of the list
front_member : {n : ℕ} {ms : List ℕ} (ns : List ℕ) → Memᴰ n ms → Memᴰ n (ms ++ ns)
front_member ns (Memᴰ.head same) = Memᴰ.head same
front_member ns (Memᴰ.tail mem) = Memᴰ.tail (front_member ns mem)

pub within_front : {ms : List ℕ} (ns : List ℕ) (n : ℕ) → Memᴰ n ms → Memᴰ n (ms ++ ns)
within_front ns n mem = front_member ns mem

-- two lists share no number, by a test that computes
abbrev pub disjoint : List ℕ → List ℕ → Bool
disjoint [] ns = true
disjoint (m ∷ ms) ns = elsewhere m ns && disjoint ms ns

-- so no number is a member of both
pub not_both : (ms ns : List ℕ) → disjoint ms ns ≡ true → {n : ℕ} → Memᴰ n ms → Memᴰ n ns → ⊥
not_both [] ns e mem mem' = Memᴰ.not-nil mem
not_both (m ∷ ms) ns e {n} (Memᴰ.head same) mem' =
    not_elsewhere ns (and_true (elsewhere m ns) (disjoint ms ns) e).0 (subst (λ k. Memᴰ k ns) same mem')
not_both (m ∷ ms) ns e (Memᴰ.tail mem) mem' =
    not_both ms ns (and_true (elsewhere m ns) (disjoint ms ns) e).1 mem mem'

module _ {Given Other : ℕ → Type 0} where
  -- where two tables agree on a list's numbers, its first number is the same
  pub first_carried : {ns : List ℕ} {n : ℕ} → ((m : ℕ) → Memᴰ m ns → Given m ↔ Other m)
      → First Given ns n → First Other ns n
  first_carried agree (here given) = here ((agree _ (Memᴰ.head refl)).0 given)
  first_carried agree (later skip first) =
      later (λ given. skip ((agree _ (Memᴰ.head refl)).1 given))
      (first_carried (λ m mem. agree m (Memᴰ.tail mem)) first)

  -- and where none of them is given in the one, none is in the other
  pub none_carried : {ns : List ℕ} → ((m : ℕ) → Memᴰ m ns → Other m → Given m) → NoneOf Given ns
      → NoneOf Other ns
  none_carried back end = end
  none_carried back (also skip none) =
      also (λ given. skip (back _ (Memᴰ.head refl) given))
      (none_carried (λ m mem. back m (Memᴰ.tail mem)) none)

module _ {Given : ℕ → Type 0} where
  -- the first number of a list's end is the list's, where none before it is given
  pub first_after : {ms ns : List ℕ} {n : ℕ} → NoneOf Given ms → First Given ns n → First Given (ms ++ ns) n
  first_after end first = first
  first_after (also skip none) first = later skip (first_after none first)

  -- the first number of a list's front is the list's
  pub first_before : {ms : List ℕ} (ns : List ℕ) {n : ℕ} → First Given ms n → First Given (ms ++ ns) n
  first_before ns (here given) = here given
  first_before ns (later skip first) = later skip (first_before ns first)

  pub none_after : {ms ns : List ℕ} → NoneOf Given ms → NoneOf Given ns → NoneOf Given (ms ++ ns)
  none_after end none = none
  none_after (also skip others) none = also skip (none_after others none)

-- none of a list's front is given where none of the list is
pub none_front : {Given : ℕ → Type 0} (ms ns : List ℕ) → NoneOf Given (ms ++ ns) → NoneOf Given ms
none_front [] ns none = end
none_front (m ∷ ms) ns (also skip none) = also skip (none_front ms ns none)

-- the first number of a list is given; none of a list's members is, where none of the list is
pub first_given : {Given : ℕ → Type 0} {ns : List ℕ} {n : ℕ} → First Given ns n → Given n
first_given (here given) = given
first_given (later skip first) = first_given first

pub none_given : {Given : ℕ → Type 0} {ns : List ℕ} {n : ℕ} → NoneOf Given ns → Memᴰ n ns → Given n → ⊥
none_given {Given = Given} {n = n} end x5 given = elim x5 [ ]
none_given {Given} (also skip none) (Memᴰ.head e) given = skip (subst Given e given)
none_given (also skip none) (Memᴰ.tail mem) given = none_given none mem given

-- none of a list is given where no number at all is
pub none_of : {Given : ℕ → Type 0} → ((n : ℕ) → Given n → ⊥) → (ns : List ℕ) → NoneOf Given ns
none_of never [] = end
none_of never (n ∷ ns) = also (never n) (none_of never ns)

-- where the first number is none of a list's front, none of the front is given
pub first_past : {Given : ℕ → Type 0} (ms ns : List ℕ) {n : ℕ} → elsewhere n ms ≡ true
    → First Given (ms ++ ns) n → NoneOf Given ms
first_past [] ns e first = end
first_past (m ∷ ms) ns {n} e (here given) =
    absurd (eqb-false n n (not-true (eqb n n) (and_true (not (eqb n n)) (elsewhere n ms) e).0) refl)
first_past (m ∷ ms) ns {n} e (later skip first) =
    also skip (first_past ms ns (and_true (not (eqb n m)) (elsewhere n ms) e).1 first)

-- a number is the first of a list exactly where it is given and none before it is
pub first_exactly : {Given : ℕ → Type 0} (ms ns : List ℕ) {n : ℕ} → elsewhere n ms ≡ true
    → First Given (ms ++ n ∷ ns) n ↔ (NoneOf Given ms × Given n)
first_exactly ms ns e =
    (λ first. (first_past ms _ e first, first_given first), λ both. first_after both.0 (here both.1))
