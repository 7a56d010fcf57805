-- Vectors and their prefixes: what begins with a prefix, and what stands before all that do.
use Prim.Native.Nat.{ℕ, suc, ◌<◌}
use native.Mathlib.Omega.{arith}
use native.Mathlib.Decide.{dec_lt}
use mathlib.Core.Path.{◌≡◌, refl, sym, ap, ap₂, subst, ◌∙◌}
use mathlib.Core.Logic.{◌⊎◌, inl, inr}
use mathlib.Core.List.{List, [], ◌∷◌, ◌++◌}
use lib.ListN.{length}
use Rattle.ac.specs.Rows.{◌≺◌, ◌≺◌.here, ◌≺◌.later, ◌≼◌, ◌≼◌.none, ◌≼◌.place}
use Rattle.equation.specs.Kept.{Upto, Upto.begins, Upto.here, Upto.later}

-- v begins with the prefix
pub record Begins (prefix v : List ℕ) : Type 0 where
  pub rest : List ℕ
  pub whole : v ≡ prefix ++ rest

begins_later : {n : ℕ} {p v : List ℕ} → Begins p v → Begins (n ∷ p) (n ∷ v)
begins_later {n} b = record { rest = b.rest; whole = ap {B = List ℕ} (λ w. n ∷ w) b.whole }

-- the two ways to stand up to a prefix
pub upto_cases : {p v : List ℕ} → Upto p v → (v ≺ p) ⊎ Begins p v
upto_cases (begins {v}) = inr (record { rest = v; whole = refl })
upto_cases (here h) = inl (here h)
upto_cases (later {n} {p} {v} u) = one_place (upto_cases u)
  where
    one_place : (v ≺ p) ⊎ Begins p v → ((n ∷ v) ≺ (n ∷ p)) ⊎ Begins (n ∷ p) (n ∷ v)
    one_place (inl before) = inl (later before)
    one_place (inr b) = inr (begins_later b)

-- what stands before all that begin with the prefix
pub before_upto : {p v : List ℕ} → v ≺ p → Upto p v
before_upto (here h) = here h
before_upto (later before) = later (before_upto before)

-- what stands before the vectors with a longer prefix
pub before_longer : {p v : List ℕ} (q : List ℕ) → v ≺ p → v ≺ (p ++ q)
before_longer q (here h) = here h
before_longer q (later before) = later (before_longer q before)

-- v begins with the prefix and a number below n
pub record Smaller (prefix : List ℕ) (n : ℕ) (v : List ℕ) : Type 0 where
  pub number : ℕ
  pub smaller : number < n
  pub rest : List ℕ
  pub whole : v ≡ prefix ++ number ∷ rest

some_place : {p v : List ℕ} → v ≺ p → 0 < length p
some_place (here h) = omega arith
some_place (later before) = omega arith

-- nothing stands before all vectors
pub nothing_before : {v : List ℕ} → v ≺ [] → ⊥
nothing_before before = omega (arith, some_place before)

before_number : {n : ℕ} {v : List ℕ} → v ≺ (n ∷ []) → Smaller [] n v
before_number (here {m} {n} {u} h) = record { number = m; smaller = h; rest = u; whole = refl }
before_number (later before) = absurd (nothing_before before)

-- before the prefix with a number: before the prefix, or with a smaller number
pub before_number_cases : (p : List ℕ) (n : ℕ) {v : List ℕ} → v ≺ (p ++ n ∷ []) → (v ≺ p) ⊎ Smaller p n v
before_number_cases [] n before = inr (before_number before)
before_number_cases (k ∷ p) n (here h) = inl (here h)
before_number_cases (k ∷ p) n (later {u = v} before) = one_place (before_number_cases p n before)
  where
    one_place : (v ≺ p) ⊎ Smaller p n v → ((k ∷ v) ≺ (k ∷ p)) ⊎ Smaller (k ∷ p) n (k ∷ v)
    one_place (inl earlier) = inl (later earlier)
    one_place (inr s) =
        inr (record {
          number = s.number;
          smaller = s.smaller;
          rest = s.rest;
          whole = ap {B = List ℕ} (λ w. k ∷ w) s.whole;
        })

-- up to the prefix with a number is before the prefix with the next number
pub upto_before_next : (p : List ℕ) (n : ℕ) {v : List ℕ} → Upto (p ++ n ∷ []) v → v ≺ (p ++ suc n ∷ [])
upto_before_next [] n (here {m} h) = here (let h' : m < suc n = omega arith in h')
upto_before_next [] n (later u) = here (let h : n < suc n = omega arith in h)
upto_before_next (k ∷ p) n (here h) = here h
upto_before_next (k ∷ p) n (later u) = later (upto_before_next p n u)

number_before_next : (n m : ℕ) (v : List ℕ) → m < suc n → Upto (n ∷ []) (m ∷ v)
number_before_next n m v small = by_order (dec_lt m n)
  where
    by_order : Dec (m < n) → Upto (n ∷ []) (m ∷ v)
    by_order (yes h) = here h
    by_order (no not) = subst (λ k. Upto (n ∷ []) (k ∷ v)) (let e : n ≡ m = omega arith in e) (later begins)

-- and the other way round
pub before_next_upto : (p : List ℕ) (n : ℕ) {v : List ℕ} → v ≺ (p ++ suc n ∷ []) → Upto (p ++ n ∷ []) v
before_next_upto [] n (here {m} {u = u} h) = number_before_next n m u h
before_next_upto [] n (later before) = absurd (nothing_before before)
before_next_upto (k ∷ p) n (here h) = here h
before_next_upto (k ∷ p) n (later before) = later (before_next_upto p n before)

-- a vector as long as the prefix that begins with it is the prefix
pub begins_whole : (p : List ℕ) {v : List ℕ} → length v ≡ length p → Begins p v → v ≡ p
begins_whole p {v} same b = b.whole
    ∙ none_left p b.rest (let e : length (p ++ b.rest) ≡ length p = sym (ap length b.whole) ∙ same in e)
  where
    none_left : (q s : List ℕ) → length (q ++ s) ≡ length q → q ++ s ≡ q
    none_left [] [] e = refl
    none_left [] (x ∷ s) e = absurd (omega arith)
    none_left (x ∷ q) s e = ap {B = List ℕ} (λ w. x ∷ w) (none_left q s (omega arith))

-- what is at or below a vector stands before it or is it
pub ≼_before : {u v : List ℕ} → u ≼ v → (u ≺ v) ⊎ (u ≡ v)
≼_before none = inr refl
≼_before (place {m} {n} {u} {v} h below) = by_order (dec_lt m n) (≼_before below)
  where
    by_order : Dec (m < n) → (u ≺ v) ⊎ (u ≡ v) → ((m ∷ u) ≺ (n ∷ v)) ⊎ ((m ∷ u) ≡ (n ∷ v))
    by_order (yes less) d = inl (here less)
    by_order (no not) (inl before) =
        inl (subst (λ k. (m ∷ u) ≺ (k ∷ v)) (let e : m ≡ n = omega arith in e) (later before))
    by_order (no not) (inr same) = inr (ap₂ {C = List ℕ} (λ k w. k ∷ w) (let e : m ≡ n = omega arith in e) same)

-- a vector stands up to itself
pub begins_upto : (p : List ℕ) → Upto p p
begins_upto [] = begins
begins_upto (n ∷ p) = later (begins_upto p)

-- up to a longer prefix is up to a shorter one
pub upto_shorter : (p q : List ℕ) {v : List ℕ} → Upto (p ++ q) v → Upto p v
upto_shorter [] q u = begins
upto_shorter (n ∷ p) q (here h) = here h
upto_shorter (n ∷ p) q (later u) = later (upto_shorter p q u)

-- with a smaller number after the prefix
pub smaller_before : (p : List ℕ) {m n : ℕ} (rest : List ℕ) → m < n → (p ++ m ∷ rest) ≺ (p ++ n ∷ [])
smaller_before [] rest h = here h
smaller_before (k ∷ p) rest h = later (smaller_before p rest h)
