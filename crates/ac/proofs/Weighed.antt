-- Counting by place: what is weighed up to a key and then from it on adds up.
use Prim.Native.Nat.{ℕ, ◌+◌, ◌≤◌, ◌<◌}
use native.Mathlib.Omega.{arith}
use native.Mathlib.Decide.{dec_le}
use mathlib.Core.Path.{◌≡◌, refl, sym, ap, ap₂, ◌∙◌}
use mathlib.Core.Bool.{Bool, true, false, cond, ◌&&◌}
use mathlib.Core.List.{List, [], ◌∷◌, ◌++◌, Memᴰ}
use borrow.Author.Tests.{lt-ltb, le-ltb, le-leb, lt-leb}
use lib.Dec.{ltb, leb}
use lib.ListN.{length}
use Rattle.ac.specs.Lists.{keep, filter}
use Rattle.ac.specs.Keys.{Beginning, start, after, remaining}
use Rattle.ac.specs.Pages.{bound_of}
use Rattle.ac.specs.Weighed.{upto_last, weighed}

-- ---- how many members pass a test

length-keep : {A : Type 0} (b : Bool) (a : A) (rest : List A) → length (keep b a rest) ≡ cond b 1 0 + length rest
length-keep true a rest = omega arith
length-keep false a rest = omega arith

-- no more than there are
pub length-filter : {A : Type 0} (test : A → Bool) (xs : List A) → length (filter test xs) ≤ length xs
length-filter test [] = omega arith
length-filter test (x ∷ xs) = go (test x) (length-filter test xs)
  where
    go : (b : Bool) → length (filter test xs) ≤ length xs → length (keep b x (filter test xs)) ≤ length (x ∷ xs)
    go true rest = omega arith
    go false rest = omega arith

-- as many as pass two others, where each passes one of these or neither does
filter_adds : {A : Type 0} (whole one other : A → Bool) (xs : List A)
    → ((x : A) → cond (whole x) 1 0 ≡ cond (one x) 1 0 + cond (other x) 1 0)
    → length (filter whole xs) ≡ length (filter one xs) + length (filter other xs)
filter_adds whole one other [] each = omega arith
filter_adds whole one other (x ∷ xs) each =
    omega (
      arith,
      length-keep (whole x) x (filter whole xs),
      length-keep (one x) x (filter one xs),
      length-keep (other x) x (filter other xs),
      each x,
      filter_adds whole one other xs each,
    )

-- a test after a test is both at once
filter_both : {A : Type 0} (first second : A → Bool) (xs : List A)
    → filter second (filter first xs) ≡ filter (λ x. first x && second x) xs
filter_both first second [] = refl
filter_both first second (x ∷ xs) = go (first x) (filter_both first second xs)
  where
    go : (b : Bool) → filter second (filter first xs) ≡ filter (λ y. first y && second y) xs
        → filter second (keep b x (filter first xs)) ≡ keep (b && second x) x (filter (λ y. first y && second y) xs)
    go true rest = ap (keep (second x) x) rest
    go false rest = rest

-- ---- up to the last of some keys

-- the last of keys one after the other is the last of the later ones
upto_last_later : (before : List ℕ) (key : ℕ) (keys : List ℕ) (c : ℕ)
    → upto_last (before ++ key ∷ keys) c ≡ upto_last (key ∷ keys) c
upto_last_later [] key keys c = refl
upto_last_later (b ∷ []) key keys c = refl
upto_last_later (b ∷ b' ∷ before) key keys c = upto_last_later (b' ∷ before) key keys c

-- what is up to a number is up to the last of keys that are not below it
upto_last_above : {n c : ℕ} (key : ℕ) (keys : List ℕ) → ((k : ℕ) → Memᴰ k (key ∷ keys) → n ≤ k) → c ≤ n
    → upto_last (key ∷ keys) c ≡ true
upto_last_above {c = c} key [] above le = le-leb c key (omega (arith, above key (Memᴰ.head refl)))
upto_last_above key (other ∷ keys) above le = upto_last_above other keys (λ k m. above k (Memᴰ.tail m)) le

-- ---- what is weighed

-- after the beginning
abbrev comes_after : Beginning → ℕ → Bool
comes_after start c = true
comes_after (after k) c = ltb k c

-- as one test
weighed_test : (begin : Beginning) (written cs : List ℕ)
    → weighed begin written cs ≡ length (filter (λ c. comes_after begin c && upto_last written c) cs)
weighed_test start written cs = refl
weighed_test (after k) written cs = ap length (filter_both (ltb k) (upto_last written) cs)

-- no more than there are candidates
pub weighed_most : (begin : Beginning) (written cs : List ℕ) → weighed begin written cs ≤ length cs
weighed_most begin written cs =
    omega (
      arith,
      weighed_test begin written cs,
      length-filter (λ c. comes_after begin c && upto_last written c) cs,
    )

-- the keys before another do not count
pub weighed_later : (begin : Beginning) (before : List ℕ) (key : ℕ) (keys cs : List ℕ)
    → weighed begin (before ++ key ∷ keys) cs ≡ weighed begin (key ∷ keys) cs
weighed_later begin before key keys cs =
    ap (λ test. length (filter test (remaining begin cs))) (λ i c. upto_last_later before key keys c i)

-- nothing is weighed for no key
pub weighed_none : (begin : Beginning) (cs : List ℕ) → weighed begin [] cs ≡ 0
weighed_none begin cs = none (remaining begin cs)
  where
    none : (xs : List ℕ) → length (filter (upto_last []) xs) ≡ 0
    none [] = refl
    none (x ∷ xs) = none xs

-- nor up to a key that does not come after the beginning
pub weighed_nothing : {key last : ℕ} (cs : List ℕ) → last ≤ key → weighed (after key) (last ∷ []) cs ≡ 0
weighed_nothing {key} {last} cs le = weighed_test (after key) (last ∷ []) cs ∙ none cs
  where
    neither : (c : ℕ) → Dec (c ≤ key) → (ltb key c && leb c last) ≡ false
    neither c (yes before) = rw (le-ltb key c before)
    neither c (no beyond) =
        let above : key < c = omega arith in
        let past : last < c = omega arith in
        rw (lt-ltb key c above, lt-leb c last past)

    none : (xs : List ℕ) → length (filter (λ c. ltb key c && leb c last) xs) ≡ 0
    none [] = refl
    none (x ∷ xs) = ap (λ b. length (keep b x (filter (λ c. ltb key c && leb c last) xs))) (neither x (dec_le x key)) ∙ none xs

-- what lies above a key at or after the beginning comes after it
above_after : (begin : Beginning) {last c : ℕ} → bound_of begin ≤ last → last < c → comes_after begin c ≡ true
above_after start bound above = refl
above_after (after k) {c = c} bound above = lt-ltb k c (omega arith)

-- What is weighed up to a key, and then from it on, is weighed at once.
pub weighed_on : (begin : Beginning) (last : ℕ) (rest cs : List ℕ) → bound_of begin ≤ last
    → ((k : ℕ) → Memᴰ k rest → last ≤ k)
    → weighed begin (last ∷ rest) cs ≡ weighed begin (last ∷ []) cs + weighed (after last) rest cs
weighed_on begin last [] cs bound above = omega (arith, weighed_none (after last) cs)
weighed_on begin last (key ∷ rest) cs bound above =
    weighed_test begin (key ∷ rest) cs
    ∙ filter_adds (λ c. comes_after begin c && upto_last (key ∷ rest) c) (λ c. comes_after begin c && leb c last)
    (λ c. ltb last c && upto_last (key ∷ rest) c) cs (λ c. each c (dec_le c last))
    ∙ sym (ap₂ (λ (m n : ℕ). m + n) (weighed_test begin (last ∷ []) cs) (weighed_test (after last) (key ∷ rest) cs))
  where
    each : (c : ℕ) → Dec (c ≤ last)
        → cond (comes_after begin c && upto_last (key ∷ rest) c) 1 0
        ≡ cond (comes_after begin c && leb c last) 1 0 + cond (ltb last c && upto_last (key ∷ rest) c) 1 0
    each c (yes before) = rw (upto_last_above key rest above before, le-leb c last before, le-ltb last c before) (omega arith)
    each c (no beyond) =
        let above : last < c = omega arith in
        rw (above_after begin bound above, lt-leb c last above, lt-ltb last c above) (omega arith)
