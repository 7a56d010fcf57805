-- Laws of decimals: what they say digit by digit, and that `io`'s digits are the decimal.
use Prim.Native.Nat.{ℕ, zero, suc, ◌+◌, ◌*◌, ◌/◌, ◌%◌, ◌^◌, ◌<◌, ◌≤◌, ◌-◌}
use native.Mathlib.Omega.{arith}
use native.Mathlib.Nat.{pow-suc}
use mathlib.Core.Path.{◌≡◌, refl, ap, ap₂, sym, ◌∙◌, subst}
use mathlib.Core.Bool.{Bool, true, false, cond}
use mathlib.Core.List.{List, [], ◌∷◌, ◌++◌}
use lib.ListN.{length, length-append}
use native.Mathlib.Decide.{dec_lt}
use borrow.Author.Tests.{lt-ltb, le-ltb}
use Rattle.io.specs.Digits.{last_digits, hex_digit_ascii, IsDigitCount}
use Rattle.text.specs.Decimal.{digit, digits_within, decimal}

-- a number below 10 is its digit, whatever the places
within_digit : (places n : ℕ) → n < 10 → digits_within (suc places) n ≡ digit n ∷ []
within_digit places n h =
    subst
    (λ (b : Bool). elim b as (λ _. List ℕ)
    [ true ↦ digit n ∷ [] | false ↦ digits_within places (n / 10) ++ (digit (n % 10) ∷ []) ] ≡ digit n ∷ [])
    (sym (lt-ltb n 10 h)) refl

-- any other number is the digits of its tenth with its last digit behind
within_more : (places n : ℕ) → 10 ≤ n
    → digits_within (suc places) n ≡ digits_within places (n / 10) ++ (digit (n % 10) ∷ [])
within_more places n h =
    subst
    (λ (b : Bool).
    elim b as (λ _. List ℕ) [ true ↦ digit n ∷ [] | false ↦ digits_within places (n / 10) ++ (digit (n % 10) ∷ []) ]
    ≡ digits_within places (n / 10) ++ (digit (n % 10) ∷ []))
    (sym (le-ltb n 10 h)) refl

-- `io`'s digit is ours
glyph_digit : (d : ℕ) → d < 10 → hex_digit_ascii d ≡ digit d
glyph_digit d h = ap (λ (b : Bool). cond b (48 + d) (87 + d)) (lt-ltb d 10 h)

-- as many digits as `io` finds are the digits within any places that hold them
digits_within_lem : (k places n : ℕ) → n < 10 ^ suc k → (0 < k → 10 ^ k ≤ n) → k ≤ places
    → last_digits 10 (suc k) n ≡ digits_within (suc places) n
digits_within_lem zero places n small large fit =
    let small' : n < 10 = small in
    let e : n % 10 ≡ n = omega arith in
    ap (λ (d : ℕ). d ∷ []) (ap hex_digit_ascii e ∙ glyph_digit n small') ∙ sym (within_digit places n small')
digits_within_lem (suc k) zero n small large fit = absurd (omega arith)
digits_within_lem (suc k) (suc places) n small large fit =
    let p : ℕ = 10 ^ suc k in
    let at_most : n < p * 10 = subst (λ (q : ℕ). n < q) (pow-suc 10 (suc k)) small in
    let at_least : p ≤ n = large (omega arith) in
    let step : p ≡ 10 ^ k * 10 = pow-suc 10 k in
    let pos : 0 < 10 ^ k = pow_above_zero k in
    let ten : 10 ≤ n = omega arith in
    let tenth_small : n / 10 < p = omega arith in
    let tenth_large : 10 ^ k ≤ n / 10 = omega arith in
    let last : n % 10 < 10 = omega arith in
    ap₂ {C = List ℕ} (λ a b. a ++ (b ∷ []))
    (digits_within_lem k places (n / 10) tenth_small (λ _. tenth_large) (omega arith)) (glyph_digit (n % 10) last)
    ∙ sym (within_more (suc places) n ten)
  where
    pow_above_zero : (j : ℕ) → 0 < 10 ^ j
    pow_above_zero zero = omega arith
    pow_above_zero (suc j) = let h : 0 < 10 ^ j = pow_above_zero j in omega (arith, pow-suc 10 j)

-- a number is below as many tens as it says
below_tens : (k : ℕ) → k < 10 ^ k
below_tens zero = omega arith
below_tens (suc k) = omega (arith, below_tens k, pow-suc 10 k)

-- a number below 10 is its digit
pub decimal_digit : (n : ℕ) → n < 10 → decimal n ≡ digit n ∷ []
unfolding decimal
decimal_digit n h = within_digit n n h

-- the fewest digits that hold a number, as the library spells them, are its decimal
pub digits_decimal : (k n : ℕ) → IsDigitCount 10 1 n k → last_digits 10 k n ≡ decimal n
unfolding decimal
digits_decimal zero n (some, small, large) = absurd (omega arith)
digits_decimal (suc k) n (some, small, large) = digits_within_lem k n n small large' fit
  where
    large' : 0 < k → 10 ^ k ≤ n
    large' h = subst (λ (j : ℕ). 10 ^ j ≤ n) (let e : suc k - 1 ≡ k = omega arith in e) (large (omega arith))

    fit : k ≤ n
    fit = go k large'
      where
        go : (j : ℕ) → (0 < j → 10 ^ j ≤ n) → j ≤ n
        go zero h = omega arith
        go (suc j) h = omega (arith, h (omega arith), below_tens (suc j))

-- the digits within any places that are enough are the same
within_enough : (p q n : ℕ) → n ≤ p → n ≤ q → digits_within (suc p) n ≡ digits_within (suc q) n
within_enough zero q n hp hq = within_digit zero n (omega arith) ∙ sym (within_digit q n (omega arith))
within_enough (suc p) zero n hp hq = within_digit (suc p) n (omega arith) ∙ sym (within_digit zero n (omega arith))
within_enough (suc p) (suc q) n hp hq = go (dec_lt n 10) (within_enough p q (n / 10) (omega arith) (omega arith))
  where
    go : Dec (n < 10) → digits_within (suc p) (n / 10) ≡ digits_within (suc q) (n / 10)
        → digits_within (suc (suc p)) n ≡ digits_within (suc (suc q)) n
    go (yes h) same = within_digit (suc p) n h ∙ sym (within_digit (suc q) n h)
    go (no h) same =
        let ten : 10 ≤ n = omega arith in
        within_more (suc p) n ten ∙ ap (λ (l : List ℕ). l ++ (digit (n % 10) ∷ [])) same
        ∙ sym (within_more (suc q) n ten)

-- any other is the decimal of its tenth with its last digit behind
pub decimal-more : (n : ℕ) → 10 ≤ n → decimal n ≡ decimal (n / 10) ++ (digit (n % 10) ∷ [])
unfolding decimal
decimal-more zero h = absurd (omega arith)
decimal-more (suc m) h =
    within_more (suc m) (suc m) h
    ∙ ap (λ (l : List ℕ). l ++ (digit (suc m % 10) ∷ []))
    (within_enough m (suc m / 10) (suc m / 10) (omega arith) (omega arith))

-- the decimal of a number with at least two digits is one longer than that of its tenth
decimal_longer : (n : ℕ) → 10 ≤ n → length (decimal n) ≡ suc (length (decimal (n / 10)))
decimal_longer n ten =
    omega (arith, ap length (decimal-more n ten), length-append (decimal (n / 10)) (digit (n % 10) ∷ []))

-- a number below 10 ^ k has at most k digits
pub decimal_short : (k n : ℕ) → n < 10 ^ suc k → length (decimal n) ≤ suc k
decimal_short zero n h = omega (arith, ap length (decimal_digit n h))
decimal_short (suc k) n h =
    let p : ℕ = 10 ^ suc k in
    let h' : n < p * 10 = subst (λ (q : ℕ). n < q) (pow-suc 10 (suc k)) h in
    go (dec_lt n 10) (decimal_short k (n / 10) (omega arith))
  where
    go : Dec (n < 10) → length (decimal (n / 10)) ≤ suc k → length (decimal n) ≤ suc (suc k)
    go (yes small) ih = omega (arith, ap length (decimal_digit n small))
    go (no large) ih = omega (arith, decimal_longer n (omega arith))

-- a 64-bit number has at most 20 digits
pub decimal_fits : (n : ℕ) → n < 2 ^ 64 → length (decimal n) ≤ 20
decimal_fits n h = decimal_short 19 n (omega arith)
