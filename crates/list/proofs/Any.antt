-- Laws of "some number below n passes" and "every number below n passes".
use Prim.Native.Nat.{ℕ, zero, suc, ◌+◌, ◌<◌, ◌≤◌}
use native.Mathlib.Omega.{arith}
use native.Mathlib.Decide.{dec_lt}
use mathlib.Core.Path.{◌≡◌, refl, sym, ◌∙◌, ap, ap₂, subst}
use mathlib.Core.Bool.{Bool, true, false, ◌||◌, ◌&&◌, false≢true, or-false, or_assoc}
use Rattle.table.proofs.Bits.{not_so}
use Rattle.list.specs.Reach.{any, all}

-- whatever stands before it, a truth makes the disjunction true
pub or_true : (b : Bool) → (b || true) ≡ true
or_true true = refl
or_true false = refl

-- a conjunction is false where one of the two is
pub and_left_false : {a : Bool} (b : Bool) → a ≡ false → (a && b) ≡ false
and_left_false b e = ap (λ a. a && b) e

pub and_right_false : (a : Bool) {b : Bool} → b ≡ false → (a && b) ≡ false
and_right_false true e = e
and_right_false false e = refl

-- one that passes is enough
pub any_found : (n i : ℕ) (test : ℕ → Bool) → i < n → test i ≡ true → any n test ≡ true
any_found zero i test h e = absurd (omega arith)
any_found (suc n) i test h e = go (dec_lt i n) (λ g. any_found n i test g e)
  where
    go : Dec (i < n) → (i < n → any n test ≡ true) → any (suc n) test ≡ true
    go (yes g) rec = ap (λ b. b || test n) (rec g)
    go (no g) rec =
        let same : i ≡ n = omega arith in
        ap (λ b. any n test || b) (subst (λ k. test k ≡ true) same e) ∙ or_true (any n test)

-- where one passes, there is one that does
pub any_some : (n : ℕ) (test : ℕ → Bool) → any n test ≡ true → (i : ℕ) × (i < n) × (test i ≡ true)
any_some zero test e = absurd (false≢true e)
any_some (suc n) test e = go (any n test) refl (test n) refl (any_some n test)
  where
    go : (a : Bool) → any n test ≡ a → (b : Bool) → test n ≡ b
        → (any n test ≡ true → (i : ℕ) × (i < n) × (test i ≡ true))
        → (i : ℕ) × (i < suc n) × (test i ≡ true)
    go true p b q rec = let r = rec p in (r.0, omega (arith, r.1), r.2)
    go false p true q rec = (n, omega arith, q)
    go false p false q rec = absurd (false≢true (sym (ap (λ a. a || test n) p ∙ q) ∙ e))

-- where none passes, each fails
pub any_none : {n i : ℕ} (test : ℕ → Bool) → any n test ≡ false → i < n → test i ≡ false
any_none {n} {i} test none h = not_so (test i) (λ e. false≢true (sym none ∙ any_found n i test h e))

pub any_fails : (n : ℕ) (test : ℕ → Bool) → ((i : ℕ) → i < n → test i ≡ false) → any n test ≡ false
any_fails zero test fail = refl
any_fails (suc n) test fail =
    ap₂ (λ a b. a || b) (any_fails n test (λ i h. fail i (omega arith))) (fail n (omega arith))

-- tests that agree below n
pub any_same : (n : ℕ) (t u : ℕ → Bool) → ((i : ℕ) → i < n → t i ≡ u i) → any n t ≡ any n u
any_same zero t u e = refl
any_same (suc n) t u e =
    ap₂ (λ a b. a || b) (any_same n t u (λ i h. e i (omega arith))) (e n (omega arith))

-- counted from the front
pub any-front : (n : ℕ) (test : ℕ → Bool) → any (suc n) test ≡ (test 0 || any n (λ i. test (suc i)))
any-front zero test = sym (or-false (test 0))
any-front (suc n) test =
    ap (λ b. b || test (suc n)) (any-front n test) ∙ or_assoc (test 0) (any n (λ i. test (suc i))) (test (suc n))

-- numbers that fail add nothing
pub any-further : (n m : ℕ) (test : ℕ → Bool) → ((i : ℕ) → n ≤ i → test i ≡ false)
    → any (n + m) test ≡ any n test
any-further n zero test fail = ap (λ (k : ℕ). any k test) (let e : n + 0 ≡ n = omega arith in e)
any-further n (suc m) test fail =
    ap (λ (k : ℕ). any k test) (let e : n + suc m ≡ suc (n + m) = omega arith in e)
    ∙ ap₂ (λ a b. a || b) (any-further n m test fail) (fail (n + m) (omega arith)) ∙ or-false (any n test)

-- one that does not pass is enough against all
pub all_missed : (n i : ℕ) (test : ℕ → Bool) → i < n → test i ≡ false → all n test ≡ false
all_missed zero i test h e = absurd (omega arith)
all_missed (suc n) i test h e = go (dec_lt i n) (λ g. all_missed n i test g e)
  where
    go : Dec (i < n) → (i < n → all n test ≡ false) → all (suc n) test ≡ false
    go (yes g) rec = and_left_false (test n) (rec g)
    go (no g) rec =
        let same : i ≡ n = omega arith in
        and_right_false (all n test) (subst (λ k. test k ≡ false) same e)

-- where all pass, each does
pub all_each : (n i : ℕ) (test : ℕ → Bool) → i < n → all n test ≡ true → test i ≡ true
all_each n i test h e = go (test i) refl
  where
    go : (b : Bool) → test i ≡ b → test i ≡ true
    go true passes = passes
    go false fails = absurd (false≢true (sym (all_missed n i test h fails) ∙ e))
