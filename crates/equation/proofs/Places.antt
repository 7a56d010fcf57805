-- Where the walk stands, from one place to the next, and which numbers a place can have in a row.
use Prim.Native.Nat.{ℕ, zero, suc, ◌+◌, ◌*◌, ◌-◌, ◌≤◌, ◌<◌}
use native.Mathlib.Omega.{arith}
use native.Mathlib.Nat.{le_refl, mul-suc}
use native.Mathlib.Decide.{dec_lt}
use mathlib.Core.Path.{◌≡◌, refl, sym, ap, subst, ◌∙◌}
use mathlib.Core.Bool.{Bool, true, false, cond, ◌||◌, true≢false}
use mathlib.Core.List.{List, [], ◌∷◌, ◌++◌, append_assoc}
use lib.ListN.{length, length-append, get_or}
use lib.Seq.{get_or-append_seam}
use lib.Dec.{leb, ltb}
use borrow.Author.Tests.{le-ltb, ltb-false}
use Rattle.ac.specs.Lists.{sum}
use Rattle.ac.specs.Rows.{◌≼◌, ◌≼◌.place}
use Rattle.ac.specs.Equation.{Equation, Solves, Minimal, dot}
use Rattle.ac.specs.Budgets.{up_sum, down_sum}
use Rattle.ac.proofs.Vectors.{≼_refl}
use Rattle.equation.specs.declared.standing.Standing.{Standing}
use Rattle.equation.specs.Places.{Stands, budget_of, after_choice, Possible}

-- one place more in the prefix
one_place : (p : List ℕ) (n : ℕ) (rest : List ℕ) → (p ++ n ∷ []) ++ rest ≡ p ++ n ∷ rest
one_place p n rest = append_assoc p (n ∷ []) rest

or_false : (a b : Bool) → (a || b) ≡ false → (a ≡ false) × (b ≡ false)
or_false true b e = absurd (true≢false e)
or_false false b e = (refl, e)

false_or : {a b : Bool} → a ≡ false → b ≡ false → (a || b) ≡ false
false_or {a} {b} e f = ap (λ x. x || b) e ∙ f

-- a sum of two parts within a budget, of which the one part has its own place in it
spent_own : (b : Bool) (n s : ℕ) {most : ℕ} → cond b 1 0 * n + s ≤ most → s ≤ cond b (most - n) most
spent_own true n s h = omega arith
spent_own false n s h = omega arith

spent_other : (b : Bool) (n s : ℕ) {most : ℕ} → cond b 0 1 * n + s ≤ most → s ≤ cond b most (most - n)
spent_other true n s h = omega arith
spent_other false n s h = omega arith

within_own : (b : Bool) (n s t : ℕ) {up down : ℕ} → cond b 1 0 * n + s ≤ up → cond b 0 1 * n + t ≤ down
    → n ≤ cond b up down
within_own true n s t h h' = omega arith
within_own false n s t h h' = omega arith

module _ {E : Equation} {p left right : List ℕ} {l r : ℕ} {at : Standing}
    (s : Stands E p (l ∷ left) (r ∷ right) at) where
  -- in a row, the next number is within the place's budget
  number_within : (n : ℕ) (rest : List ℕ) → Minimal E (p ++ n ∷ rest) → n ≤ budget_of at l r
  number_within n rest minimal =
      within_own (leb r l) n (up_sum left right rest) (down_sum left right rest)
      (s.within_up (n ∷ rest) minimal) (s.within_down (n ∷ rest) minimal)

  module _ (n : ℕ) where
    not_zero : (rest : List ℕ) → ((at.counts || ltb 0 n) ≡ false → 0 < sum rest) → at.counts ≡ false
        → 0 < sum (n ∷ rest)
    not_zero rest positive unless = by_size (dec_lt 0 n)
      where
        by_size : Dec (0 < n) → 0 < sum (n ∷ rest)
        by_size (yes h) = omega arith
        by_size (no not) = omega (arith, positive (false_or unless (le-ltb 0 n (omega arith))))

    -- so the walk stands after one number more
    pub after_choice_lem : Stands E (p ++ n ∷ []) left right (after_choice at l r n)
    after_choice_lem =
        record {
          level = omega (arith, s.level);
          places = omega (arith, s.places, length-append p (n ∷ []));
          solves = λ rest long. (there rest long, back rest long);
          within_up = λ rest minimal. spent_own (leb r l) n (up_sum left right rest)
              (s.within_up (n ∷ rest) (subst (Minimal E) (one_place p n rest) minimal));
          within_down = λ rest minimal. spent_other (leb r l) n (down_sum left right rest)
              (s.within_down (n ∷ rest) (subst (Minimal E) (one_place p n rest) minimal));
        }
      where
        there : (rest : List ℕ) → length rest ≡ length left → Solves E ((p ++ n ∷ []) ++ rest)
            → (dot left rest + (at.left + l * n) ≡ dot right rest + (at.right + r * n))
            × ((at.counts || ltb 0 n) ≡ false → 0 < sum rest)
        there rest long solves =
            let before = (s.solves (n ∷ rest) (omega arith)).0 (subst (Solves E) (one_place p n rest) solves) in
            let positive : (at.counts || ltb 0 n) ≡ false → 0 < sum rest =
            λ unless. let both = or_false at.counts (ltb 0 n) unless in omega
            (arith, before.1 both.0, ltb-false 0 n both.1) in
            (omega (arith, before.0), positive)

        back : (rest : List ℕ) → length rest ≡ length left
            → (dot left rest + (at.left + l * n) ≡ dot right rest + (at.right + r * n))
            × ((at.counts || ltb 0 n) ≡ false → 0 < sum rest)
            → Solves E ((p ++ n ∷ []) ++ rest)
        back rest long h =
            let equal : dot (l ∷ left) (n ∷ rest) + at.left ≡ dot (r ∷ right) (n ∷ rest) + at.right =
            omega (arith, h.0) in
            subst (Solves E) (sym (one_place p n rest))
            ((s.solves (n ∷ rest) (omega arith)).1 (equal, not_zero rest h.1))

-- in a row, the rest is as long as the coefficients that are left
pub rest_places : {E : Equation} {p left right : List ℕ} {at : Standing} → Stands E p left right at
    → (rest : List ℕ) → Minimal E (p ++ rest)
    → length rest ≡ length left
rest_places {p = p} s rest minimal = omega (arith, s.places, minimal.vector, length-append p rest)

-- Where the coefficients of a place are equal, one unit less solves too.

≼_after : (p : List ℕ) {u v : List ℕ} → u ≼ v → (p ++ u) ≼ (p ++ v)
≼_after [] below = below
≼_after (n ∷ p) below = place (le_refl n) (≼_after p below)

module _ {E : Equation} {p left right : List ℕ} {l r : ℕ} {at : Standing}
    (s : Stands E p (l ∷ left) (r ∷ right) at) (same : l ≡ r) (rest : List ℕ) where
  no_unit_more : (m : ℕ) → (at.counts ≡ false → 0 < m) → Minimal E (p ++ suc m ∷ rest) → ⊥
  no_unit_more m positive minimal =
      let long = rest_places s (suc m ∷ rest) minimal in
      let equal = ((s.solves (suc m ∷ rest) long).0 minimal.least.has).0 in
      let equal_less : dot (l ∷ left) (m ∷ rest) + at.left ≡ dot (r ∷ right) (m ∷ rest) + at.right =
      omega (arith, equal, ap (λ z. z * m) same, mul-suc l m, mul-suc r m) in
      let some_left : at.counts ≡ false → 0 < sum (m ∷ rest) = λ zero. omega (arith, positive zero) in
      let less = (s.solves (m ∷ rest) long).1 (equal_less, some_left) in
      let below = ≼_after p (place (let h : m ≤ suc m = omega arith in h) (≼_refl rest)) in
      omega (
        arith,
        ap (λ v. get_or v (length p) 0) (minimal.least.no_other (p ++ m ∷ rest) below less),
        get_or-append_seam p m rest 0,
        get_or-append_seam p (suc m) rest 0,
      )

  even_number : (b : Bool) → at.counts ≡ b → (n : ℕ) → Minimal E (p ++ n ∷ rest) → n ≤ cond b 0 1
  even_number true e zero minimal = omega arith
  even_number true e (suc m) minimal = absurd (no_unit_more m (λ f. absurd (true≢false (sym e ∙ f))) minimal)
  even_number false e zero minimal = omega arith
  even_number false e (suc zero) minimal = omega arith
  even_number false e (suc (suc m)) minimal = absurd (no_unit_more (suc m) (λ f. omega arith) minimal)

-- the numbers that a place has in rows are possible ones
pub possible : {E : Equation} {p left right : List ℕ} {l r : ℕ} {at : Standing} (last : Bool)
    → Stands E p (l ∷ left) (r ∷ right) at
    → (last ≡ true → length left ≡ 0) → (n : ℕ) (rest : List ℕ) → Minimal E (p ++ n ∷ rest) → Possible at l r last n
possible {left = left} {right = right} {at = at} last s none n rest minimal =
    record {
      within = number_within s n rest minimal;
      equal = λ t. omega (
        arith,
        ((s.solves (n ∷ rest) (rest_places s (n ∷ rest) minimal)).0 minimal.least.has).0,
        dot_none left rest (none t),
        dot_none right rest (let e : length right ≡ 0 = omega (arith, s.level, none t) in e),
      );
      even = λ same. even_number s same rest at.counts refl n minimal;
    }
  where
    dot_none : (coefficients v : List ℕ) → length coefficients ≡ 0 → dot coefficients v ≡ 0
    dot_none [] v e = refl
    dot_none (c ∷ cs) v e = absurd (omega arith)
