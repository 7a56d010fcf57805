-- Counting occurrences: in joined and repeated lists, in ascending lists, and in a side after a replacement.
use Prim.Native.Nat.{ℕ, zero, suc, ◌+◌, ◌*◌, ◌<◌}
use mathlib.Core.Path.{◌≡◌, refl, sym, ap, ◌∙◌}
use mathlib.Core.Bool.{Bool, true, false, cond, true≢false}
use mathlib.Core.List.{List, [], ◌∷◌, ◌++◌, append_assoc, map, Memᴰ}
use native.Mathlib.Omega.{arith}
use native.Mathlib.Decide.{ℕ_discrete}
use lib.ListN.{replicate}
use borrow.Author.Tests.{eq-eqb, ne_eqb}
use Rattle.ac.specs.Lists.{Ascending, none, next}
use Rattle.ac.specs.Pair.{same, count}
use Rattle.ac.specs.Equation.{dot}
use Rattle.ac.specs.Replacement.{Replacement, put, occurrences}

-- an atom is the same as itself
pub same_self : (a b : ℕ) → a ≡ b → same a b ≡ 1
same_self a b e = rw (eq-eqb a b e)

-- two atoms that differ are not the same
pub same_other : (a b : ℕ) → (a ≡ b → ⊥) → same a b ≡ 0
same_other a b n = rw (ne_eqb a b n)

-- what is the same as an atom is that atom
pub same_positive : (a b : ℕ) → 0 < same a b → a ≡ b
same_positive a b h = decided (ℕ_discrete a b)
  where
    decided : Dec (a ≡ b) → a ≡ b
    decided (yes e) = e
    decided (no n) = absurd (let z : ⊥ = omega (arith, same_other a b n) in z)

-- how often b stands in a list joined from two
pub count-append : (b : ℕ) (s t : List ℕ) → count b (s ++ t) ≡ count b s + count b t
count-append b [] t = omega arith
count-append b (a ∷ s) t = omega (arith, count-append b s t)

-- and in one atom repeated
pub count-replicate : (b n a : ℕ) → count b (replicate n a) ≡ same b a * n
count-replicate b zero a = omega arith
count-replicate b (suc n) a = omega (arith, count-replicate b n a)

-- what a replacement makes of a joined list is joined
pub put-append : (moves : ℕ → Bool) (θ : Replacement) (s t : List ℕ)
    → put moves θ (s ++ t) ≡ put moves θ s ++ put moves θ t
put-append moves θ [] t = refl
put-append moves θ (a ∷ s) t =
    ap (λ (rest : List ℕ). cond (moves a) (θ a) (a ∷ []) ++ rest) (put-append moves θ s t)
    ∙ sym (append_assoc (cond (moves a) (θ a) (a ∷ [])) (put moves θ s) (put moves θ t))

-- an atom that is no member does not occur
pub count_none : (b : ℕ) (s : List ℕ) → (Memᴰ b s → ⊥) → count b s ≡ 0
count_none b [] n = refl
count_none b (a ∷ s) n =
    omega (
      arith,
      same_other b a (λ (e : b ≡ a). n (Memᴰ.head e)),
      count_none b s (λ (m : Memᴰ b s). n (Memᴰ.tail m)),
    )

-- a member occurs
pub count_some : (b : ℕ) (s : List ℕ) → Memᴰ b s → 0 < count b s
count_some b [] x' = elim x' [ ]
count_some b (a ∷ s) (Memᴰ.head e) = omega (arith, same_self b a e)
count_some b (a ∷ s) (Memᴰ.tail m) = omega (arith, count_some b s m)

-- what occurs is a member
pub count_member : (b : ℕ) (s : List ℕ) → 0 < count b s → Memᴰ b s
count_member b [] h = absurd (omega arith)
count_member b (a ∷ s) h = by_first (ℕ_discrete b a) (count_member b s)
  where
    by_first : Dec (b ≡ a) → (0 < count b s → Memᴰ b s) → Memᴰ b (a ∷ s)
    by_first (yes e) rest = Memᴰ.head e
    by_first (no n) rest = Memᴰ.tail (rest (omega (arith, same_other b a n)))

-- a member of an ascending list occurs once
pub count_once : (b : ℕ) {s : List ℕ} → Ascending ◌<◌ s → Memᴰ b s → count b s ≡ 1
count_once b none x3 = elim x3 [ ]
count_once b (next {a} {rest} before ascending) (Memᴰ.head e) =
    omega (arith, same_self b a e, count_none b rest (λ (m : Memᴰ b rest). omega (arith, before b m)))
count_once b (next {a} {rest} before ascending) (Memᴰ.tail m) =
    omega (arith, same_other b a (λ (e : b ≡ a). omega (arith, before b m)), count_once b ascending m)

-- the product with a sum of coefficients
dot-add : (f g : ℕ → ℕ) (xs v : List ℕ) → dot (map (λ x. f x + g x) xs) v ≡ dot (map f xs) v + dot (map g xs) v
dot-add f g [] v = omega arith
dot-add f g (x ∷ xs) [] = omega arith
dot-add f g (x ∷ xs) (n ∷ v) = omega (arith, dot-add f g xs v)

-- the product with coefficients that are all 0
zero_dot : (xs v : List ℕ) → dot (map (λ x. 0) xs) v ≡ 0
zero_dot [] v = refl
zero_dot (x ∷ xs) [] = refl
zero_dot (x ∷ xs) (n ∷ v) = omega (arith, zero_dot xs v)

-- the product with the coefficients that are 1 at a and 0 elsewhere, where a is nowhere
dot_none : (a : ℕ) (xs v : List ℕ) → (Memᴰ a xs → ⊥) → dot (map (λ x. same x a) xs) v ≡ 0
dot_none a [] v n = refl
dot_none a (x ∷ xs) [] n = refl
dot_none a (x ∷ xs) (m ∷ v) n =
    rw (same_other x a (λ (e : x ≡ a). n (Memᴰ.head (sym e))))
    (omega (arith, dot_none a xs v (λ (h : Memᴰ a xs). n (Memᴰ.tail h))))

-- and where a stands: the number at its place
dot_one : (a : ℕ) {xs : List ℕ} → Ascending ◌<◌ xs → (f : ℕ → ℕ) → Memᴰ a xs
    → dot (map (λ x. same x a) xs) (map f xs) ≡ f a
dot_one a none f x3 = elim x3 [ ]
dot_one a (next {a = x} {rest} before ascending) f (Memᴰ.head e) =
    rw (same_self x a (sym e))
    (omega (arith, ap f e, dot_none a rest (map f rest) (λ (m : Memᴰ a rest). omega (arith, before a m))))
dot_one a (next {a = x} {rest} before ascending) f (Memᴰ.tail m) =
    rw (same_other x a (λ (e : x ≡ a). omega (arith, before a m))) (omega (arith, dot_one a ascending f m))

-- how often b stands on a side as an atom that is not replaced
abbrev pub staying : (ℕ → Bool) → ℕ → List ℕ → ℕ
staying moves b side = cond (moves b) 0 (count b side)

cond-add : (t : Bool) (m n : ℕ) → cond t 0 (m + n) ≡ cond t 0 m + cond t 0 n
cond-add true m n = omega arith
cond-add false m n = refl

-- After a replacement b stands on a side as often as in the values of the variables that stand there, and
-- where it stays.
module _ (moves : ℕ → Bool) (θ : Replacement) (b : ℕ) {xs : List ℕ} (ascending : Ascending ◌<◌ xs)
    (all : (a : ℕ) → Memᴰ a xs → moves a ≡ true) where
  count_put_atom : (a : ℕ) → (moves a ≡ true → Memᴰ a xs)
      → count b (cond (moves a) (θ a) (a ∷ []))
      ≡ dot (map (λ x. same x a) xs) (occurrences θ xs b) + cond (moves b) 0 (same b a)
  count_put_atom a moving = by_kinds (moves a) refl (moves b) refl
    where
      other : moves a ≡ true → moves b ≡ false → same b a ≡ 0
      other e e' = same_other b a (λ (q : b ≡ a). true≢false (sym e ∙ ap moves (sym q) ∙ e'))

      absent : moves a ≡ false → Memᴰ a xs → ⊥
      absent e m = true≢false (sym (all a m) ∙ e)

      by_kinds : (t : Bool) → moves a ≡ t → (u : Bool) → moves b ≡ u
          → count b (cond t (θ a) (a ∷ []))
          ≡ dot (map (λ x. same x a) xs) (occurrences θ xs b) + cond u 0 (same b a)
      by_kinds true e true e' = omega (arith, dot_one a ascending (λ x. count b (θ x)) (moving e))
      by_kinds true e false e' = omega (arith, dot_one a ascending (λ x. count b (θ x)) (moving e), other e e')
      by_kinds false e true e' =
          omega (
            arith,
            dot_none a xs (occurrences θ xs b) (absent e),
            same_other b a (λ (q : b ≡ a). true≢false (sym e' ∙ ap moves q ∙ e)),
          )
      by_kinds false e false e' = omega (arith, dot_none a xs (occurrences θ xs b) (absent e))

  -- the same over a whole side, atom by atom
  pub count_put : (side : List ℕ) → ((a : ℕ) → Memᴰ a side → moves a ≡ true → Memᴰ a xs)
      → count b (put moves θ side) ≡ dot (map (λ x. count x side) xs) (occurrences θ xs b) + staying moves b side
  count_put [] moving = omega (arith, zero_dot xs (occurrences θ xs b), cond-add (moves b) 0 0)
  count_put (a ∷ side) moving =
      let here = count_put_atom a (moving a (Memᴰ.head refl)) in
      let rest = count_put side (λ c m. moving c (Memᴰ.tail m)) in
      count-append b (cond (moves a) (θ a) (a ∷ [])) (put moves θ side)
      ∙ omega (
        arith,
        dot-add (λ x. same x a) (λ x. count x side) xs (occurrences θ xs b),
        cond-add (moves b) (same b a) (count b side),
      )
