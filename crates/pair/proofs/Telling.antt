-- Truth values that say whether something is so.
use mathlib.Core.Path.{◌≡◌, refl}
use mathlib.Core.Bool.{Bool, true, false, ◌||◌}
use mathlib.Core.Logic.{◌⊎◌, inl, inr, ⊎_elim}
use Prim.Native.Nat.{ℕ, ◌<◌, ◌≤◌}
use native.Mathlib.Decide.{dec_le}
use native.Mathlib.Omega.{arith}
use lib.Dec.{ltb}
use borrow.Author.Tests.{ltb-true, ltb-false}
use mathlib.Core.List.Memᴰ
use mathlib.Core.List.{List, [], ◌∷◌, Memᴰ}
use Rattle.std.specs.List.{list_any}
use Rattle.ac.specs.Limits.{limits}
use Rattle.numbers.specs.Tells.{Tells}
use Rattle.pair.specs.Given.{WrongByte}

-- no truth value is both
pub true_not_false : {b : Bool} → b ≡ true → b ≡ false → ⊥
true_not_false yes' no' = let z : ◌≡◌ {A = ℕ} 0 1 = cc in omega arith

-- true tells of what is so, false of what is not
pub tells_true : {So : Type 0} → So → Tells So true
tells_true so = record { if_true = λ e. so; if_false = λ e. absurd (true_not_false refl e) }

pub tells_false : {So : Type 0} → (So → ⊥) → Tells So false
tells_false not_so = record { if_true = λ e. absurd (true_not_false e refl); if_false = λ e. not_so }

-- a comparison tells whether one number is below another
pub tells_less : (a b : ℕ) → Tells (a < b) (ltb a b)
tells_less a b = record { if_true = ltb-true a b; if_false = λ e less. omega (arith, ltb-false a b e) }

-- where the first is not so, the second tells of either
pub tells_second : {A B : Type 0} {told : Bool} → (A → ⊥) → Tells B told → Tells (A ⊎ B) told
tells_second not_first second =
    record { if_true = λ e. inr (second.if_true e); if_false = λ e. ⊎_elim not_first (second.if_false e) }

-- two tests tell of either
pub tells_either : {A B : Type 0} (first second : Bool) → Tells A first → Tells B second
    → Tells (A ⊎ B) (first || second)
tells_either true second a b = tells_true (inl (a.if_true refl))
tells_either false second a b = tells_second (a.if_false refl) b

-- a truth value tells of what is so exactly where something else is
pub tells_same : {A B : Type 0} {told : Bool} → (A → B) → (B → A) → Tells A told → Tells B told
tells_same to from tells =
    record { if_true = λ e. to (tells.if_true e); if_false = λ e b. tells.if_false e (from b) }

-- what is not above a limit is at most the limit
pub at_most : (m n : ℕ) → (n < m → ⊥) → m ≤ n
at_most m n not_above = go (dec_le m n)
  where
    go : Dec (m ≤ n) → m ≤ n
    go (yes fits) = fits
    go (no above) = absurd (not_above (omega arith))

-- whether some byte is above the highest atom
pub tells_wrong : (side : List ℕ) → Tells (WrongByte limits side) (list_any (λ byte. ltb 127 byte) side)
tells_wrong [] = tells_false (λ wrong. Memᴰ.not-nil wrong.held)
tells_wrong (b ∷ side) = tells_same to from (tells_either (ltb 127 b) _ (tells_less 127 b) (tells_wrong side))
  where
    to : (127 < b) ⊎ WrongByte limits side → WrongByte limits (b ∷ side)
    to (inl above) = record { byte = b; held = Memᴰ.head refl; above = above }
    to (inr wrong) = record { byte = wrong.byte; held = Memᴰ.tail wrong.held; above = wrong.above }

    from : WrongByte limits (b ∷ side) → (127 < b) ⊎ WrongByte limits side
    from wrong = by_member wrong.held wrong.above
      where
        by_member : {x : ℕ} → Memᴰ x (b ∷ side) → 127 < x → (127 < b) ⊎ WrongByte limits side
        by_member (Memᴰ.head e) above = inl (omega (arith, e))
        by_member {x} (Memᴰ.tail m) above = inr (record { byte = x; held = m; above = above })
