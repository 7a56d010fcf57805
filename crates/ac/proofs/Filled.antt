-- Each new variable filled with itself: what gives the same sums comes from the same.
use Prim.Native.Nat.{ℕ}
use native.Mathlib.Omega.{arith}
use mathlib.Core.Path.{◌≡◌, refl, sym, ap, ap₂, ◌∙◌}
use mathlib.Core.Bool.{Bool, true, false, cond}
use mathlib.Core.List.{List, [], ◌∷◌, ◌++◌, Memᴰ}
use Rattle.ac.specs.Pair.{Mode, count, variables}
use Rattle.ac.specs.Replacement.{Replacement, put, is_new, SameSum, ComesFrom}

-- each new variable filled with itself changes nothing
put_itself : (new : ℕ) (s : List ℕ) → put (is_new new) (λ n. n ∷ []) s ≡ s
put_itself new [] = refl
put_itself new (a ∷ s) = ap₂ {C = List ℕ} (λ first rest. first ++ rest) (either (is_new new a)) (put_itself new s)
  where
    either : (t : Bool) → cond t (a ∷ []) (a ∷ []) ≡ a ∷ []
    either true = refl
    either false = refl

-- so a replacement that gives each variable the same sum as another comes from it
pub same_comes : (M : Mode) (new : ℕ) (L R : List ℕ) {σ θ : Replacement}
    → ((x : ℕ) → Memᴰ x (variables M L R) → SameSum (σ x) (θ x)) → ComesFrom M new L R σ θ
same_comes M new L R {σ} same =
    record {
      fill = λ n. n ∷ [];
      filled = λ x n m k above some. omega arith;
      agrees = λ x m b. sym (same x m b) ∙ ap (count b) (sym (put_itself new (σ x)));
    }
