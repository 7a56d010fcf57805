-- Replacements that agree on the pair's variables unify alike and come from the same.
use Prim.Native.Nat.{ℕ, ◌<◌}
use native.Mathlib.Omega.{arith}
use mathlib.Core.Path.{◌≡◌, refl, sym, ap, ap₂, subst, ◌∙◌}
use mathlib.Core.Bool.{Bool, true, false, cond}
use mathlib.Core.List.{List, [], ◌∷◌, ◌++◌, Memᴰ}
use lib.ListN.{length}
use Rattle.ac.specs.Pair.{Mode, IsSide, count, variables}
use Rattle.ac.specs.Replacement.{Replacement, put, Unifies, ComesFrom, is_new}
use Rattle.ac.proofs.Counts.{count_some}
use Rattle.ac.proofs.Replaced.{moving_variable}

-- a side is the same after two replacements that agree on the atoms that stand there and move
pub put_agrees : (moves : ℕ → Bool) (θ θ' : Replacement) (side : List ℕ)
    → ((a : ℕ) → Memᴰ a side → moves a ≡ true → θ a ≡ θ' a)
    → put moves θ side ≡ put moves θ' side
put_agrees moves θ θ' [] agree = refl
put_agrees moves θ θ' (a ∷ side) agree =
    ap₂ {C = List ℕ} (λ x y. x ++ y) (here (moves a) (agree a (Memᴰ.head refl)))
    (put_agrees moves θ θ' side (λ b m. agree b (Memᴰ.tail m)))
  where
    here : (b : Bool) → (b ≡ true → θ a ≡ θ' a) → cond b (θ a) (a ∷ []) ≡ cond b (θ' a) (a ∷ [])
    here true agrees = agrees refl
    here false agrees = refl

-- and whichever of two sets of atoms moves, if they agree on the atoms that stand there
pub put_moving : (moves moves' : ℕ → Bool) (θ : Replacement) (side : List ℕ)
    → ((a : ℕ) → Memᴰ a side → moves a ≡ moves' a) → put moves θ side ≡ put moves' θ side
put_moving moves moves' θ [] agree = refl
put_moving moves moves' θ (a ∷ side) agree =
    ap₂ {C = List ℕ} (λ b rest. cond b (θ a) (a ∷ []) ++ rest) (agree a (Memᴰ.head refl))
    (put_moving moves moves' θ side (λ b m. agree b (Memᴰ.tail m)))

-- the two replacements agree on the variables
abbrev pub Agree : List ℕ → Replacement → Replacement → Type 0
Agree over θ θ' = (x : ℕ) → Memᴰ x over → θ x ≡ θ' x

-- What replaces the pair's variables alike unifies alike, and comes from the same.
module _ (M : Mode) (L R : List ℕ) (left : IsSide L) (right : IsSide R) where
  -- it unifies alike
  pub unifies_alike : {θ θ' : Replacement} → Agree (variables M L R) θ θ' → Unifies M L R θ → Unifies M L R θ'
  unifies_alike {θ} {θ'} agree unifies =
      record {
        non_empty = λ x m some. subst (λ (l : List ℕ). 0 < length l) (agree x m) (unifies.non_empty x m some);
        equal = λ b. sym (ap (count b) (same_put L on_left)) ∙ unifies.equal b
            ∙ ap (count b) (same_put R on_right);
      }
    where
      on_left : (a : ℕ) → Memᴰ a L → M.moves a ≡ true → Memᴰ a (variables M L R)
      on_left a m = moving_variable M L R a (left a m) (omega (arith, count_some a L m))

      on_right : (a : ℕ) → Memᴰ a R → M.moves a ≡ true → Memᴰ a (variables M L R)
      on_right a m = moving_variable M L R a (right a m) (omega (arith, count_some a R m))

      same_put : (side : List ℕ) → ((a : ℕ) → Memᴰ a side → M.moves a ≡ true → Memᴰ a (variables M L R))
          → put M.moves θ side ≡ put M.moves θ' side
      same_put side moving = put_agrees M.moves θ θ' side (λ a m moves. agree a (moving a m moves))

-- and it comes from the same
pub comes_alike : (M : Mode) (new : ℕ) (L R : List ℕ) {σ σ' θ θ' : Replacement} → Agree (variables M L R) σ σ'
    → Agree (variables M L R) θ θ'
    → ComesFrom M new L R σ θ → ComesFrom M new L R σ' θ'
comes_alike M new L R same same' comes =
    record {
      fill = comes.fill;
      filled = λ x n m k. comes.filled x n m (subst (Memᴰ n) (sym (same x m)) k);
      agrees = λ x m b. sym (ap (count b) (same' x m)) ∙ comes.agrees x m b
          ∙ ap (λ (l : List ℕ). count b (put (is_new new) comes.fill l)) (same x m);
    }
