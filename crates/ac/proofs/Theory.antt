-- The unifiers of a theory are the replacements that unify the flattened sides, and more general is "comes from",
-- wherever equal terms are those that have the same atoms equally often.
use Prim.Native.Nat.{ℕ}
use mathlib.Core.Path.{◌≡◌, sym, ap, ◌∙◌}
use mathlib.Core.Logic.{◌↔◌}
use mathlib.Core.Bool.{Bool, ◌||◌}
use mathlib.Core.List.{List, Memᴰ}
use borrow.Author.Tests.{leb-true}
use Rattle.ac.specs.Pair.{Mode, IsSide, count}
use Rattle.ac.specs.Replacement.{Replacement, put, SameSum, NonEmpty, Unifies, ComesFrom, is_new}
use Rattle.ac.specs.Theory.{Theory, Substitution, Unifier, MoreGeneral, Pure, any_variable, variables_of}
use Rattle.ac.proofs.Agree.{put_agrees, put_moving, Agree, unifies_alike}

-- the replacement of a substitution
abbrev pub flattened : (T : Theory) → Substitution T → Replacement
flattened T σ x = T.flatten (σ x)

-- In the theory terms are sums of atoms: they are equal if they have the same atoms equally often.
pub record Sums (T : Theory) (M : Mode) : Type 0 where
  pub same_sum : (s t : T.Terms) → T.equal s t ↔ SameSum (T.flatten s) (T.flatten t)
  -- applying a substitution to a term is putting its replacement into the flattened side
  pub flatten_apply : (variable : ℕ → Bool) (σ : Substitution T) (t : T.Terms)
      → T.flatten (T.apply variable σ t) ≡ put variable (flattened T σ) (T.flatten t)
  -- a term has an atom, where a sum has to have one, and every such sum is that of its tree
  pub flatten_some : (t : T.Terms) → NonEmpty M (T.flatten t)
  pub flatten_tree : (xs : List ℕ) → NonEmpty M xs → T.flatten (T.tree xs) ≡ xs

module _ {T : Theory} {M : Mode} (sums : Sums T M) (s t : T.Terms) where
  abbrev L : List ℕ
  L = T.flatten s

  abbrev R : List ℕ
  R = T.flatten t

  -- A substitution is a unifier of two terms exactly if its replacement unifies their flattened sides.
  pub unifier_unifies : (σ : Substitution T) → Unifier T M s t σ ↔ Unifies M L R (flattened T σ)
  unifier_unifies σ = (
    λ unifier.
        record {
          non_empty = λ x m. sums.flatten_some (σ x);
          equal = λ b. sym (ap (count b) (sums.flatten_apply M.moves σ s))
              ∙ (sums.same_sum (T.apply M.moves σ s) (T.apply M.moves σ t)).0 unifier b
              ∙ ap (count b) (sums.flatten_apply M.moves σ t);
        },
    λ unifies.
        (sums.same_sum (T.apply M.moves σ s) (T.apply M.moves σ t)).1
        (λ b. ap (count b) (sums.flatten_apply M.moves σ s) ∙ unifies.equal b
        ∙ sym (ap (count b) (sums.flatten_apply M.moves σ t))),
  )

  -- the substitution of a replacement
  abbrev planted : Replacement → Substitution T
  planted θ x = T.tree (θ x)

  -- Every replacement that unifies is, on the pair's variables, that of a substitution, and that is a unifier.
  pub unifies_unifier : IsSide L → IsSide R → (θ : Replacement) → Unifies M L R θ
      → (σ : Substitution T) × Agree (variables_of T M s t) (flattened T σ) θ × Unifier T M s t σ
  unifies_unifier left right θ unifies = (
    planted θ,
    its_values,
    (unifier_unifies (planted θ)).1 (unifies_alike M L R left right (λ x m. sym (its_values x m)) unifies),
  )
    where
      its_values : Agree (variables_of T M s t) (flattened T (planted θ)) θ
      its_values x m = sums.flatten_tree (θ x) (unifies.non_empty x m)

  -- σ is more general than σ' on the pair's variables exactly if the replacement of σ' comes from that of σ.
  pub more_general : (new : ℕ) (σ σ' : Substitution T)
      → MoreGeneral T (is_new new) (variables_of T M s t) σ σ'
      ↔ ComesFrom M new L R (flattened T σ) (flattened T σ')
  more_general new σ σ' = (there, back)
    where
      there : MoreGeneral T (is_new new) (variables_of T M s t) σ σ'
          → ComesFrom M new L R (flattened T σ) (flattened T σ')
      there general =
          record {
            fill = flattened T general.η;
            filled = λ x n m k above. sums.flatten_some (general.η n);
            agrees =
                λ x m b.
                sym ((sums.same_sum (T.apply (is_new new) general.η (σ x)) (σ' x)).0 (general.instances x m) b)
                ∙ ap (count b) (sums.flatten_apply (is_new new) general.η (σ x));
          }

      back : ComesFrom M new L R (flattened T σ) (flattened T σ')
          → MoreGeneral T (is_new new) (variables_of T M s t) σ σ'
      back comes =
          record {
            η = planted comes.fill;
            instances =
                λ x m.
                (sums.same_sum (T.apply (is_new new) (planted comes.fill) (σ x)) (σ' x)).1
                (λ b.
                ap (count b) (sums.flatten_apply (is_new new) (planted comes.fill) (σ x) ∙ same_fill x m)
                ∙ sym (comes.agrees x m b));
          }
        where
          same_fill : (x : ℕ) → Memᴰ x (variables_of T M s t)
              → put (is_new new) (flattened T (planted comes.fill)) (T.flatten (σ x))
              ≡ put (is_new new) comes.fill (T.flatten (σ x))
          same_fill x m =
              put_agrees (is_new new) (flattened T (planted comes.fill)) comes.fill (T.flatten (σ x))
              (λ n k above. sums.flatten_tree (comes.fill n) (comes.filled x n m k (leb-true new n above)))

-- what η makes of a value has the same atoms whichever of two sets of variables it moves, if they agree on the value's
-- atoms
general_alike : {T : Theory} {M : Mode} → Sums T M → (variable variable' : ℕ → Bool) (over : List ℕ) (σ σ' : Substitution T)
    → ((x a : ℕ) → Memᴰ x over → Memᴰ a (T.flatten (σ x)) → variable a ≡ variable' a)
    → MoreGeneral T variable over σ σ' → MoreGeneral T variable' over σ σ'
general_alike {T} sums variable variable' over σ σ' agree general =
    record {
      η = general.η;
      instances =
          λ x m.
          (sums.same_sum (T.apply variable' general.η (σ x)) (σ' x)).1
          (λ b.
          ap (count b)
          (sums.flatten_apply variable' general.η (σ x)
          ∙ sym (put_moving variable variable' (flattened T general.η) (T.flatten (σ x)) (λ a k. agree x a m k))
          ∙ sym (sums.flatten_apply variable general.η (σ x)))
          ∙ (sums.same_sum (T.apply variable general.η (σ x)) (σ' x)).0 (general.instances x m) b);
    }

-- For a pure σ it makes no difference whether η may move every variable or the new ones alone.
pub every_variable : {T : Theory} {M : Mode} → Sums T M → (new : ℕ) (over : List ℕ) (σ σ' : Substitution T)
    → Pure T M.moves over σ
    → MoreGeneral T (any_variable M new) over σ σ' ↔ MoreGeneral T (is_new new) over σ σ'
every_variable {T} {M} sums new over σ σ' pure = (
  general_alike sums (any_variable M new) (is_new new) over σ σ' agree,
  general_alike sums (is_new new) (any_variable M new) over σ σ' (λ x a m k. sym (agree x a m k)),
)
  where
    agree : (x a : ℕ) → Memᴰ x over → Memᴰ a (T.flatten (σ x)) → any_variable M new a ≡ is_new new a
    agree x a m k = ap (λ b. b || is_new new a) (pure x a m k)
