-- Matching moves the left variables alone (document 02, R-4): they are the pair's variables, and where no variable stands
-- on both sides the right side stays as it stands. So the matches are the replacements that unify in that mode.
use Prim.Native.Nat.{ℕ, ◌≤◌}
use native.Mathlib.Omega.{arith}
use mathlib.Core.Path.{◌≡◌, refl, sym, ap, ap₂, ◌∙◌}
use mathlib.Core.Logic.{◌↔◌}
use mathlib.Core.Bool.{Bool, true, false, cond, ◌&&◌, and-eq-true_iff, and-true}
use mathlib.Core.List.{List, [], ◌∷◌, ◌++◌, Memᴰ}
use borrow.Author.Tests.{ltb-true, lt-ltb, le-ltb}
use lib.Dec.{ltb}
use Rattle.ac.specs.Pair.{is_variable, matching, count, variables, unbalanced}
use Rattle.ac.specs.Replacement.{Replacement, put, Unifies}
use Rattle.ac.specs.Match.{LeftVariable, Match, Separate}
use Rattle.ac.proofs.Counts.{count-append, count_none, count_some, count_member}
use Rattle.ac.proofs.Replaced.{variables_move, moving_variable, unbalanced_member}

-- a side is the same after a replacement whichever of two sets of atoms move, if they agree on the side's atoms
pub put_moved_alike : (moves moves' : ℕ → Bool) (θ : Replacement) (side : List ℕ)
    → ((a : ℕ) → Memᴰ a side → moves a ≡ moves' a) → put moves θ side ≡ put moves' θ side
put_moved_alike moves moves' θ [] agree = refl
put_moved_alike moves moves' θ (a ∷ side) agree =
    ap₂ {C = List ℕ} (λ t rest. cond t (θ a) (a ∷ []) ++ rest) (agree a (Memᴰ.head refl))
    (put_moved_alike moves moves' θ side (λ b m. agree b (Memᴰ.tail m)))

-- and it stays where none of them moves
pub put_unmoved : (moves : ℕ → Bool) (θ : Replacement) (side : List ℕ)
    → ((a : ℕ) → Memᴰ a side → moves a ≡ false) → put moves θ side ≡ side
put_unmoved moves θ [] stays = refl
put_unmoved moves θ (a ∷ side) stays =
    ap₂ {C = List ℕ} (λ t rest. cond t (θ a) (a ∷ []) ++ rest) (stays a (Memᴰ.head refl))
    (put_unmoved moves θ side (λ b m. stays b (Memᴰ.tail m)))

-- what a variable of the side is replaced by stands in the side after it
put_holds : (moves : ℕ → Bool) (θ : Replacement) (b : ℕ) {x : ℕ} → moves x ≡ true → (side : List ℕ)
    → Memᴰ x side → count b (θ x) ≤ count b (put moves θ side)
put_holds moves θ b {x = x} moving [] x'' = elim x'' [ ]
put_holds moves θ b {x} moving (a ∷ side) (Memᴰ.head e) =
    let here : cond (moves a) (θ a) (a ∷ []) ≡ θ x =
    ap (λ t. cond t (θ a) (a ∷ [])) (sym (ap moves e) ∙ moving) ∙ ap θ (sym e) in
    omega (arith, count-append b (cond (moves a) (θ a) (a ∷ [])) (put moves θ side), ap (count b) here)
put_holds moves θ b moving (a ∷ side) (Memᴰ.tail m) =
    omega (
      arith,
      count-append b (cond (moves a) (θ a) (a ∷ [])) (put moves θ side),
      put_holds moves θ b moving side m,
    )

-- The values of a match hold atoms of the right side alone.
pub value_on_right : {L R : List ℕ} {θ : Replacement} → Match L R θ → {x : ℕ} → LeftVariable L x → {a : ℕ}
    → Memᴰ a (θ x) → Memᴰ a R
value_on_right {L} {R} {θ} match {x} left {a} m =
    count_member a R
    (omega (
      arith,
      count_some a (θ x) m,
      put_holds is_variable θ a left.is_variable L left.on_left,
      match.equal a,
    ))

module _ (L : List ℕ) where
  -- what moves is a left variable
  moving_left : {a : ℕ} → (matching L).moves a ≡ true → LeftVariable L a
  moving_left {a} moves =
      let both = (and-eq-true_iff (is_variable a) (ltb 0 (count a L))).0 moves in
      record { is_variable = both.0; on_left = count_member a L (ltb-true 0 (count a L) both.1) }

  -- and a left variable moves
  left_moving : {a : ℕ} → LeftVariable L a → (matching L).moves a ≡ true
  left_moving {a} left =
      (and-eq-true_iff (is_variable a) (ltb 0 (count a L))).1
      (left.is_variable, lt-ltb 0 (count a L) (count_some a L left.on_left))

  -- on the left every variable moves
  left_moves : (a : ℕ) → Memᴰ a L → is_variable a ≡ (matching L).moves a
  left_moves a m =
      sym (ap (λ t. is_variable a && t) (lt-ltb 0 (count a L) (count_some a L m)) ∙ and-true (is_variable a))

module _ (L R : List ℕ) where
  -- The variables of the pair are the left variables.
  pub left_variables : {x : ℕ} → Memᴰ x (variables (matching L) L R) ↔ LeftVariable L x
  left_variables {x} = (
    λ m. moving_left L (variables_move (matching L) L R x m),
    λ left.
        moving_variable (matching L) L R x (omega (arith, ltb-true x 64 left.is_variable))
        (omega (arith, count_some x L left.on_left)) (left_moving L left),
  )

  module _ (separate : Separate L R) where
    -- on the right nothing moves
    right_stays : (a : ℕ) → Memᴰ a R → (matching L).moves a ≡ false
    right_stays a m = by_kind (is_variable a) refl
      where
        by_kind : (t : Bool) → is_variable a ≡ t → (t && ltb 0 (count a L)) ≡ false
        by_kind true variable = le-ltb 0 (count a L)
            (omega (arith, count_none a L (λ (l : Memᴰ a L). separate a variable l m)))
        by_kind false constant = refl

    -- A left variable does not stand on the right.
    pub not_on_right : {x : ℕ} → LeftVariable L x → count x R ≡ 0
    not_on_right {x} left =
        count_none x R (λ (r : Memᴰ x R). separate x left.is_variable left.on_left r)

    -- "The right side's variables count as constants": each of them is an unbalanced one.
    pub right_variables : {a : ℕ} → is_variable a ≡ true → Memᴰ a R → Memᴰ a (unbalanced (matching L) L R)
    right_variables {a} variable m =
        unbalanced_member (matching L) L R a (omega (arith, ltb-true a 64 variable)) (right_stays a m)
        (λ same. omega (
          arith,
          same,
          count_some a R m,
          count_none a L (λ (l : Memᴰ a L). separate a variable l m),
        ))

    -- The matches are the replacements that unify.
    pub match_unifies : {θ : Replacement} → Match L R θ ↔ Unifies (matching L) L R θ
    match_unifies {θ} = (to, back)
      where
        pattern : put is_variable θ L ≡ put (matching L).moves θ L
        pattern = put_moved_alike is_variable (matching L).moves θ L (left_moves L)

        subject : put (matching L).moves θ R ≡ R
        subject = put_unmoved (matching L).moves θ R right_stays

        to : Match L R θ → Unifies (matching L) L R θ
        to match =
            record {
              non_empty = λ x m some. match.non_empty x (left_variables.0 m);
              equal = λ b. ap (count b) (sym pattern) ∙ match.equal b ∙ ap (count b) (sym subject);
            }

        back : Unifies (matching L) L R θ → Match L R θ
        back unifies =
            record {
              non_empty = λ x left. unifies.non_empty x (left_variables.1 left) refl;
              equal = λ b. ap (count b) pattern ∙ unifies.equal b ∙ ap (count b) subject;
            }
