-- A pattern covers a subject (document 02, R-4): the substitutions that make the term of the pattern that of the subject,
-- modulo associativity and commutativity, are the matches of the flattened sides.
use Prim.Native.Nat.{ℕ, ◌<◌}
use mathlib.Core.Path.{◌≡◌, sym, ap, ◌∙◌}
use mathlib.Core.Logic.{◌↔◌}
use lib.ListN.{length}
use Rattle.ac.specs.Term.{Term, flatten}
use Rattle.ac.specs.Pair.{is_variable, count}
use Rattle.ac.specs.Replacement.{Replacement, put, SameSum}
use Rattle.ac.specs.Fages.{Ac, Substitution, apply, tree}
use Rattle.ac.specs.Match.{LeftVariable, Match, Covers}
use Rattle.ac.proofs.Agree.{put_agrees}
use Rattle.ac.proofs.Theory.{flattened}
use Rattle.ac.proofs.Fages.{same_sum, flatten_some, flatten_apply, flatten_tree}

module _ (s t : Term) where
  -- A substitution makes s equal to t exactly if its replacement is a match.
  pub covers_match : (σ : Substitution) → Covers s t σ ↔ Match (flatten s) (flatten t) (flattened Ac σ)
  covers_match σ = (
    λ covers.
        record {
          non_empty = λ x left. flatten_some (σ x);
          equal = λ b. sym (ap (count b) (flatten_apply is_variable σ s))
              ∙ (same_sum (apply is_variable σ s) t).0 covers b;
        },
    λ match. (same_sum (apply is_variable σ s) t).1
        (λ b. ap (count b) (flatten_apply is_variable σ s) ∙ match.equal b),
  )

  -- And every match is, on the left variables, the replacement of such a substitution.
  pub match_covers : {θ : Replacement} → Match (flatten s) (flatten t) θ
      → (σ : Substitution) × ((x : ℕ) → LeftVariable (flatten s) x → flattened Ac σ x ≡ θ x) × Covers s t σ
  match_covers {θ} match =
      (λ x. tree (θ x), its_values, (covers_match (λ x. tree (θ x))).1 (record { non_empty = non_empty; equal = equal }))
    where
      its_values : (x : ℕ) → LeftVariable (flatten s) x → flatten (tree (θ x)) ≡ θ x
      its_values x left = flatten_tree (θ x) (match.non_empty x left)

      non_empty : (x : ℕ) → LeftVariable (flatten s) x → 0 < length (flatten (tree (θ x)))
      non_empty x left = flatten_some (tree (θ x))

      equal : SameSum (put is_variable (λ x. flatten (tree (θ x))) (flatten s)) (flatten t)
      equal b =
          ap (count b) (put_agrees is_variable (λ x. flatten (tree (θ x))) θ (flatten s)
          (λ a m variable. its_values a (record { is_variable = variable; on_left = m })))
          ∙ match.equal b
