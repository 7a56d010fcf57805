-- The theorems on a pair's unifiers (demand 3), over selections and for groups of any size. This is the file
-- to read first: the statements use the definitions of `specs/` alone, and the proofs stand in the files that
-- are named in the `use` lines. L and R are the pair's flattened sides, G its groups of rows, `new` the first
-- new variable, above all atoms. A mode says which atoms are variables and whether a value may be empty; in
-- the mode `unifying` none is, in the mode `identity` each may be.
use Prim.Native.Nat.{ℕ, ◌≤◌}
use mathlib.Core.Path.{◌≡◌}
use mathlib.Core.Bool.{true}
use mathlib.Core.List.{List}
use mathlib.Core.Logic.{◌↔◌}
use Rattle.ac.specs.Pair.{Mode, IsSide}
use Rattle.ac.specs.Rows.{Groups, GroupsOf}
use Rattle.ac.specs.Selection.{Selection, SelectionOf, admissible, value}
use Rattle.ac.specs.Replacement.{Replacement, put, SameSum, Unifies, ComesFrom, Balances}
use Rattle.ac.proofs.Sound.{sound_selection}
use Rattle.ac.proofs.Balances.{made_of_rows}
use Rattle.ac.proofs.Complete.{complete_selection}
use Rattle.ac.proofs.Independent.{independent_selections}

module _ (M : Mode) (new : ℕ) (L R : List ℕ) {G : Groups} where
  -- SOUND. The values of an admissible selection unify: each variable gets a non-empty sum, and the sides
  -- become equal.
  pub sound : IsSide L → IsSide R → GroupsOf M L R G → {s : Selection} → SelectionOf G s
      → admissible M new L R G s ≡ true
      → Unifies M L R (value M new L R G s)
  sound left right groups {s} selection = sound_selection M L R left right G groups new s selection

  -- BALANCES. Whatever replacement makes the sides equal is, for each unbalanced constant, one of its rows
  -- and multiples of balanced rows, and for each other atom multiples of balanced rows. Nothing is said of
  -- empty values.
  pub balances : IsSide L → IsSide R → GroupsOf M L R G → {θ : Replacement}
      → SameSum (put M.moves θ L) (put M.moves θ R) → Balances M L R G θ
  balances left right groups {θ} equal = made_of_rows M L R left right groups θ equal

  -- COMPLETE. Every unifier comes from the values of an admissible selection, by non-empty sums for the new
  -- variables in them.
  pub complete : IsSide L → IsSide R → 128 ≤ new → GroupsOf M L R G → {θ : Replacement} → Unifies M L R θ
      → (s : Selection) × SelectionOf G s × (admissible M new L R G s ≡ true)
      × ComesFrom M new L R (value M new L R G s) θ
  complete left right above groups {θ} unifies = complete_selection M new L R left right above groups θ unifies

  -- INDEPENDENT. No admissible selection's values come from another's.
  pub independent : 128 ≤ new → GroupsOf M L R G → {s t : Selection} → SelectionOf G s → SelectionOf G t
      → admissible M new L R G s ≡ true → admissible M new L R G t ≡ true
      → ComesFrom M new L R (value M new L R G s) (value M new L R G t) → s ≡ t
  independent above groups {s} {t} of_s of_t ok_s ok_t comes =
      independent_selections M new L R above groups s t of_s of_t comes ok_s ok_t

  -- EMPTY. No selection is admissible exactly where no replacement unifies.
  pub empty : IsSide L → IsSide R → 128 ≤ new → GroupsOf M L R G
      → ((s : Selection) → SelectionOf G s → admissible M new L R G s ≡ true → ⊥)
      ↔ ((θ : Replacement) → Unifies M L R θ → ⊥)
  empty left right above groups = (to, back)
    where
      to : ((s : Selection) → SelectionOf G s → admissible M new L R G s ≡ true → ⊥) → (θ : Replacement)
          → Unifies M L R θ → ⊥
      to nothing θ unifies = let c = complete left right above groups unifies in nothing c.0 c.1 c.2

      back : ((θ : Replacement) → Unifies M L R θ → ⊥) → (s : Selection) → SelectionOf G s
          → admissible M new L R G s ≡ true → ⊥
      back nothing s selection ok = nothing (value M new L R G s) (sound left right groups selection ok)
