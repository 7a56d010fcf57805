-- The groups of a pair exist and are unique, and of the mode they depend by the atoms that move alone.
use Prim.Native.Nat.{ℕ}
use mathlib.Core.Path.{◌≡◌, refl, sym, ap, ap₂, subst, ◌∙◌}
use mathlib.Core.List.Memᴰ
use mathlib.Core.List.{List, [], ◌∷◌, map, Memᴰ, nil≢cons, head-eq_of_cons-eq, tail-eq_of_cons-eq}
use mathlib.Core.Logic.Iff
use mathlib.Core.Logic.{◌↔◌}
use mathlib.Core.Bool.{Bool}
use Rattle.ac.specs.Pair.{Mode, unifying, identity, unbalanced}
use Rattle.ac.specs.Rows.{Exactly, BalancedRow, RowOf, Group, Groups, GroupsOf}
use Rattle.ac.specs.Equation.{balanced_equation, equation_of}
use Rattle.ac.specs.Search.{group_of, groups}
use Rattle.ac.proofs.Vectors.{exactly_same}
use Rattle.ac.proofs.Order.{exactly_unique}
use Rattle.ac.proofs.Bridge.{balanced_row_is_minimal, row_of_constant_is_minimal}
use Rattle.ac.proofs.Search.{minimal_solutions_exact}

module _ (M : Mode) (L R : List ℕ) where
  constants_of : (cs : List ℕ) → map (λ (g : Group). g.constant) (map (group_of M L R) cs) ≡ cs
  constants_of [] = refl
  constants_of (c ∷ cs) = ap (λ ds. c ∷ ds) (constants_of cs)

  group_rows : (c : ℕ) → Exactly (RowOf M L R c) (group_of M L R c).rows
  group_rows c = exactly_same (λ v. Iff.symm (row_of_constant_is_minimal M L R c v))
      (minimal_solutions_exact (equation_of M L R c))

  -- Every pair has its groups.
  pub groups_exist : GroupsOf M L R (groups M L R)
  groups_exist =
      record {
        balanced_rows = exactly_same (λ v. Iff.symm (balanced_row_is_minimal M L R v))
            (minimal_solutions_exact (balanced_equation M L R));
        the_constants = constants_of (unbalanced M L R);
        constant_rows = λ g m. by_origin g (Memᴰ.of_map (group_of M L R) (unbalanced M L R) m);
      }
    where
      by_origin : (g : Group) → (c : ℕ) × Memᴰ c (unbalanced M L R) × (group_of M L R c ≡ g)
          → Exactly (RowOf M L R g.constant) g.rows
      by_origin g o = subst (λ h. Exactly (RowOf M L R h.constant) h.rows) o.2 (group_rows o.0)

  -- two lists of the same constants, each with exactly its rows, are equal
  constants_unique : (gs hs : List Group)
      → map (λ (g : Group). g.constant) gs ≡ map (λ (g : Group). g.constant) hs
      → ((g : Group) → Memᴰ g gs → Exactly (RowOf M L R g.constant) g.rows)
      → ((g : Group) → Memᴰ g hs → Exactly (RowOf M L R g.constant) g.rows) → gs ≡ hs
  constants_unique [] [] same rows_g rows_h = refl
  constants_unique [] (h ∷ hs) same rows_g rows_h = absurd (nil≢cons same)
  constants_unique (g ∷ gs) [] same rows_g rows_h = absurd (nil≢cons (sym same))
  constants_unique (g ∷ gs) (h ∷ hs) same rows_g rows_h =
      ap₂ {C = List Group} (λ x xs. x ∷ xs) (λ i. record { constant = constant i; rows = rows i })
      (constants_unique gs hs (tail-eq_of_cons-eq same) (λ x m. rows_g x (Memᴰ.tail m))
      (λ x m. rows_h x (Memᴰ.tail m)))
    where
      constant : g.constant ≡ h.constant
      constant = head-eq_of_cons-eq same

      rows : g.rows ≡ h.rows
      rows =
          exactly_unique
          (subst (λ c. Exactly (RowOf M L R c) g.rows) constant (rows_g g (Memᴰ.head refl)))
          (rows_h h (Memᴰ.head refl))

  -- A pair has one system of groups.
  pub groups_unique : {G H : Groups} → GroupsOf M L R G → GroupsOf M L R H → G ≡ H
  groups_unique {G} {H} g h = λ i. record { balanced = balanced i; constants = constants i }
    where
      balanced : G.balanced ≡ H.balanced
      balanced = exactly_unique g.balanced_rows h.balanced_rows

      constants : G.constants ≡ H.constants
      constants = constants_unique G.constants H.constants (g.the_constants ∙ sym h.the_constants)
          g.constant_rows h.constant_rows

-- a mode with other atoms that move
abbrev moving : (ℕ → Bool) → Mode → Mode
moving moves M = record { moves = moves; empties = M.empties; separate = M.separate }

-- Whether a value may be empty, and whether a variable may stand on both sides, says nothing of rows: of two modes in
-- which the same atoms move, a row of the one is a row of the other, ..
module _ (M M' : Mode) (L R : List ℕ) where
  same_balanced : (v : List ℕ) → BalancedRow M L R v ↔ BalancedRow (moving M.moves M') L R v
  same_balanced v = (
    λ row. record { vector = row.vector; least = row.least },
    λ row. record { vector = row.vector; least = row.least },
  )

  same_rows : (c : ℕ) (v : List ℕ) → RowOf M L R c v ↔ RowOf (moving M.moves M') L R c v
  same_rows c v = (
    λ row. record { vector = row.vector; least = row.least },
    λ row. record { vector = row.vector; least = row.least },
  )

  -- .. so they have the same groups.
  pub groups_by_moving : M.moves ≡ M'.moves → {G : Groups} → GroupsOf M L R G → GroupsOf M' L R G
  groups_by_moving same {G} of =
      subst (λ moves. GroupsOf (moving moves M') L R G) same
      (record {
        balanced_rows = exactly_same same_balanced of.balanced_rows;
        the_constants = of.the_constants;
        constant_rows = λ g m. exactly_same (same_rows g.constant) (of.constant_rows g m);
      })

-- In sums with an identity (document 02, R-10) a pair has the groups that it has in unifying.
pub identity-groups : {L R : List ℕ} {G : Groups} → GroupsOf identity L R G ↔ GroupsOf unifying L R G
identity-groups {L} {R} = (groups_by_moving identity unifying L R refl, groups_by_moving unifying identity L R refl)
