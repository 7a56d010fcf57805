-- What is found by the net parts of a pair's atoms are the rows of its groups.
use Prim.Native.Nat.{ℕ, zero, suc, ◌-◌, ◌≤◌, ◌<◌}
use native.Mathlib.Omega.{arith}
use mathlib.Core.Path.{◌≡◌, refl, sym, ap, ap₂, subst, ◌∙◌}
use mathlib.Core.Logic.Iff
use mathlib.Core.Logic.{◌↔◌}
use mathlib.Core.Bool.{Bool, false}
use mathlib.Core.List.{List, [], ◌∷◌, map}
use lib.ListN.{length, get_or, take, length-map}
use Rattle.ac.specs.Pair.{Mode, count, variables, unbalanced}
use Rattle.ac.specs.Rows.{Exactly}
use Rattle.ac.specs.Equation.{Equation, equation, Minimal, beyond, netted}
use Rattle.ac.proofs.Vectors.{exactly_same}
use Rattle.ac.proofs.Bridge.{balanced_row_is_minimal, row_of_constant_is_minimal}
use Rattle.ac.proofs.Nets.{netted_minimal, length-beyond}
use Rattle.pair.specs.Gathered.{excess}
use Rattle.pair.specs.Parted.{PairOf}
use Rattle.pair.specs.declared.Pair.{Pair}
use Rattle.pair.proofs.Laws.{take_left, take_right, left_at, right_at}
use Rattle.equation.specs.Flat.{rows_of}
use Rattle.std.specs.Prelude.{Option, IfSome}
use Rattle.equation.specs.declared.FoundRows.{FoundRows}
use Rattle.equation.specs.Found.{equation_with, Finds, Finds.few, Finds.more}
use Rattle.table.specs.Groups.{offsets_in, RowIn, FoundUpto}

-- the net parts of a list's atoms, by place
beyond-map : (f g : ℕ → ℕ) (xs : List ℕ) → beyond (map f xs) (map g xs) ≡ map (λ x. f x - g x) xs
beyond-map f g [] = refl
beyond-map f g (x ∷ xs) = ap (λ l. (f x - g x) ∷ l) (beyond-map f g xs)

-- what is found of an equation's minimal solutions is found of the rows that they are
found_as : {limit : ℕ} {E : Equation} {found : Option FoundRows} {Row : List ℕ → Type 0} {places : ℕ}
    → ((v : List ℕ) → Minimal E v ↔ Row v) → length E.left ≡ places → Finds limit E found
    → FoundUpto limit Row places found
found_as {Row = Row} same size (few {found} within exact) =
    subst (λ k. Exactly Row (rows_of k found.number found.rows)) size (exactly_same same exact)
found_as same size (more {rows} exact above) =
    record { rows = rows; exactly = exactly_same same exact; above = above }

module _ {M : Mode} {L R : List ℕ} {pair : Pair} (of : PairOf M L R pair) where
  abbrev occurrences_of : List ℕ → List ℕ
  occurrences_of side = map (λ x. count x side) (variables M L R)

  -- an equation of the pair's variables, and one of their net parts
  abbrev whole : ℕ → ℕ → Bool → Equation
  whole = equation (occurrences_of L) (occurrences_of R)

  abbrev parts : ℕ → ℕ → Bool → Equation
  parts = equation (take pair.variables.count pair.variables.left)
      (take pair.variables.count pair.variables.right)

  -- the coefficients of the variables are their net parts
  left_parts : take pair.variables.count pair.variables.left ≡ beyond (occurrences_of L) (occurrences_of R)
  left_parts = take_left of.the_variables ∙ sym (beyond-map (λ x. count x L) (λ x. count x R) (variables M L R))

  right_parts : take pair.variables.count pair.variables.right ≡ beyond (occurrences_of R) (occurrences_of L)
  right_parts =
      take_right of.the_variables ∙ sym (beyond-map (λ x. count x R) (λ x. count x L) (variables M L R))

  -- an equation with them, and with the net parts of two offsets, finds the rows that are its minimal solutions
  found_rows : {limit left_offset right_offset : ℕ} {homogeneous : Bool} {found : Option FoundRows} {Row : List ℕ → Type 0}
      → ((v : List ℕ) → Row v ↔ Minimal (whole left_offset right_offset homogeneous) v)
      → Finds limit (parts (left_offset - right_offset) (right_offset - left_offset) homogeneous) found
      → FoundUpto limit Row pair.variables.count found
  found_rows {limit} {left_offset} {right_offset} {homogeneous} {found} rows finds =
      found_as (λ v. Iff.trans (netted_minimal (whole left_offset right_offset homogeneous) v)
      (Iff.symm (rows v))) size
      (subst (λ E. Finds limit E found) netted_parts finds)
    where
      size : length (beyond (occurrences_of L) (occurrences_of R)) ≡ pair.variables.count
      size = length-beyond (occurrences_of L) (occurrences_of R) ∙ length-map (variables M L R) (λ x. count x L)
          ∙ sym of.the_variables.how_many

      netted_parts : parts (left_offset - right_offset) (right_offset - left_offset) homogeneous
          ≡ netted (whole left_offset right_offset homogeneous)
      netted_parts i =
          record {
            left = left_parts i;
            right = right_parts i;
            left_offset = left_offset - right_offset;
            right_offset = right_offset - left_offset;
            homogeneous = homogeneous;
          }

  -- the rows of a constant: its net parts are the offsets
  found_constant : {limit g : ℕ} {found : Option FoundRows} → g < pair.constants.count
      → Finds limit (parts (get_or pair.constants.left g 0) (get_or pair.constants.right g 0) false) found
      → FoundUpto limit (RowIn M L R (suc g)) pair.variables.count found
  found_constant {limit} {g} {found} within finds =
      found_rows (row_of_constant_is_minimal M L R constant)
      (subst (λ o. Finds limit (parts o.0 o.1 false) found) offsets finds)
    where
      constant : ℕ
      constant = get_or (unbalanced M L R) g 0

      there : g < length (unbalanced M L R)
      there = omega (arith, within, of.the_constants.how_many)

      offsets : ◌≡◌ {A = ℕ × ℕ} (get_or pair.constants.left g 0, get_or pair.constants.right g 0)
          (excess L R constant, excess R L constant)
      offsets = ap₂ (λ l r. (l, r)) (left_at of.the_constants g there) (right_at of.the_constants g there)

  -- the rows of a group; the balanced ones have no offset, and are not all zero
  pub found_group : (g : ℕ) {limit : ℕ} {found : Option FoundRows} → g ≤ pair.constants.count
      → Finds limit (equation_with (take pair.variables.count pair.variables.left)
      (take pair.variables.count pair.variables.right) (offsets_in pair.constants g)) found
      → FoundUpto limit (RowIn M L R g) pair.variables.count found
  found_group zero within finds = found_rows (balanced_row_is_minimal M L R) finds
  found_group (suc g) within finds = found_constant (omega (arith, within)) finds

-- what is found is no more than the limit
pub few_found : {limit : ℕ} {E : Equation} {found : Option FoundRows} → Finds limit E found
    → IfSome found (λ rows. rows.number ≤ limit)
few_found (few within exact) = within
few_found (more exact above) = tt
