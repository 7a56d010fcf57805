-- The longest value (document 02, R-9). Where no net count is further from 0 than a number, no entry of a row is above
-- it; so no value has more atoms than that number times the rows that a selection can take.
use Prim.Native.Nat.{ℕ, zero, suc, ◌+◌, ◌*◌, ◌≤◌}
use native.Mathlib.Omega.{arith}
use mathlib.Core.Path.{◌≡◌, refl}
use mathlib.Core.Bool.{Bool, true, false}
use mathlib.Core.List.{List, [], ◌∷◌, ◌++◌, map, Memᴰ}
use lib.ListN.{length, get_or, length-append, length-replicate}
use Rattle.ac.specs.Lists.{NoneAbove}
use Rattle.ac.specs.Pair.{Mode, count, variables}
use Rattle.ac.specs.Rows.{BalancedRow, RowOf, Group, Groups, GroupsOf}
use Rattle.ac.specs.Equation.{Minimal, equation, on_left, on_right}
use Rattle.ac.specs.Selection.{Selection, Taken, taken_rows, taken_balanced, value_at, place_of, value}
use Rattle.ac.proofs.Bound.{huet_bound}
use Rattle.ac.proofs.Bridge.{balanced_row_is_minimal, row_of_constant_is_minimal}

-- two numbers are no further apart than a third
abbrev pub Near : ℕ → ℕ → ℕ → Type 0
Near most a b = (a ≤ b + most) × (b ≤ a + most)

-- counts that are near for every atom are near at every place
near_places : (most : ℕ) (f g : ℕ → ℕ) → ((x : ℕ) → Near most (f x) (g x)) → (xs : List ℕ) (i : ℕ)
    → Near most (get_or (map f xs) i 0) (get_or (map g xs) i 0)
near_places most f g near [] i = omega arith
near_places most f g near (x ∷ xs) zero = near x
near_places most f g near (x ∷ xs) (suc i) = near_places most f g near xs i

-- how many atoms taken rows give at a place, one after the other
length-value_at : (i : ℕ) (ts us : List Taken)
    → length (value_at (ts ++ us) i) ≡ length (value_at ts i) + length (value_at us i)
length-value_at i [] us = omega arith
length-value_at i (t ∷ ts) us = simp (length-append, length-replicate) (omega (arith, length-value_at i ts us))

-- Where no entry of the rows at a place is above a number, they give at most that many atoms each there.
module _ (most i : ℕ) where
  -- so with the entry of a row by its index; past the last row it is 0
  row_small : (rows : List (List ℕ)) (k : ℕ) → ((v : List ℕ) → Memᴰ v rows → get_or v i 0 ≤ most)
      → get_or (get_or rows k []) i 0 ≤ most
  row_small [] k small = omega arith
  row_small (r ∷ rows) zero small = small r (Memᴰ.head refl)
  row_small (r ∷ rows) (suc k) small = row_small rows k (λ v m. small v (Memᴰ.tail m))

  -- the rows taken of the constants
  constants_short : (gs : List Group) (is : List ℕ)
      → ((g : Group) → Memᴰ g gs → (v : List ℕ) → Memᴰ v g.rows → get_or v i 0 ≤ most)
      → length (value_at (taken_rows gs is) i) ≤ most * length gs
  constants_short [] is small = omega arith
  constants_short (g ∷ gs) [] small = omega arith
  constants_short (g ∷ gs) (k ∷ is) small =
      simp (length-append, length-replicate)
      (omega (
        arith,
        row_small g.rows k (small g (Memᴰ.head refl)),
        constants_short gs is (λ g m. small g (Memᴰ.tail m)),
      ))

  -- and the balanced rows
  balanced_short : (n : ℕ) (rows : List (List ℕ)) (ts : List Bool)
      → ((v : List ℕ) → Memᴰ v rows → get_or v i 0 ≤ most)
      → length (value_at (taken_balanced n rows ts) i) ≤ most * length rows
  balanced_short n [] ts small = omega arith
  balanced_short n (r ∷ rows) [] small = omega arith
  balanced_short n (r ∷ rows) (true ∷ ts) small =
      simp (length-append, length-replicate)
      (omega (
        arith,
        small r (Memᴰ.head refl),
        balanced_short (suc n) rows ts
            (λ v m. small v (Memᴰ.tail m)),
      ))
  balanced_short n (r ∷ rows) (false ∷ ts) small =
      omega (arith, balanced_short (suc n) rows ts (λ v m. small v (Memᴰ.tail m)))

-- Where no net count is further from 0 than a number ..
module _ (M : Mode) (L R : List ℕ) {most : ℕ} (some : 1 ≤ most)
    (near : (x : ℕ) → Near most (count x L) (count x R)) where
  -- .. no entry is above it of a minimal solution of the variables' equation with offsets that are as near (Huet's
  -- bound), ..
  minimal_entry : {left right : ℕ} {homogeneous : Bool} {v : List ℕ} → Near most left right
      → Minimal (equation (on_left M L R) (on_right M L R) left right homogeneous) v → NoneAbove most v
  minimal_entry offsets minimal =
      huet_bound _ minimal
      (record {
        some = some;
        places = near_places most (λ x. count x L) (λ x. count x R) near (variables M L R);
        offsets = offsets;
      })

  -- .. so none of a balanced row, ..
  pub balanced_entry : {v : List ℕ} → BalancedRow M L R v → NoneAbove most v
  balanced_entry {v} row = minimal_entry (omega arith) ((balanced_row_is_minimal M L R v).0 row)

  -- .. and none of a row of a constant
  pub constant_entry : {c : ℕ} {v : List ℕ} → RowOf M L R c v → NoneAbove most v
  constant_entry {c} {v} row = minimal_entry (near c) ((row_of_constant_is_minimal M L R c v).0 row)

  -- So no value has more atoms than that number for each constant and for each balanced row.
  pub value_short : {G : Groups} → GroupsOf M L R G → (new : ℕ) (s : Selection) (x : ℕ)
      → length (value M new L R G s x) ≤ most * (length G.constants + length G.balanced)
  value_short {G} of new s x =
      let i = place_of x (variables M L R) in
      omega (
        arith,
        length-value_at i (taken_rows G.constants s.indexes) (taken_balanced new G.balanced s.takes),
        constants_short most i G.constants s.indexes
            (λ g of_g v m. constant_entry ((of.constant_rows g of_g).only v m) i),
        balanced_short most i new G.balanced s.takes (λ v m. balanced_entry (of.balanced_rows.only v m) i),
      )
