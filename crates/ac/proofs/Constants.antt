-- The constants of a pair's groups, and what their taken rows add up to: each constant has its own row only,
-- and none is a new variable.
use Prim.Native.Nat.{ℕ, ◌<◌, ◌≤◌}
use mathlib.Core.Path.{◌≡◌, sym, ap, subst}
use mathlib.Core.List.{List, [], ◌∷◌, map, Memᴰ}
use native.Mathlib.Omega.{arith}
use lib.ListN.{get_or}
use Rattle.ac.specs.Lists.{Ascending}
use Rattle.ac.specs.Pair.{Mode, same, unbalanced}
use Rattle.ac.specs.Rows.{Group, Groups, GroupsOf}
use Rattle.ac.specs.Selection.{Within, none, index, Taken, taken_rows}
use Rattle.ac.specs.Replacement.{Replacement}
use Rattle.ac.proofs.Counts.{same_self, same_other}
use Rattle.ac.proofs.Taken.{total, total_agrees, total_zero, filled_count, filled_count_other}
use Rattle.ac.proofs.Replaced.{unbalanced_ascending, unbalanced_cases}

-- the constants of the groups
abbrev pub constants_of : List Group → List ℕ
constants_of gs = map (λ (g : Group). g.constant) gs

-- the constant of a group is one of them
pub constant_member : {g : Group} {gs : List Group} → Memᴰ g gs → Memᴰ g.constant (constants_of gs)
constant_member (Memᴰ.head e) = Memᴰ.head (ap (λ (h : Group). h.constant) e)
constant_member (Memᴰ.tail m) = Memᴰ.tail (constant_member m)

-- the atoms of the constants' taken rows are the constants
pub taken_rows-atoms : {gs : List Group} {is : List ℕ} → Within gs is → (t : Taken) → Memᴰ t (taken_rows gs is)
    → Memᴰ t.atom (constants_of gs)
taken_rows-atoms (index h within) t (Memᴰ.head e) = Memᴰ.head (ap (λ (u : Taken). u.atom) e)
taken_rows-atoms none t x4 = elim x4 [ ]
taken_rows-atoms (index h within) t (Memᴰ.tail m) = Memᴰ.tail (taken_rows-atoms within t m)

-- an atom that is none of the constants has nothing from their rows
pub taken_rows_none : {gs : List Group} {is : List ℕ} → Within gs is → (b i : ℕ) → (Memᴰ b (constants_of gs) → ⊥)
    → total i (same b) (taken_rows gs is) ≡ 0
taken_rows_none {gs} {is} within b i absent =
    total_zero i (same b) (taken_rows gs is)
    (λ t m. same_other b t.atom
    (λ (e : b ≡ t.atom). absent (subst (λ (a : ℕ). Memᴰ a (constants_of gs)) (sym e)
    (taken_rows-atoms within t m))))

-- a constant has its own row, and nothing from the others
pub taken_rows_first : (g : Group) {gs : List Group} {is : List ℕ} → Within gs is
    → (Memᴰ g.constant (constants_of gs) → ⊥) → (k c : ℕ)
    → c ≡ g.constant → (i : ℕ) → total i (same c) (taken_rows (g ∷ gs) (k ∷ is)) ≡ get_or (get_or g.rows k []) i 0
taken_rows_first g {gs} within absent k c e i =
    rw (same_self c g.constant e)
    (omega (
      arith,
      taken_rows_none within c i
          (λ (m : Memᴰ c (constants_of gs)). absent (subst (λ (a : ℕ). Memᴰ a (constants_of gs)) e m)),
    ))

-- any other atom has nothing from the first row
pub taken_rows_later : (g : Group) (gs : List Group) (is : List ℕ) (k c : ℕ) → (c ≡ g.constant → ⊥)
    → (i : ℕ) → total i (same c) (taken_rows (g ∷ gs) (k ∷ is)) ≡ total i (same c) (taken_rows gs is)
taken_rows_later g gs is k c differs i = rw (same_other c g.constant differs) (omega arith)

-- the constants of a pair's groups are its unbalanced constants
module _ (M : Mode) (L R : List ℕ) {G : Groups} (groups : GroupsOf M L R G) where
  -- they ascend
  pub constants_ascending : Ascending ◌<◌ (constants_of G.constants)
  constants_ascending = subst (Ascending ◌<◌) (sym groups.the_constants) (unbalanced_ascending M L R)

  -- each of them is an unbalanced constant
  pub constant_unbalanced : (c : ℕ) → Memᴰ c (constants_of G.constants) → Memᴰ c (unbalanced M L R)
  constant_unbalanced c m = subst (λ (cs : List ℕ). Memᴰ c cs) groups.the_constants m

  -- and each unbalanced constant is one of them
  pub unbalanced_constant : (c : ℕ) → Memᴰ c (unbalanced M L R) → Memᴰ c (constants_of G.constants)
  unbalanced_constant c m = subst (λ (cs : List ℕ). Memᴰ c cs) (sym groups.the_constants) m

  module _ (new : ℕ) (above : 128 ≤ new) where
    -- no constant is a new variable
    pub constant_old : (c : ℕ) → Memᴰ c (constants_of G.constants) → c < new
    constant_old c m = omega (arith, (unbalanced_cases M L R c (constant_unbalanced c m)).0)

    -- filling the new variables leaves the constants' rows as they are
    pub taken_rows_stay : {is : List ℕ} → Within G.constants is → (fill : Replacement) (b i : ℕ)
        → total i (filled_count new fill b) (taken_rows G.constants is)
        ≡ total i (same b) (taken_rows G.constants is)
    taken_rows_stay {is} within fill b i =
        total_agrees
        i
        (filled_count new fill b)
        (same b)
        (taken_rows G.constants is)
        (λ t m. filled_count_other new fill b t.atom (constant_old t.atom (taken_rows-atoms within t m)))
