-- When number 12 is given: a group that has more rows than the limit, of any pair's groups.
use Prim.Native.Nat.{ℕ, zero, suc, ◌≤◌, ◌<◌}
use native.Mathlib.Omega.{arith}
use mathlib.Core.Path.{subst}
use mathlib.Core.List.Memᴰ
use mathlib.Core.List.{List, map, Memᴰ}
use lib.ListN.{length, get_or}
use Rattle.ac.specs.Pair.{Mode, unbalanced}
use Rattle.ac.specs.Rows.{GroupsOf}
use Rattle.ac.specs.Search.{group_of, groups}
use Rattle.ac.proofs.Places.{get_or_member}
use Rattle.ac.proofs.Order.{exactly_unique}
use Rattle.ac.proofs.Groups.{groups_exist, groups_unique}
use Rattle.ac.specs.Limits.{limits}
use Rattle.pair.specs.Given.{ManyRows, ManyRows.balanced, ManyRows.of_a_constant, PairGiven, many_rows}
use Rattle.table.specs.Table.{most_rows, groups_in, InRoom}
use Rattle.table.specs.declared.Table.{Table}
use Rattle.table.proofs.TableGroups.{length_group_at, few_rows}
use Rattle.table.specs.Groups.{RowIn, More}

-- a table has room for no more rows than the limit
within_limit : {t : Table} → InRoom t → ManyRows limits (groups_in t) → ⊥
within_limit {t} within (balanced above) = omega (arith, length_group_at t 0, within.sizes_fit 0)
within_limit {t} within (of_a_constant member above) = omega (arith, above, few_rows within member)

module _ {M : Mode} {L R : List ℕ} where
  -- a group that is found to have more rows
  pub twelve_given : (g : ℕ) → g ≤ length (unbalanced M L R) → More (most_rows g) (RowIn M L R g) → PairGiven limits M L R 12
  twelve_given zero within m =
      many_rows exist (balanced (subst (λ rows. limits.balanced_rows < length rows)
      (exactly_unique m.exactly exist.balanced_rows) m.above))
    where
      exist : GroupsOf M L R (groups M L R)
      exist = groups_exist M L R
  twelve_given (suc g) within m =
      many_rows exist
      (of_a_constant member
      (subst (λ rows. limits.constant_rows < length rows) (exactly_unique m.exactly
      (exist.constant_rows (group_of M L R c) member)) m.above))
    where
      exist : GroupsOf M L R (groups M L R)
      exist = groups_exist M L R

      c : ℕ
      c = get_or (unbalanced M L R) g 0

      member : Memᴰ (group_of M L R c) (map (group_of M L R) (unbalanced M L R))
      member = Memᴰ.map (group_of M L R) (get_or_member (unbalanced M L R) g 0 within)

  -- where a table holds the pair's groups, 12 is not given
  pub twelve_not_given : {t : Table} → InRoom t → GroupsOf M L R (groups_in t) → PairGiven limits M L R 12 → ⊥
  twelve_not_given {t} within of (many_rows {G} others many) =
      within_limit within (subst (ManyRows limits) (groups_unique M L R others of) many)
