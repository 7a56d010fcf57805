-- How many candidates are weighed from a beginning up to a key: the difference of two ranks (document 02, R-8).
use Prim.Native.Nat.{ℕ, ◌-◌, ◌≤◌}
use native.Mathlib.Omega.{arith}
use native.Mathlib.Decide.{dec_le}
use mathlib.Core.Path.{◌≡◌, refl, sym, ap, ◌∙◌}
use mathlib.Core.List.Memᴰ
use mathlib.Core.List.{List, [], ◌∷◌, Memᴰ}
use lib.ListN.{length}
use Rattle.ac.specs.Pair.{Mode}
use Rattle.ac.specs.Keys.{layout, start, after}
use Rattle.ac.specs.Weighed.{candidates, weighed}
use Rattle.ac.proofs.Weighed.{weighed_on, weighed_nothing}
use Rattle.table.specs.Table.{TableOf, groups_in}
use Rattle.table.specs.Masks.{MasksOf, rows_to_take}
use Rattle.table.specs.declared.Table.{Table}
use Rattle.table.specs.declared.masks.Masks.{Masks}
use Rattle.list.specs.Ranks.{RankIn}
use Rattle.list.proofs.Table.{table_fits}
use Rattle.solver.specs.Steps.{WeighedUpto}

-- where a number is not above a key, it is not above the only one
not_above : {n key : ℕ} → n ≤ key → (k : ℕ) → Memᴰ k (key ∷ []) → n ≤ k
not_above le k (Memᴰ.head e) = omega arith
not_above le k (Memᴰ.tail m) = absurd (Memᴰ.not-nil m)

-- between two keys lie as many as are up to the one and not up to the other
between : (key last : ℕ) (cs : List ℕ)
    → weighed (after key) (last ∷ []) cs ≡ weighed start (last ∷ []) cs - weighed start (key ∷ []) cs
between key last cs = go (dec_le key last)
  where
    go : Dec (key ≤ last)
        → weighed (after key) (last ∷ []) cs ≡ weighed start (last ∷ []) cs - weighed start (key ∷ []) cs
    go (yes before) = omega (arith, weighed_on start key (last ∷ []) cs (omega arith) (not_above before))
    go (no beyond) =
        let le : last ≤ key = omega arith in
        omega (arith, weighed_on start last (key ∷ []) cs (omega arith) (not_above le), weighed_nothing cs le)

-- the rows that must be taken are those of the pair's mode
its_must : {t : Table} {m : Masks} → MasksOf t m → {M : Mode} {L R : List ℕ} → TableOf M L R t
    → m.must ≡ rows_to_take M.empties (length (groups_in t).balanced)
its_must {t} its of = its.the_must ∙ ap (λ b. rows_to_take b (length (groups_in t).balanced)) (sym of.whether_empty)

module _ {m : Masks} {last upto : ℕ} (rank_last : RankIn m.sizes m.unbalanced m.must last upto) where
  -- from the start it is the rank of the last
  pub weighed_from_start : WeighedUpto m start last upto
  weighed_from_start t its M L R of begins candidate =
      rank_last M (groups_in t) (its_must its of) its.sized (table_fits of.within) candidate

  -- after a key, the difference
  pub weighed_after : {key passed : ℕ} → RankIn m.sizes m.unbalanced m.must key passed
      → WeighedUpto m (after key) last (upto - passed)
  weighed_after {key} rank_key t its M L R of begins candidate =
      let fits = table_fits of.within in
      omega (
        arith,
        between key last (candidates M layout (groups_in t)),
        rank_last M (groups_in t) (its_must its of) its.sized fits candidate,
        rank_key M (groups_in t) (its_must its of) its.sized fits (begins key refl),
      )
