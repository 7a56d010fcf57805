-- Selections that take all balanced rows, the only ones where a variable may be empty (document 02, R-10): their masks are
-- the largest, each tuple of row indexes has one of them, and of the others none is on the list.
use Prim.Native.Nat.{ℕ, suc, ◌+◌, ◌-◌, ◌*◌, ◌%◌, ◌^◌, ◌≤◌}
use native.Mathlib.Omega.{arith}
use native.Mathlib.Nat.{pow-suc}
use native.Mathlib.Decide.{dec_le}
use mathlib.Core.Path.{◌≡◌, refl, sym, ap, subst, ◌∙◌}
use mathlib.Core.Bool.{Bool, true, false}
use mathlib.Core.List.Memᴰ
use mathlib.Core.List.{List, [], ◌∷◌, Memᴰ}
use borrow.Author.Tests.{le-leb, lt-leb}
use lib.Dec.{leb}
use lib.ListN.{length}
use Rattle.ac.specs.Lists.{filter}
use Rattle.ac.specs.Pair.{Mode, variables}
use Rattle.ac.specs.Rows.{Groups}
use Rattle.ac.specs.Selection.{taken, all_reached, all_taken, admissible}
use Rattle.ac.specs.Keys.{Layout, Fits, Candidate, mask, key_of, selection_at, selections, keys}
use Rattle.ac.specs.Weighed.{is_candidate, candidates}
use Rattle.ac.proofs.Order.{filter_member, member_filter}
use Rattle.ac.proofs.Members.{map_members, members_map}
use Rattle.ac.proofs.Keys.{mask_below, length-bits, key_low, packed, taken_apart, candidate_selection, selection_candidate}
use Rattle.ac.proofs.Listed.{selections_are}

-- all rows are taken exactly where the mask is the largest of its length
pub all_taken-mask : (ts : List Bool) → all_taken ts ≡ leb (2 ^ length ts - 1) (mask ts)
all_taken-mask [] = refl
all_taken-mask (true ∷ ts) =
    all_taken-mask ts ∙ go (dec_le (2 ^ length ts - 1) (mask ts))
  where
    go : Dec (2 ^ length ts - 1 ≤ mask ts)
        → leb (2 ^ length ts - 1) (mask ts) ≡ leb (2 ^ suc (length ts) - 1) (1 + 2 * mask ts)
    go (yes all) =
        le-leb (2 ^ length ts - 1) (mask ts) all
        ∙ sym (le-leb (2 ^ suc (length ts) - 1) (1 + 2 * mask ts) (omega (arith, pow-suc 2 (length ts))))
    go (no some) =
        lt-leb (2 ^ length ts - 1) (mask ts) (omega arith)
        ∙ sym (lt-leb (2 ^ suc (length ts) - 1) (1 + 2 * mask ts) (omega (arith, pow-suc 2 (length ts))))
all_taken-mask (false ∷ ts) =
    sym (lt-leb (2 ^ suc (length ts) - 1) (0 + 2 * mask ts)
    (omega (arith, pow-suc 2 (length ts), mask_below (length ts) ts refl)))

module _ {lay : Layout} {G : Groups} (fits : Fits lay G) {key : ℕ} (candidate : Candidate lay G key) where
  -- so it is of a candidate, by the low part of its key
  pub candidate_full : all_taken (selection_at lay G key).takes
      ≡ leb (2 ^ length G.balanced - 1) (key % 2 ^ lay.rows)
  candidate_full =
      all_taken-mask (selection_at lay G key).takes
      ∙ ap (λ (n : ℕ). leb (2 ^ n - 1) (mask (selection_at lay G key).takes)) (length-bits (length G.balanced) key)
      ∙ ap (leb (2 ^ length G.balanced - 1))
      (sym (key_low fits (candidate_selection fits candidate)) ∙ ap (λ (k : ℕ). k % 2 ^ lay.rows) (packed fits candidate))

-- in both modes what is admissible is a candidate
admitted : (b all reached : Bool) → elim b [ true ↦ all | false ↦ reached ] ≡ true
    → elim b [ true ↦ all | false ↦ true ] ≡ true
admitted true all reached e = e
admitted false all reached e = refl

module _ (M : Mode) (lay : Layout) (G : Groups) where
  -- a listed key is a candidate of the mode,
  pub listed_in : (L R : List ℕ) {key : ℕ} → Memᴰ key (keys M lay L R G) → Memᴰ key (candidates M lay G)
  listed_in L R m =
      let one = map_members (key_of lay) (filter (admissible M lay.new L R G) (selections G)) m in
      let of = filter_member (admissible M lay.new L R G) (selections G) one.1 in
      Memᴰ.cast one.2
      (members_map (key_of lay) (member_filter (is_candidate M) of.0
      (admitted M.empties (all_taken one.0.takes) (all_reached (taken lay.new G one.0) (length (variables M L R)))
      of.1)))

  -- and that is one of the groups
  pub candidate_in : Fits lay G → {key : ℕ} → Memᴰ key (candidates M lay G)
      → Candidate lay G key × (is_candidate M (selection_at lay G key) ≡ true)
  candidate_in fits m =
      let one = map_members (key_of lay) (filter (is_candidate M) (selections G)) m in
      let of = filter_member (is_candidate M) (selections G) one.1 in
      let selection = (selections_are G).0 of.0 in (
        subst (Candidate lay G) (sym one.2) (selection_candidate fits selection),
        ap (is_candidate M) (ap (selection_at lay G) one.2 ∙ taken_apart fits selection) ∙ of.1,
      )
