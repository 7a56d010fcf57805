-- The whole walk: where it starts, with budgets that are enough, and what it has found at the end.
use Prim.Native.Nat.{ℕ, ◌≤◌}
use native.Mathlib.Omega.{arith}
use native.Mathlib.Nat.{le_trans}
use mathlib.Core.Path.{◌≡◌, refl, sym, ap, subst, ◌∙◌}
use mathlib.Core.Bool.{not}
use mathlib.Core.List.Memᴰ
use mathlib.Core.List.{List, [], ◌∷◌, Memᴰ}
use lib.ListN.{length}
use borrow.Author.Tests.{not-false}
use Rattle.ac.specs.Lists.{Ascending, Ascending.none, Ascending.next}
use Rattle.std.specs.Prelude.{Option, Some, None}
use Rattle.ac.specs.Rows.{◌≺◌, Exactly}
use Rattle.ac.specs.Equation.{Equation}
use Rattle.ac.specs.Search.{minimal_solutions}
use Rattle.ac.proofs.Vectors.{exactly_same}
use Rattle.ac.proofs.Order.{≺_asymmetric}
use Rattle.ac.proofs.Bound.{lambert_bound}
use Rattle.ac.proofs.Search.{minimal_solutions_exact}
use Rattle.equation.specs.Found.{Finds, Finds.few, Finds.more}
use Rattle.equation.specs.declared.FoundRows.{FoundRows}
use Rattle.equation.specs.declared.standing.Standing.{Standing}
use Rattle.equation.specs.Kept.{HoldsRows, Upto.begins, RowBefore, RowUpto}
use Rattle.equation.specs.Places.{Stands}
use Rattle.equation.specs.Walk.{Starts}
use Rattle.equation.proofs.Prefix.{nothing_before}

-- before the first place, with the offsets as the sums so far
pub stands_start : {E : Equation} {standing : Standing} → length E.left ≡ length E.right
    → Starts E standing → Stands E [] E.left E.right standing
stands_start {E} level starts =
    record {
      level = level;
      places = omega arith;
      solves = λ rest long. (
        λ solves. (
          omega (arith, solves.equal, starts.left_sum, starts.right_sum),
          λ zero. solves.not_all_zero (not-false E.homogeneous (sym starts.counts ∙ zero)),
        ),
        λ h.
            record {
              equal = omega (arith, h.0, starts.left_sum, starts.right_sum);
              not_all_zero = λ t. h.1 (starts.counts ∙ ap not t);
            },
      );
      within_up = λ rest minimal. (lambert_bound E minimal starts.enough).0;
      within_down = λ rest minimal. (lambert_bound E minimal starts.enough).1;
    }

-- before the first place nothing has to be found
pub holds_start : (E : Equation) → Exactly (RowBefore E []) []
holds_start E =
    record {
      ascending = none;
      only = λ v m. absurd (Memᴰ.not-nil m);
      all = λ v b. absurd (nothing_before b.1);
    }

-- Ascending vectors that all stand in another ascending list are no more than those of that list.

later_member : {A : Type 0} {a b : A} {xs : List A} → (a ≡ b → ⊥) → Memᴰ a (b ∷ xs) → Memᴰ a xs
later_member different (Memᴰ.head e) = absurd (different e)
later_member different (Memᴰ.tail m) = m

different : {u v : List ℕ} → u ≺ v → v ≡ u → ⊥
different {u} before same = let itself : u ≺ u = subst (λ w. u ≺ w) same before in ≺_asymmetric itself itself

ascending_within : {xs ys : List (List ℕ)} → Ascending ◌≺◌ xs → Ascending ◌≺◌ ys
    → ((v : List ℕ) → Memᴰ v xs → Memᴰ v ys) → length xs ≤ length ys
ascending_within none ascending within = omega arith
ascending_within (next {a = a} after ascending) none within =
    absurd (Memᴰ.not-nil (within a (Memᴰ.head refl)))
ascending_within (next {a = a} {rest = xs} after_a ascending_a) (next {a = b} {rest = ys} after_b ascending_b)
    within =
    by_first (λ others. ascending_within ascending_a ascending_b others) (within a (Memᴰ.head refl))
  where
    by_first : (((v : List ℕ) → Memᴰ v xs → Memᴰ v ys) → length xs ≤ length ys)
        → Memᴰ a (b ∷ ys) → length (a ∷ xs) ≤ length (b ∷ ys)
    by_first rests (Memᴰ.head same) =
        omega (
          arith,
          rests (λ v m. later_member (λ e. different (after_a v m) (e ∙ sym same))
              (within v (Memᴰ.tail m))),
        )
    by_first rests (Memᴰ.tail m) =
        omega (
          arith,
          rests (λ v m'. later_member
              (λ e. ≺_asymmetric (after_a v m') (subst (λ w. w ≺ a) (sym e) (after_b a m)))
              (within v (Memᴰ.tail m'))),
        )

-- what is found where the bytes hold so many rows, or more than the limit
abbrev pub found_rows : List ℕ → Option ℕ → Option FoundRows
found_rows bytes (Some n) = Some (record { rows = bytes; number = n })
found_rows bytes None = None

-- at the end all rows are found, or more than the limit
pub finds_all : (E : Equation) (limit : ℕ) (bytes : List ℕ) (n : Option ℕ)
    → HoldsRows limit (length E.left) (RowUpto E []) bytes n → Finds limit E (found_rows bytes n)
finds_all E limit bytes (Some n) held =
    few {found = record { rows = bytes; number = n }} held.0
    (exactly_same (λ v. (λ u. u.0, λ minimal. (minimal, begins))) held.1)
finds_all E limit bytes None held =
    let exact = minimal_solutions_exact E in
    more {rows = minimal_solutions E} exact
    (le_trans held.many (ascending_within held.ascending exact.ascending (λ v m. exact.all v (held.only v m).0)))
