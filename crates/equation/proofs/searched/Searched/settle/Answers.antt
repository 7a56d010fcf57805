-- `equation::searched::Searched::settle` meets its contract: after the last place a vector solves the equation exactly if the
-- sums are equal and it counts. Assumes nothing.
use Prim.Native.Nat.{ℕ, ◌+◌, ◌≤◌, ◌<◌}
use native.Mathlib.Omega.{arith}
use mathlib.Core.Path.{◌≡◌, refl, sym, subst, ◌∙◌}
use mathlib.Core.Bool.{true, false, true≢false}
use mathlib.Core.List.{List, [], ◌∷◌, append-nil}
use lib.ListN.{length}
use borrow.Author.Tests.{not-true, not-false}
use Rattle.std.specs.Prelude.{Option, Some}
use Rattle.ac.specs.Lists.{sum}
use Rattle.ac.specs.Equation.{Solves}
use Rattle.equation.specs.declared.standing.Standing.{Standing}
use Rattle.equation.specs.Kept.{Keeps}
use Rattle.equation.specs.Walk.{Settles}
use Rattle.equation.proofs.Held.{skip}
use Rattle.equation.proofs.Places.{rest_places}
use Rattle.equation.proofs.searched.Searched.settle.Goals.{then-at-via-then-at, then-at-via-else-at+then-not-at}
use Rattle.equation.proofs.searched.Searched.settle.Goals as goal

module _ {limit n : ℕ} {v bytes : List ℕ} {at : Standing} (fits : n ≤ limit) where
  settles-unequal : (at.left ≡ at.right → ⊥) → Settles limit v at bytes n bytes (Some n)
  settles-unequal unequal =
      record {
        counted = fits;
        found = λ E s held. (
          fits,
          skip v (λ rest minimal. unequal
              (omega (arith, ((s.solves rest (rest_places s rest minimal)).0 minimal.least.has).0))) held,
        );
      }

  settles-zero : at.counts ≡ false → Settles limit v at bytes n bytes (Some n)
  settles-zero zero =
      record {
        counted = fits;
        found = λ E s held. (
          fits,
          skip v (λ rest minimal. none rest (rest_places s rest minimal)
              (((s.solves rest (rest_places s rest minimal)).0 minimal.least.has).1 zero)) held,
        );
      }
    where
      none : (rest : List ℕ) → length rest ≡ 0 → 0 < sum rest → ⊥
      none [] empty positive = omega arith
      none (x ∷ rest) empty positive = omega arith

settles-kept : {limit n : ℕ} {n' : Option ℕ} {v bytes bytes' : List ℕ} {at : Standing} → at.left ≡ at.right
    → at.counts ≡ true → Keeps limit v bytes n bytes' n'
    → Settles limit v at bytes n bytes' n'
settles-kept {v = v} {at = at} equal counts kept =
    record {
      counted = kept.counted;
      found = λ E s. kept.found E (omega (arith, s.places))
          (let ends : 0 + at.left ≡ 0 + at.right = omega arith in
          subst (Solves E) (append-nil v) ((s.solves [] refl).1
          (ends, λ zero. absurd (true≢false (sym counts ∙ zero)))));
    }

pub returns-then-at : goal.returns-then-at
returns-then-at c =
    elim c.then-at.branch [
      | then-at-via-then-at w ↦ settles-unequal c.requires.0 w.if-at.true
      | then-at-via-else-at+then-not-at w ↦ settles-zero c.requires.0 (not-true c.args.at.counts w.if-not-at.true)
    ]

pub returns : goal.returns
returns c =
    settles-kept c.if-at.false (not-false c.args.at.counts c.if-not-at.false)
    c.keep.ensures
