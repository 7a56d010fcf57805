-- `table::choices::choices_of` meets its contract. The invariant: from this number on the sets are complete.
use Prim.Native.Nat.{ℕ, ◌+◌, ◌-◌}
use native.Mathlib.Omega.{arith}
use mathlib.Core.Path.{refl, ◌∙◌}
use mathlib.Core.List.{List, [], ◌∷◌}
use lib.ListN.{length-set}
use Rattle.table.specs.Choices.{Complete}
use Rattle.table.proofs.Sets.{complete_last, complete_start, complete_more}
use Rattle.table.proofs.choices.choices_of.Goals as goal

pub loop-g-init : goal.loop-g-init
loop-g-init c =
    let a = c.args in
    let zeros : List ℕ = 0 ∷ 0 ∷ 0 ∷ 0 ∷ 0 ∷ [] in (
      length-set zeros a.unbalanced 1,
      complete_start (Complete a.reaching.now a.sizes.now a.unbalanced a.largest) zeros a.unbalanced 1
          (omega (arith, c.requires.0)) (complete_last a.reaching.now a.sizes.now a.unbalanced c.requires.2),
    )

pub loop-g-preserved : goal.loop-g-preserved
loop-g-preserved c =
    let a = c.args in
    let at = c.loop-g in (
      length-set at.choices (at.g - 1) c.with_constant.result ∙ at.invariant.0,
      complete_more (Complete a.reaching.now a.sizes.now a.unbalanced a.largest) at.choices at.g
          c.with_constant.result a.unbalanced (omega arith) (omega arith) at.invariant.1
          (c.with_constant.ensures a.sizes.now a.unbalanced (omega arith)
          refl (at.invariant.1 (at.g - 1 + 1) (omega arith) (omega arith))),
    )

pub returns : goal.returns
returns c = λ g h. c.loop-g.invariant.1 g (omega arith) h
