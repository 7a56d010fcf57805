-- `table::masks::mask_where` meets its contract. The invariant: the numbers before this one are marked where they pass.
use Prim.Native.Nat.{ℕ}
use native.Mathlib.Omega.{arith}
use mathlib.Core.Path.{sym, subst, ◌∙◌}
use Rattle.table.specs.Masks.{MarkedTo}
use Rattle.table.proofs.Bits.{marked_in, marked_out}
use Rattle.table.proofs.masks.mask_where.Goals.{then-passes, else-passes}
use Rattle.table.proofs.masks.mask_where.Goals as goal

pub loop-i-preserved : goal.loop-i-preserved
loop-i-preserved g c test tests =
    let marked = c.loop-i.invariant test tests in
    let told = tests c.loop-i.i c.passes.result (omega arith) c.passes.ensures in
    elim c.if-passes.branch [
      | then-passes w ↦ subst (MarkedTo test _) (sym w.mask-is)
          (marked_in marked (omega arith) (sym told ∙ w.if-passes.true))
      | else-passes w ↦ subst (MarkedTo test _) (sym w.mask-is) (marked_out marked (sym told ∙ w.if-passes.false))
    ]

pub returns : goal.returns
returns g c test tests =
    subst (λ (end : ℕ). MarkedTo test end c.loop-i.mask) (omega arith) (c.loop-i.invariant test tests)
