-- `library::Reader::missed` meets its contract. Assumes nothing.
use Rattle.std.proofs.Common.{sym, subst, inl, inr, to_z-of_z}
use Rattle.library.specs.Reading.{told, Misses}
use Rattle.library.specs.declared.Input.TheVariants as input
use Rattle.library.proofs.Taking.{interrupted-bits, misses-told}
use Rattle.library.proofs.Reader.missed.Goals as goal
use Rattle.library.proofs.Reader.missed.Goals.{else-error-eq-INTERRUPTED-via-then-error-eq-INTERRUPTED+else-self-gt0, else-error-eq-INTERRUPTED-via-else-error-eq-INTERRUPTED}

pub returns-then-self-gt0 : goal.returns-then-self-gt0
returns-then-self-gt0 c =
    Misses.tried_again (interrupted-bits c.ranges.error c.if-error-eq-INTERRUPTED.true) c.if-self-gt0.true

pub returns : goal.returns
returns c =
    let r = c.args.self in
    let error = c.args.error in
    subst (λ e. Misses r error (told (input.Failed e) r)) (sym (to_z-of_z c.ranges.error))
    (misses-told c.ranges.error
    (elim c.else-error-eq-INTERRUPTED.branch [
      | else-error-eq-INTERRUPTED-via-then-error-eq-INTERRUPTED+else-self-gt0 w ↦
          inl (w.if-error-eq-INTERRUPTED.true, w.if-self-gt0.false)
      | else-error-eq-INTERRUPTED-via-else-error-eq-INTERRUPTED w ↦ inr w.if-error-eq-INTERRUPTED.false
    ]))
