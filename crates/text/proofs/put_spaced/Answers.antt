-- `text::put_spaced` meets its contract: before each turn the bindings before the rest have been put. Assumes
-- nothing.
use Rattle.std.proofs.Common.{rules}
use Prim.Native.Nat.{ℕ, ◌+◌, ◌*◌, ◌<◌, ◌≤◌}
use native.Mathlib.Omega.{arith}
use mathlib.Core.Path.{◌∙◌, ap, sym, subst}
use mathlib.Core.List.{List, ◌∷◌}
use lib.ListN.{length}
use Rattle.text.specs.Text.{bound, binding_of}
use Rattle.buffer.proofs.Puts.{puts_then, puts_as, put-length}
use Rattle.text.proofs.Bindings.{Told, told_next, told_all}
use Rattle.text.proofs.put_spaced.Goals as goal

pub loop-rest-preserved : goal.loop-rest-preserved
loop-rest-preserved c =
    let l = c.loop-rest in
    let some : 0 < length l.rest.now = search rules in
    let front = c.split_at.ensures.front in
    let put = puts_then c.put_byte.ensures c.put_bound.ensures.put in
    let shorter : c.put_bound.new.out.end + 6 * length c.split_at.result.1.now ≤ c.args.out.now.end + 6 * length c.args.values.now =
    omega (
      arith,
      c.put_byte.ensures.put.place,
      c.put_bound.ensures.upper_bound,
      c.split_at.ensures.back_len,
      c.split_at.ensures.front_len,
    ) in (
      shorter,
      record {
        within = omega arith;
        long = put-length put.put ∙ l.invariant.1.long;
        same = put.same ∙ l.invariant.1.same;
      },
      λ bs e. subst (λ (others : List ℕ). Told bs c.args.out.now others c.put_bound.new.out)
          (sym c.split_at.ensures.back)
          (told_next some c.binding_length.ensures (puts_as (ap (λ (bytes : List ℕ). 32 ∷ bound (binding_of bytes)) front) put)
          (l.invariant.2 bs e)),
    )

pub returns-clause-put : goal.returns-clause-put
returns-clause-put c bs e = told_all (search rules) (c.loop-rest.invariant.2 bs e)
