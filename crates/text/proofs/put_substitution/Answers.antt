-- `text::put_substitution` meets its contract: the first binding, and the others behind it. Assumes nothing.
use Rattle.std.proofs.Common.{rules}
use Prim.Native.Nat.{ℕ, ◌<◌}
use mathlib.Core.List.{List}
use mathlib.Core.Path.{◌∙◌, ap, sym}
use lib.ListN.{length}
use Rattle.text.specs.Text.{bound, binding_of}
use native.Mathlib.Omega.{arith}
use Rattle.buffer.proofs.Puts.{puts_as, put-length}
use Rattle.text.proofs.Bindings.{substitution_first}
use Rattle.text.proofs.put_substitution.Goals as goal

pub returns-clause-put : goal.returns-clause-put
returns-clause-put c bs e =
    let some : 0 < length c.args.values.now = search rules in
    substitution_first bs some c.binding_length.ensures e
    (puts_as (ap (λ (bytes : List ℕ). bound (binding_of bytes)) c.split_at.ensures.front) c.put_bound.ensures.put)
    (λ others rest. c.put_spaced.ensures.put others (rest ∙ sym c.split_at.ensures.back))

pub put_spaced-requires : goal.put_spaced-requires
put_spaced-requires c =
    omega (
      arith,
      c.put_bound.ensures.upper_bound,
      put-length c.put_bound.ensures.put.put,
      c.split_at.ensures.back_len,
      c.split_at.ensures.front_len,
    )

pub returns-clause-at_most : goal.returns-clause-at_most
returns-clause-at_most c =
    record {
      within =
          omega (
            arith,
            c.put_spaced.ensures.at_most.within,
            c.put_bound.ensures.upper_bound,
            c.split_at.ensures.back_len,
            c.split_at.ensures.front_len,
          );
      long = c.put_spaced.ensures.at_most.long ∙ put-length c.put_bound.ensures.put.put;
      same = c.put_spaced.ensures.at_most.same ∙ c.put_bound.ensures.put.same;
    }
