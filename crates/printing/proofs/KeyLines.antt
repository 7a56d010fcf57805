-- Laws of a key's line: what the values that were written say.
use Prim.Native.Nat.{ℕ}
use mathlib.Core.Path.{◌≡◌, sym, ap₂, ◌∙◌}
use mathlib.Core.List.{List}
use lib.ListN.{length, take, drop}
use lib.Seq.{take-append_seam}
use Rattle.solver.specs.Steps.{WritesValues}

-- the bytes up to the length that was told are the values
pub written_values : {n : ℕ} {values out after : List ℕ} → WritesValues values out n after → values ≡ take n after
written_values {values = values} {out = out} written =
    sym (take-append_seam values (drop (length values) out))
    ∙ ap₂ (λ k b. take k b) (sym written.the_length) (sym written.the_buffer)
