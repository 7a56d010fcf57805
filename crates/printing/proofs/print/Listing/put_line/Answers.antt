-- `printing::print::Listing::put_line` meets its contract: each kind of line has its own numbers. Assumes nothing.
use Prim.Native.Nat.{◌≤◌}
use native.Mathlib.Omega.{arith}
use Rattle.printing.specs.Printed.{key_count}
use Rattle.printing.proofs.Numbered.{line_put}
use Rattle.printing.proofs.print.Listing.put_line.Goals as goal

pub returns-then-number-key_count-clause-put : goal.returns-then-number-key_count-clause-put
returns-then-number-key_count-clause-put c = λ way L R prints.
    let n = c.args.number in
    let within : n ≤ key_count c.args.self.now.line = omega (arith, c.if-number-key_count.true, c.key_count.ensures) in
    line_put prints n c.if-number-eq0.false within c.unwrap.ensures c.put_key.ensures.key_put
