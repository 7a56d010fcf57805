-- `block::read` meets its contract: 16, then 1, then what the header settles, then what the terms do. Assumes
-- nothing.
use Rattle.std.proofs.Common.{arith}
use Rattle.std.proofs.lemmas.Result.{err_from_is_err_and}
use Rattle.block.proofs.Settled.{short_buffer_first, block_length_first, promised_refusal}
use Rattle.block.proofs.Parts.{terms_fit}
use Rattle.block.proofs.read.Goals as goal

pub returns-then-room-lt64 : goal.returns-then-room-lt64
returns-then-room-lt64 c = short_buffer_first (omega arith)

pub returns-then-block-ne512 : goal.returns-then-block-ne512
returns-then-block-ne512 c = promised_refusal (omega arith) (omega arith) (block_length_first c.if-block-ne512.true)

pub returns-in_err-lengths : goal.returns-in_err-lengths
returns-in_err-lengths c =
    let p = err_from_is_err_and c.from_residual.result c.from_residual.ensures.1 in
    rw (p.1, p.2) (promised_refusal (omega arith) (omega arith) c.in_err-lengths.ensures)

pub read_terms-requires : goal.read_terms-requires
read_terms-requires c = record { block_len = terms_fit c.in_ok-lengths.ensures; in_bounds = omega arith }

pub returns : goal.returns
returns c = c.read_terms.ensures c.args.number c.in_ok-lengths.ensures
