-- `block::header::read_header` meets its contract: each refusal is the first number that the block gives.
-- Assumes nothing.
use Rattle.std.proofs.Common.{◌≡◌, ◌⊎◌, inl, inr, arith}
use Rattle.block.specs.Block.{block_number, check, check_of_bytes, left_length, right_length}
use Rattle.block.specs.Table.{NoLength}
use Rattle.block.proofs.Settled.{no_length, check_first, block_number_first, term_length_first}
use Rattle.block.proofs.header.read_header.Goals as goal
use Rattle.block.proofs.header.read_header.Goals.{then-not-is_term_length-via-then-not-is_term_length, then-not-is_term_length-via-else-not-is_term_length+then-not-is_term_length-2}

pub returns-then-from_be_bytes-check_of : goal.returns-then-from_be_bytes-check_of
returns-then-from_be_bytes-check_of c =
    check_first c.requires (λ same. c.if-from_be_bytes-check_of.true (omega (arith, same, c.from_be_bytes.ensures, c.check_of.ensures)))

pub returns-then-from_be_bytes-number : goal.returns-then-from_be_bytes-number
returns-then-from_be_bytes-number c =
    let block = c.args.block.now in
    let checked : check block ≡ check_of_bytes block =
    omega (arith, c.from_be_bytes.ensures, c.check_of.ensures) in
    block_number_first c.requires checked (λ same. c.if-from_be_bytes-number.true (omega (arith, same, c.from_be_bytes-2.ensures)))

pub returns-then-not-is_term_length : goal.returns-then-not-is_term_length
returns-then-not-is_term_length c =
    let block = c.args.block.now in
    let checked : check block ≡ check_of_bytes block =
    omega (arith, c.from_be_bytes.ensures, c.check_of.ensures) in
    let numbered : block_number block ≡ c.args.number = omega (arith, c.from_be_bytes-2.ensures) in
    let wrong : NoLength (left_length block) ⊎ NoLength (right_length block) =
    elim c.then-not-is_term_length.branch [
      | then-not-is_term_length-via-then-not-is_term_length w ↦ inl (no_length w.if-not-is_term_length.ensures)
      | then-not-is_term_length-via-else-not-is_term_length+then-not-is_term_length-2 w ↦ inr (no_length w.if-not-is_term_length-2.ensures)
    ] in
    term_length_first c.requires checked numbered wrong
