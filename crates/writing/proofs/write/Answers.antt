-- `writing::write` meets its contract: 16, then 7, 8 and 18, then the block. Assumes nothing.
use Rattle.std.proofs.Common.{arith, length-take}
use Rattle.writing.proofs.Sides.{Lengths, block_received}
use Rattle.writing.proofs.Settled.{left_7, right_7, not_7, left_8, right_8, not_8, left_18, right_18, not_18, lengths_within, short_promised, length_promised, byte_promised, side_promised, block_promised}
use Rattle.writing.proofs.write.Goals as goal
use Rattle.writing.proofs.write.Goals.{then-wrong_length-via-then-wrong_length, then-wrong_length-via-else-wrong_length+then-wrong_length-2, then-wrong_byte-via-then-wrong_byte, then-wrong_byte-via-else-wrong_byte+then-wrong_byte-2, then-holds_variable-via-then-holds_variable, then-holds_variable-via-else-holds_variable+then-holds_variable-2}

pub returns-then-block-lt512 : goal.returns-then-block-lt512
returns-then-block-lt512 c = short_promised (omega arith)

pub returns-then-wrong_length : goal.returns-then-wrong_length
returns-then-wrong_length c =
    length_promised (omega arith)
    (elim c.then-wrong_length.branch [
      | then-wrong_length-via-then-wrong_length w ↦ search left_7
      | then-wrong_length-via-else-wrong_length+then-wrong_length-2 w ↦ search right_7
    ])

pub returns-then-wrong_byte : goal.returns-then-wrong_byte
returns-then-wrong_byte c =
    byte_promised (omega arith) (search not_7)
    (elim c.then-wrong_byte.branch [
      | then-wrong_byte-via-then-wrong_byte w ↦ search left_8
      | then-wrong_byte-via-else-wrong_byte+then-wrong_byte-2 w ↦ search right_8
    ])

pub returns-then-holds_variable : goal.returns-then-holds_variable
returns-then-holds_variable c =
    side_promised (omega arith) (search not_7) (search not_8)
    (elim c.then-holds_variable.branch [
      | then-holds_variable-via-then-holds_variable w ↦ search left_18
      | then-holds_variable-via-else-holds_variable+then-holds_variable-2 w ↦ search right_18
    ])

pub write_block-requires : goal.write_block-requires
write_block-requires c =
    let sides : Lengths c.args.left.now c.args.right.now = lengths_within {block = c.args.block.now} (search not_7) in
    record {
      left_nonzero = (sides.left_some, sides.left_few);
      right_nonzero = (sides.right_some, sides.right_few);
      block_len = simp length-take (omega arith);
    }

pub returns : goal.returns
returns c =
    let sides : Lengths c.args.left.now c.args.right.now = lengths_within {block = c.args.block.now} (search not_7) in
    block_promised (omega arith) (search not_7) (search not_8) (search not_18)
    (block_received sides c.args.number c.args.block.now c.write_block.ensures)
