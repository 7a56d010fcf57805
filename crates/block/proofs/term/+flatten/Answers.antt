-- The proof of the recursion `flatten`. The measure is the bytes left. Assumes nothing.
use Rattle.std.proofs.Common.{◌≡◌, ◌+◌, length, drop, ap, ◌∙◌, arith, length-drop}
use borrow.Author.Rules.{part_to_end}
use Rattle.block.proofs.Flattens.{atom_may_be_written, first_byte, atom_found, plus_first, first_nothing, left_for_second, room_for_second, second_nothing, found_both}
use Rattle.block.proofs.term.+flatten.Goals as goal

pub returns-in-Variable : goal.returns-in-Variable
returns-in-Variable t c =
    atom_found (first_byte c.in_ok-byte.ensures.value)
    (atom_may_be_written c.classify.ensures c.in-Variable.is)
    (omega arith)

pub returns-in_err-first-in-Plus : goal.returns-in_err-first-in-Plus
returns-in_err-first-in-Plus t c =
    let none = rw part_to_end at c.in_err-first-in-Plus.ensures in
    rw c.from_residual-in_err-first-in-Plus.ensures
    (first_nothing (plus_first c.in_ok-byte.ensures.value c.in-Plus.ensures) none)

-- fewer bytes are left for the second term, and room enough for its atoms
pub flatten-requires-in-Plus : goal.flatten-requires-in-Plus
flatten-requires-in-Plus t c =
    let bytes = c.args.bytes.now in
    let first = rw part_to_end at c.in_ok-first-in-Plus.ensures in
    let left : length bytes ≡ 1 + length (drop 1 bytes) =
    ap length (first_byte c.in_ok-byte.ensures.value) ∙ omega arith in
    rw (left_for_second, part_to_end) (
      omega (arith, left, length-drop c.in_ok-first-in-Plus.first.bytes (drop 1 bytes)),
      room_for_second first (omega (arith, left)) c.flatten.auto.buffer,
    )

pub returns-in_err-second-in-Plus : goal.returns-in_err-second-in-Plus
returns-in_err-second-in-Plus t c =
    let first = rw part_to_end at c.in_ok-first-in-Plus.ensures in
    let none = rw left_for_second at c.in_err-second-in-Plus.ensures in
    rw c.from_residual-in_err-second-in-Plus.ensures
    (second_nothing first (plus_first c.in_ok-byte.ensures.value c.in-Plus.ensures) none)

pub returns-in_ok-second-in-Plus : goal.returns-in_ok-second-in-Plus
returns-in_ok-second-in-Plus t c =
    let first = rw part_to_end at c.in_ok-first-in-Plus.ensures in
    let second = rw (left_for_second, part_to_end) at c.in_ok-second-in-Plus.ensures in
    found_both first second (plus_first c.in_ok-byte.ensures.value c.in-Plus.ensures)
