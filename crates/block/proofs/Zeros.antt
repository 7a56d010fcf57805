-- "A block of zeros fails it" (document 01, "A library block").
use Rattle.std.proofs.Common.{◌≡◌, ℕ, ◌≤◌, List, length, replicate, refl, arith}
use Rattle.numbers.specs.First.{First, here, later}
use Rattle.block.specs.Block.{check, check_of_bytes}
use Rattle.block.specs.Table.{ReadGiven, check_differs}
use Rattle.numbers.specs.Order.{read_numbers}
use Rattle.block.proofs.Settled.{not_1, not_16}

-- a block of zeros
abbrev zeros : List ℕ
zeros = replicate 512 0

-- the check of 510 zeros is 65,535
zeros_differ : check zeros ≡ check_of_bytes zeros → ⊥
zeros_differ e = let z : ◌≡◌ {A = ℕ} 0 65535 = e in omega arith

-- Whatever number is expected, a block of zeros is refused with 2.
pub zeros_fail : (number : ℕ) {left right : List ℕ} → 64 ≤ length left → 64 ≤ length right
    → First (ReadGiven zeros number left right) read_numbers 2
zeros_fail number left_fits right_fits =
    later (not_16 left_fits right_fits) (later (not_1 refl) (here (check_differs zeros_differ)))
