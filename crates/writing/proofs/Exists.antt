-- For all sides, every number and every buffer something meets Write's promise.
use Rattle.std.proofs.Common.{ℕ, refl, ⊎_elim, List, length}
use native.Mathlib.Decide.{dec_le, dec_lt}
use mathlib.Core.List.{Memᴰ}
use Rattle.ac.specs.Limits.{limits}
use Rattle.numbers.specs.Order.{write_numbers}
use Rattle.numbers.specs.Outcome.{Outcome, is_refused, is_given}
use Rattle.numbers.proofs.Carried.{not_elsewhere, its_member}
use Rattle.numbers.proofs.Decided.{none, next, Settled, given, none_given, settle, same_dec, either_dec, both_dec, some_dec}
use Rattle.numbers.proofs.Said.{something_said}
use Rattle.pair.specs.Given.{left, right}
use Rattle.pair.proofs.Decided.{wrong_length_dec, wrong_byte_dec}
use Rattle.writing.specs.Table.{HoldsVariable, WriteGiven, side_length, no_atom, wrong_side, short_buffer}
use Rattle.writing.specs.Write.{WritePromise, written}
use Rattle.writing.proofs.Settled.{wrong_lengths, wrong_bytes, wrong_sides, too_short}

-- whether a side holds a variable of a range is decided
holds_variable_dec : (first last : ℕ) (side : List ℕ) → Dec (HoldsVariable first last side)
holds_variable_dec first last side =
    same_dec
    (λ s. record { variable = s.member; held = s.on_list; from_first = s.so.0; to_last = s.so.1 })
    (λ h. record { member = h.variable; on_list = h.held; so = (h.from_first, h.to_last) })
    (some_dec (λ a. both_dec (dec_le first a) (dec_le a last)) side)

-- the numbers that are given are those of its list, ..
its_number : {L R block : List ℕ} {n : ℕ} → WriteGiven L R block n → Memᴰ n write_numbers
its_number (side_length side wrong) = its_member write_numbers refl
its_number (no_atom side wrong) = its_member write_numbers refl
its_number (wrong_side wrong) = its_member write_numbers refl
its_number (short_buffer short) = its_member write_numbers refl

-- .. so 10 is none of them
never_10 : {L R block : List ℕ} → WriteGiven L R block 10 → ⊥
never_10 ten = not_elsewhere write_numbers refl (its_number ten)

module _ (L R : List ℕ) (number : ℕ) (block : List ℕ) where
  write_settled : Settled (WriteGiven L R block) write_numbers
  write_settled = settle
      (next (same_dec short_buffer too_short (dec_lt (length block) 512))
      (next (same_dec (⊎_elim (side_length left) (side_length right)) wrong_lengths
      (either_dec (wrong_length_dec limits limits.least_atoms L) (wrong_length_dec limits limits.least_atoms R)))
      (next (same_dec (⊎_elim (no_atom left) (no_atom right)) wrong_bytes
      (either_dec (wrong_byte_dec limits L) (wrong_byte_dec limits R)))
      (next (same_dec wrong_side wrong_sides (either_dec (holds_variable_dec 32 63 L) (holds_variable_dec 0 31 R)))
      none))))

  -- Some outcome and some buffer at exit meet the promise.
  pub write_exists : (outcome : Outcome (Unit {0})) × (exit : List ℕ) × WritePromise L R number block outcome exit
  write_exists = by_numbers write_settled
    where
      by_numbers : Settled (WriteGiven L R block) write_numbers
          → (outcome : Outcome (Unit {0})) × (exit : List ℕ) × WritePromise L R number block outcome exit
      by_numbers (given first) =
          let said = something_said (λ ten. absurd (never_10 ten)) first in
          (_, _, is_refused said.1)
      by_numbers (none_given nothing) = (_, _, is_given nothing written)
