-- Which sides Write accepts: those of 1 to 64 atoms, the left of v0 to v31 and constants, the right of v32 to v63 and
-- constants.
use Rattle.std.proofs.Common.{ℕ, ◌≤◌, ◌<◌, arith, ◌≡◌, refl, false, inl, inr, List, length}
use native.Mathlib.Decide.{dec_lt}
use mathlib.Core.List.{Memᴰ}
use Rattle.numbers.specs.First.{NoneOf}
use Rattle.numbers.specs.Order.{write_numbers}
use Rattle.numbers.proofs.Carried.{elsewhere, its_member, none_given}
use Rattle.pair.specs.Given.{left, right}
use Rattle.pair.proofs.Telling.{at_most}
use Rattle.block.specs.Front.{MayBeWritten}
use Rattle.block.proofs.Terms.{atom_below}
use Rattle.writing.specs.Table.{WriteGiven, side_length, no_atom, wrong_side}
use Rattle.writing.proofs.Sides.{Lengths}
use Rattle.writing.proofs.Settled.{lengths_within, none_left}
use Rattle.writing.proofs.Shapes.{AllWritable}

-- what may stand on the right
abbrev pub OnTheRight : ℕ → Type 0
OnTheRight a = (32 ≤ a) × (a < 128)

pub record Acceptable (L R : List ℕ) : Type 0 where
  pub within : Lengths L R
  pub left_atoms : AllWritable L
  pub right_atoms : (a : ℕ) → Memᴰ a R → OnTheRight a

-- Where no number is given, the sides are such.
pub accepted : {L R block : List ℕ} → NoneOf (WriteGiven L R block) write_numbers → Acceptable L R
accepted {L} {R} {block} none =
    record { within = lengths_within (not_given 7 refl); left_atoms = on_the_left; right_atoms = on_the_right }
  where
    not_given : (n : ℕ) → elsewhere n write_numbers ≡ false → WriteGiven L R block n → ⊥
    not_given n its = none_given none (its_member write_numbers its)

    on_the_left : AllWritable L
    on_the_left a m = by_range (dec_lt a 32) (dec_lt a 64)
      where
        by_range : Dec (a < 32) → Dec (a < 64) → MayBeWritten a
        by_range (yes low) d = inl low
        by_range (no not_low) (yes variable) =
            absurd (not_given 18 refl (wrong_side (inl (record
            { variable = a; held = m; from_first = omega arith; to_last = omega arith }))))
        by_range (no not_low) (no constant) =
            inr (
              omega arith,
              omega (
                arith,
                at_most a 127 (λ above. not_given 8 refl (no_atom left
                    (record { byte = a; held = m; above = above }))),
              ),
            )

    on_the_right : (a : ℕ) → Memᴰ a R → OnTheRight a
    on_the_right a m = (
      at_most 32 a (λ low. not_given 18 refl (wrong_side (inr (record
          { variable = a; held = m; from_first = omega arith; to_last = omega arith })))),
      omega (
        arith,
        at_most a 127 (λ above. not_given 8 refl (no_atom right
            (record { byte = a; held = m; above = above }))),
      ),
    )

module _ {L R : List ℕ} (may : Acceptable L R) where
  -- Of such sides no number is given, where the buffer is long enough.
  not_7 : {block : List ℕ} → WriteGiven L R block 7 → ⊥
  not_7 (side_length left (inl few)) = omega (arith, may.within.left_some)
  not_7 (side_length left (inr many)) = omega (arith, may.within.left_few)
  not_7 (side_length right (inl few)) = omega (arith, may.within.right_some)
  not_7 (side_length right (inr many)) = omega (arith, may.within.right_few)

  not_8 : {block : List ℕ} → WriteGiven L R block 8 → ⊥
  not_8 (no_atom left wrong) = omega (arith, atom_below (may.left_atoms wrong.byte wrong.held), wrong.above)
  not_8 (no_atom right wrong) = omega (arith, may.right_atoms wrong.byte wrong.held, wrong.above)

  -- no variable v32 to v63 may be written
  not_between : {a : ℕ} → MayBeWritten a → 32 ≤ a → a ≤ 63 → ⊥
  not_between (inl low) from to = omega arith
  not_between (inr constant) from to = omega arith

  not_18 : {block : List ℕ} → WriteGiven L R block 18 → ⊥
  not_18 (wrong_side (inl on_left)) =
      not_between (may.left_atoms on_left.variable on_left.held) on_left.from_first on_left.to_last
  not_18 (wrong_side (inr on_right)) =
      omega (arith, may.right_atoms on_right.variable on_right.held, on_right.to_last)

  pub acceptable : {block : List ℕ} → 512 ≤ length block → NoneOf (WriteGiven L R block) write_numbers
  acceptable enough = none_left enough not_7 not_8 not_18
