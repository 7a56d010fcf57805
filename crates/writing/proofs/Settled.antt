-- Which number is the first that Write gives: what tells of each, and a law for each way in which it ends.
use Rattle.std.proofs.Common.{ℕ, ◌≤◌, ◌<◌, arith, ◌≡◌, refl, sym, ◌∙◌, Bool, true, false, ◌⊎◌, inl, inr, ⊎_elim, List, [], ◌∷◌, nat_le, ◌&&◌, length}
use Rattle.std.proofs.lemmas.Bool.Decides.{nat_tests}
use mathlib.Core.List.{Memᴰ}
use Rattle.std.specs.List.{list_any}
use Rattle.ac.specs.Limits.{limits}
use Rattle.ac.specs.Lists.{receives}
use Rattle.numbers.specs.First.{First, NoneOf, here, later, end, also}
use Rattle.numbers.specs.Numbers.{number_of, said_of}
use Rattle.numbers.specs.Order.{write_numbers}
use Rattle.numbers.specs.Outcome.{refused, given, is_refused, is_given}
use Rattle.numbers.specs.Tells.{Tells}
use Rattle.numbers.specs.declared.Refusal.{Refusal}
use Rattle.numbers.specs.declared.Refusal.TheVariants as refusal
use Rattle.numbers.proofs.Said.{refuses_alone}
use Rattle.pair.specs.Given.{left, right, WrongLength, WrongByte}
use Rattle.pair.proofs.Telling.{tells_false, tells_either, tells_same, at_most}
use Rattle.writing.specs.Written.{block_of}
use Rattle.writing.specs.Table.{HoldsVariable, WrongSide, WriteGiven, side_length, no_atom, wrong_side, short_buffer}
use Rattle.writing.specs.Write.{WritePromise, written}
use Rattle.writing.proofs.Sides.{Lengths}

-- two comparisons tell whether a number lies between two
tells_between : (first a last : ℕ) → Tells ((first ≤ a) × (a ≤ last)) (nat_le first a && nat_le a last)
tells_between first a last =
    record { if_true = λ e. grind (arith, nat_tests); if_false = λ e both. grind (arith, nat_tests) }

-- whether one of a side's atoms is from the first number to the last tells whether the side holds such a variable
pub tells_held : (first last : ℕ) (side : List ℕ)
    → Tells (HoldsVariable first last side) (list_any (λ atom. nat_le first atom && nat_le atom last) side)
tells_held first last [] = tells_false (λ holds. elim holds.held [ ])
tells_held first last (a ∷ side) =
    tells_same
    (⊎_elim
    (λ its. record { variable = a; held = Memᴰ.head refl; from_first = its.0; to_last = its.1 })
    (λ holds. record {
      variable = holds.variable;
      held = Memᴰ.tail holds.held;
      from_first = holds.from_first;
      to_last = holds.to_last;
    }))
    (λ holds. first_or_later holds holds.held)
    (tells_either (nat_le first a && nat_le a last) _ (tells_between first a last) (tells_held first last side))
  where
    first_or_later : (holds : HoldsVariable first last (a ∷ side)) → Memᴰ holds.variable (a ∷ side)
        → ((first ≤ a) × (a ≤ last)) ⊎ HoldsVariable first last side
    first_or_later holds (Memᴰ.head same) =
        inl (omega (arith, same, holds.from_first), omega (arith, same, holds.to_last))
    first_or_later holds (Memᴰ.tail held) = inr (record {
      variable = holds.variable;
      held = held;
      from_first = holds.from_first;
      to_last = holds.to_last;
    })

module _ {L R block : List ℕ} where
  -- what each number says
  pub wrong_lengths : WriteGiven L R block 7
      → WrongLength limits limits.least_atoms L ⊎ WrongLength limits limits.least_atoms R
  wrong_lengths (side_length left wrong) = inl wrong
  wrong_lengths (side_length right wrong) = inr wrong

  pub wrong_bytes : WriteGiven L R block 8 → WrongByte limits L ⊎ WrongByte limits R
  wrong_bytes (no_atom left wrong) = inl wrong
  wrong_bytes (no_atom right wrong) = inr wrong

  pub wrong_sides : WriteGiven L R block 18 → WrongSide L R
  wrong_sides (wrong_side wrong) = wrong

  pub too_short : WriteGiven L R block 16 → length block < 512
  too_short (short_buffer short) = short

  -- and what tells of it, ..
  module _ {told : Bool} where
    pub left_7 : Tells (WrongLength limits limits.least_atoms L) told → told ≡ true → WriteGiven L R block 7
    left_7 tells e = side_length left (tells.if_true e)

    pub right_7 : Tells (WrongLength limits limits.least_atoms R) told → told ≡ true → WriteGiven L R block 7
    right_7 tells e = side_length right (tells.if_true e)

    pub left_8 : Tells (WrongByte limits L) told → told ≡ true → WriteGiven L R block 8
    left_8 tells e = no_atom left (tells.if_true e)

    pub right_8 : Tells (WrongByte limits R) told → told ≡ true → WriteGiven L R block 8
    right_8 tells e = no_atom right (tells.if_true e)

    pub left_18 : told ≡ list_any (λ atom. nat_le 32 atom && nat_le atom 63) L → told ≡ true → WriteGiven L R block 18
    left_18 is e = wrong_side (inl ((tells_held 32 63 L).if_true (sym is ∙ e)))

    pub right_18 : told ≡ list_any (λ atom. nat_le 0 atom && nat_le atom 31) R → told ≡ true → WriteGiven L R block 18
    right_18 is e = wrong_side (inr ((tells_held 0 31 R).if_true (sym is ∙ e)))

  -- .. or that it is not so
  module _ {on_left on_right : Bool} where
    pub not_7 : Tells (WrongLength limits limits.least_atoms L) on_left → on_left ≡ false
        → Tells (WrongLength limits limits.least_atoms R) on_right
        → on_right ≡ false
        → WriteGiven L R block 7 → ⊥
    not_7 l e r f seven = ⊎_elim (l.if_false e) (r.if_false f) (wrong_lengths seven)

    pub not_8 : Tells (WrongByte limits L) on_left → on_left ≡ false → Tells (WrongByte limits R) on_right
        → on_right ≡ false
        → WriteGiven L R block 8 → ⊥
    not_8 l e r f eight = ⊎_elim (l.if_false e) (r.if_false f) (wrong_bytes eight)

    pub not_18 : on_left ≡ list_any (λ atom. nat_le 32 atom && nat_le atom 63) L → on_left ≡ false
        → on_right ≡ list_any (λ atom. nat_le 0 atom && nat_le atom 31) R
        → on_right ≡ false
        → WriteGiven L R block 18 → ⊥
    not_18 l e r f eighteen =
        ⊎_elim ((tells_held 32 63 L).if_false (sym l ∙ e)) ((tells_held 0 31 R).if_false (sym r ∙ f))
        (wrong_sides eighteen)

-- where 7 is not given, both sides have 1 to 64 atoms
pub lengths_within : {L R block : List ℕ} → (WriteGiven L R block 7 → ⊥) → Lengths L R
lengths_within {L} {R} not_7 =
    record {
      left_some = at_most 1 (length L) (λ few. not_7 (side_length left (inl few)));
      left_few = at_most (length L) 64 (λ many. not_7 (side_length left (inr many)));
      right_some = at_most 1 (length R) (λ few. not_7 (side_length right (inl few)));
      right_few = at_most (length R) 64 (λ many. not_7 (side_length right (inr many)));
    }

module _ {L R block : List ℕ} where
  -- the first number of its list is said alone
  promised : {number : ℕ} (why : Refusal) → First (WriteGiven L R block) write_numbers (number_of why)
      → WritePromise L R number block (refused (said_of why)) block
  promised why first = is_refused (refuses_alone refl why first)

  -- 16 comes first
  pub short_promised : {number : ℕ} → length block < 512
      → WritePromise L R number block (refused (said_of refusal.ShortBuffer)) block
  short_promised short = promised refusal.ShortBuffer (here (short_buffer short))

  module _ (enough : 512 ≤ length block) where
    pub not_16 : WriteGiven L R block 16 → ⊥
    not_16 sixteen = omega (arith, too_short sixteen)

    -- then 7
    pub length_promised : {number : ℕ} → WriteGiven L R block 7
        → WritePromise L R number block (refused (said_of refusal.SideLength)) block
    length_promised wrong = promised refusal.SideLength (later not_16 (here wrong))

    module _ (not_7 : WriteGiven L R block 7 → ⊥) where
      -- then 8
      pub byte_promised : {number : ℕ} → WriteGiven L R block 8
          → WritePromise L R number block (refused (said_of refusal.NoAtom)) block
      byte_promised wrong = promised refusal.NoAtom (later not_16 (later not_7 (here wrong)))

      module _ (not_8 : WriteGiven L R block 8 → ⊥) where
        -- then 18
        pub side_promised : {number : ℕ} → WriteGiven L R block 18
            → WritePromise L R number block (refused (said_of refusal.WrongSide)) block
        side_promised wrong = promised refusal.WrongSide (later not_16 (later not_7 (later not_8 (here wrong))))

        module _ (not_18 : WriteGiven L R block 18 → ⊥) where
          -- and then none is left
          pub none_left : NoneOf (WriteGiven L R block) write_numbers
          none_left = also not_16 (also not_7 (also not_8 (also not_18 end)))

          -- so the block is received
          pub block_promised : {number : ℕ} {exit : List ℕ} → exit ≡ receives block (block_of number L R)
              → WritePromise L R number block (given tt) exit
          block_promised received = rw received (is_given none_left written)
