-- The table of a question on two sides, by what its rows speak of: the numbers that the sides decide, those
-- that the list decides, and 16 of a lent buffer. "Order: 16 first, then by number."
use Rattle.std.proofs.Common.{ℕ, ◌<◌, ◌≤◌, arith, ◌≡◌, refl, ◌↔◌, Result, Err, List, [], ◌∷◌, ◌++◌}
use mathlib.Core.List.{Memᴰ}
use Rattle.numbers.specs.First.{First, NoneOf, here, later, also}
use Rattle.numbers.specs.Numbers.{said_of}
use Rattle.numbers.specs.Order.{sides_numbers, beginning_numbers}
use Rattle.numbers.specs.Outcome.{refused, Promise, is_refused}
use Rattle.numbers.specs.Verdict.{Decides}
use Rattle.numbers.specs.declared.Refusal.{Refusal}
use Rattle.numbers.specs.declared.Refusal.TheVariants.{ShortBuffer}
use Rattle.numbers.proofs.Said.{refuses_carried, refuses_alone}
use Rattle.numbers.proofs.Carried.{not_both, first_carried, none_carried, first_before, first_after, none_after}

-- what a row speaks of, where a lent buffer has a size and has to have room
pub data Row (OfSides OfList : ℕ → Type 0) (size room : ℕ) : ℕ → Type 0 where
  sides_row : {n : ℕ} → Memᴰ n sides_numbers → OfSides n → Row OfSides OfList size room n
  list_row : {n : ℕ} → Memᴰ n beginning_numbers → OfList n → Row OfSides OfList size room n
  buffer_row : size < room → Row OfSides OfList size room 16

module _ {OfSides OfList : ℕ → Type 0} {size room : ℕ} where
  -- its number tells
  row_of_sides : {n : ℕ} → Memᴰ n sides_numbers → Row OfSides OfList size room n → OfSides n
  row_of_sides m (sides_row its given) = given
  row_of_sides m (list_row its given) = absurd (not_both sides_numbers beginning_numbers refl m its)
  row_of_sides m (buffer_row short) = absurd (not_both sides_numbers (16 ∷ []) refl m (Memᴰ.head refl))

  row_of_list : {n : ℕ} → Memᴰ n beginning_numbers → Row OfSides OfList size room n → OfList n
  row_of_list m (sides_row its given) = absurd (not_both sides_numbers beginning_numbers refl its m)
  row_of_list m (list_row its given) = given
  row_of_list m (buffer_row short) = absurd (not_both beginning_numbers (16 ∷ []) refl m (Memᴰ.head refl))

  row_of_buffer : {n : ℕ} → Memᴰ n (16 ∷ []) → Row OfSides OfList size room n → size < room
  row_of_buffer m (sides_row its given) = absurd (not_both sides_numbers (16 ∷ []) refl its m)
  row_of_buffer m (list_row its given) = absurd (not_both beginning_numbers (16 ∷ []) refl its m)
  row_of_buffer m (buffer_row short) = short

-- the table gives what the sides, the list and a short buffer give, and nothing beside that
pub record MadeOf (Given OfSides OfList : ℕ → Type 0) (size room : ℕ) : Type 0 where
  pub of_sides : {n : ℕ} → OfSides n → Given n
  pub of_list : {n : ℕ} → OfList n → Given n
  pub of_buffer : size < room → Given 16
  pub row_of : {n : ℕ} → Given n → Row OfSides OfList size room n

module _ {Given OfSides OfList : ℕ → Type 0} {size room : ℕ}
    (made : MadeOf Given OfSides OfList size room) where
  pub given_sides : {n : ℕ} → Memᴰ n sides_numbers → Given n → OfSides n
  given_sides m given = row_of_sides m (made.row_of given)

  pub given_list : {n : ℕ} → Memᴰ n beginning_numbers → Given n → OfList n
  given_list m given = row_of_list m (made.row_of given)

  -- a buffer that is too short is refused first
  pub first_short : {ns : List ℕ} → size < room → First Given (16 ∷ ns) 16
  first_short short = here (made.of_buffer short)

  module _ (enough : room ≤ size) where
    not_16 : Given 16 → ⊥
    not_16 given = omega (arith, row_of_buffer (Memᴰ.head refl) (made.row_of given))

    -- the sides' numbers are given where the sides give them, the list's where the list does
    sides_agree : (n : ℕ) → Memᴰ n sides_numbers → OfSides n ↔ Given n
    sides_agree n m = (made.of_sides, given_sides m)

    list_agrees : {list : List ℕ} → ((n : ℕ) → Memᴰ n list → Memᴰ n beginning_numbers)
        → (n : ℕ) → Memᴰ n list → OfList n ↔ Given n
    list_agrees its n m = (made.of_list, given_list (its n m))

    -- then the first number of the sides
    pub first_of_sides : {n : ℕ} (others : List ℕ) → First OfSides sides_numbers n
        → First Given (16 ∷ (sides_numbers ++ others)) n
    first_of_sides others first = later not_16 (first_before others (first_carried sides_agree first))

    pub none_of_sides : NoneOf OfSides sides_numbers → NoneOf Given (16 ∷ sides_numbers)
    none_of_sides none = also not_16 (none_carried (λ n m. (sides_agree n m).1) none)

    -- then the first of the list, if it has one
    module _ (none : NoneOf OfSides sides_numbers) {list : List ℕ}
        (its : (n : ℕ) → Memᴰ n list → Memᴰ n beginning_numbers) where
      pub first_of_list : {n : ℕ} → First OfList list n → First Given (16 ∷ (sides_numbers ++ list)) n
      first_of_list first = first_after (none_of_sides none) (first_carried (list_agrees its) first)

      pub none_of_list : NoneOf OfList list → NoneOf Given (16 ∷ (sides_numbers ++ list))
      none_of_list nothing =
          none_after (none_of_sides none) (none_carried (λ n m. (list_agrees its n m).1) nothing)

-- What a question on two sides promises where it is refused, step by step: 16, then what a verdict on the
-- sides refuses, then the list's numbers.
module _ {Given Names OfSides OfList : ℕ → Type 0} {size room : ℕ}
    (made : MadeOf Given OfSides OfList size room) {Values Buffers : Type 0}
    {Gives : Values → Buffers → Type 0} {entry : Buffers} where
  pub short_promised : {ns : List ℕ} → size < room
      → Promise Given Names (16 ∷ ns) Gives entry (refused (said_of ShortBuffer)) entry
  short_promised short =
      is_refused (refuses_carried (first_before _) (refuses_alone {numbers = 16 ∷ []} refl ShortBuffer (first_short made short)))

  module _ (enough : room ≤ size) {A : Type 0} {So : A → Type 0} {answer : Result A Refusal}
      (decided : Decides OfSides Names sides_numbers So answer) where
    pub verdict_promised : (others : List ℕ) {why : Refusal} → answer ≡ Err why
        → Promise Given Names (16 ∷ (sides_numbers ++ others)) Gives entry (refused (said_of why)) entry
    verdict_promised others e = is_refused (refuses_carried (first_of_sides made enough others) (decided.refused _ e))
