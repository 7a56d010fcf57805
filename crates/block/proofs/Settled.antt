-- Which number is the first that a block gives: a law for each way in which reading it ends.
use Rattle.std.proofs.Common.{◌≡◌, ℕ, ◌<◌, ◌≤◌, min, ◌↔◌, Bool, true, false, IsTrue, eqb, ◌⊎◌, List, [], ◌∷◌, length, refl, ◌∙◌, inl, inr, arith, eqb-true}
use mathlib.Core.List.{Memᴰ}
use native.Mathlib.Decide.{dec_lt, ℕ_discrete}
use borrow.Author.Tests.{eqb-false}
use Rattle.ac.specs.Term.{Term}
use Rattle.numbers.specs.Numbers.{said_of}
use Rattle.numbers.specs.Order.{block_numbers}
use Rattle.numbers.specs.declared.Refusal.{Refusal}
use Rattle.numbers.specs.First.{First, NoneOf, here, later, end, also}
use Rattle.numbers.specs.declared.Refusal.TheVariants as refusal
use Rattle.numbers.proofs.Carried.{and_true}
use Rattle.block.specs.Front.{Writes}
use Rattle.block.specs.Block.{block_number as number_of_block, left_length, right_length, left_term, right_term, filler, check, check_of_bytes}
use Rattle.block.specs.Table.{ReadGiven, block_length, check_differs, block_number, term_length, no_term, filler_byte, short_buffer, NoLength, NoTerm}
use Rattle.numbers.specs.Outcome.{refused, is_refused}
use Rattle.numbers.proofs.Said.{refuses_alone}
use Rattle.block.specs.Read.{ReadPromise}
use Rattle.block.specs.Inner.{IsLength, all_zero, BlockRefuses, GoodHeader}

-- a length from 1 to 127 is none that no term may have
is_length : {n : ℕ} → IsLength n → NoLength n → ⊥
is_length h (inl e) = omega arith
is_length h (inr above) = omega arith

-- and where the test of the length fails, it is one
pub no_length : {n : ℕ} → IsTrue false ↔ IsLength n → NoLength n
no_length {n} tested = go (ℕ_discrete n 0) (dec_lt 127 n)
  where
    go : Dec (n ≡ 0) → Dec (127 < n) → NoLength n
    go (yes zero) above = inl zero
    go (no some) (yes above) = inr above
    go (no some) (no within) = let its : IsTrue false = tested.1 (omega arith) in absurd (cc)

-- where every byte is 0, so is each
only_zeros : (bytes : List ℕ) → all_zero bytes ≡ true → {b : ℕ} → Memᴰ b bytes → b ≡ 0
only_zeros [] e {b = b} x'' = elim x'' [ ]
only_zeros (a ∷ bytes) e (Memᴰ.head same) = same ∙ eqb-true a 0 (and_true (eqb a 0) (all_zero bytes) e).0
only_zeros (a ∷ bytes) e (Memᴰ.tail m) = only_zeros bytes (and_true (eqb a 0) (all_zero bytes) e).1 m

-- where not every byte is 0, there is one that is not
record OtherThanZero (bytes : List ℕ) : Type 0 where
  byte : ℕ
  member : Memᴰ byte bytes
  not_zero : byte ≡ 0 → ⊥

-- a byte that is not 0 is found from the front
other_than_zero : (bytes : List ℕ) → all_zero bytes ≡ false → OtherThanZero bytes
other_than_zero [] e = cc e
other_than_zero (a ∷ bytes) e = go (eqb a 0) refl (other_than_zero bytes)
  where
    go : (z : Bool) → eqb a 0 ≡ z → (all_zero bytes ≡ false → OtherThanZero bytes) → OtherThanZero (a ∷ bytes)
    go true t rest = let o = rest (rw t at e) in record
        { byte = o.byte; member = Memᴰ.tail o.member; not_zero = o.not_zero }
    go false f rest = record { byte = a; member = Memᴰ.head refl; not_zero = eqb-false a 0 f }

-- a row of the table that is not given
module _ {block : List ℕ} {number : ℕ} {left right : List ℕ} where
  pub not_1 : length block ≡ 512 → ReadGiven block number left right 1 → ⊥
  not_1 e (block_length h) = h e

  not_2 : check block ≡ check_of_bytes block → ReadGiven block number left right 2 → ⊥
  not_2 e (check_differs h) = h e

  not_3 : number_of_block block ≡ number → ReadGiven block number left right 3 → ⊥
  not_3 e (block_number h) = h e

  not_4 : IsLength (left_length block) → IsLength (right_length block) → ReadGiven block number left right 4 → ⊥
  not_4 l r (term_length (inl h)) = is_length l h
  not_4 l r (term_length (inr h)) = is_length r h

  not_5 : {s t : Term} → Writes (left_term block) s → Writes (right_term block) t
      → ReadGiven block number left right 5 → ⊥
  not_5 {s} {t} v w (no_term (inl h)) = h s v
  not_5 {s} {t} v w (no_term (inr h)) = h t w

  not_6 : all_zero (filler block) ≡ true → ReadGiven block number left right 6 → ⊥
  not_6 e (filler_byte b m h) = h (only_zeros (filler block) e m)

-- the first number that the block itself gives
module _ {block : List ℕ} {number : ℕ} where
  -- number 1
  pub block_length_first : (length block ≡ 512 → ⊥) → BlockRefuses block number refusal.BlockLength
  block_length_first h = record { first = λ left right. here (block_length h) }

  module _ (whole : length block ≡ 512) where
    -- number 2
    pub check_first : (check block ≡ check_of_bytes block → ⊥) → BlockRefuses block number refusal.Check
    check_first h = record { first = λ left right. later (not_1 whole) (here (check_differs h)) }

    module _ (checked : check block ≡ check_of_bytes block) where
      -- number 3, where the check agrees
      pub block_number_first : (number_of_block block ≡ number → ⊥) → BlockRefuses block number refusal.BlockNumber
      block_number_first h =
          record { first = λ left right. later (not_1 whole) (later (not_2 checked) (here (block_number h))) }

      -- number 4, where the check and the number agree
      pub term_length_first :
          number_of_block block ≡ number →
          NoLength (left_length block) ⊎ NoLength (right_length block) →
          BlockRefuses block number refusal.TermLength
      term_length_first numbered h =
          record {
            first = λ left right. later (not_1 whole)
                (later (not_2 checked) (later (not_3 numbered) (here (term_length h))));
          }

  module _ (good : GoodHeader block number) where
    -- after a good header the first number is one of 5 and 6
    after_header :
        {left right : List ℕ} {n : ℕ} →
        First (ReadGiven block number left right) (5 ∷ 6 ∷ []) n →
        First (ReadGiven block number left right) block_numbers n
    after_header f =
        later (not_1 good.whole)
        (later (not_2 good.checked)
        (later (not_3 good.numbered)
        (later (not_4 good.left_length good.right_length) f)))

    -- number 5
    pub term_first : NoTerm (left_term block) ⊎ NoTerm (right_term block) → BlockRefuses block number refusal.Term
    term_first h = record { first = λ left right. after_header (here (no_term h)) }

    module _ {s t : Term} (v : Writes (left_term block) s) (w : Writes (right_term block) t) where
      -- number 6
      pub filler_first : all_zero (filler block) ≡ false → BlockRefuses block number refusal.Filler
      filler_first e =
          let other = other_than_zero (filler block) e in
          record {
            first = λ left right. after_header
                (later (not_5 v w) (here (filler_byte other.byte other.member other.not_zero)));
          }

      -- no number is left
      pub none_given : all_zero (filler block) ≡ true → (left right : List ℕ)
          → NoneOf (ReadGiven block number left right) block_numbers
      none_given e left right =
          also (not_1 good.whole)
          (also (not_2 good.checked)
          (also (not_3 good.numbered)
          (also (not_4 good.left_length good.right_length) (also (not_5 v w) (also (not_6 e) end)))))

-- the lesser of two lengths below 64 is one of them
shorter_is_short : (m n : ℕ) → min m n < 64 → (m < 64) ⊎ (n < 64)
shorter_is_short m n h = go (dec_lt m 64)
  where
    go : Dec (m < 64) → (m < 64) ⊎ (n < 64)
    go (yes l) = inl l
    go (no l) = inr (omega arith)

-- what is promised with number 16, and with the block's own where both buffers are long enough
module _ {block : List ℕ} {number : ℕ} {left right : List ℕ} where
  pub short_buffer_first : min (length left) (length right) < 64
      → ReadPromise block number left right (refused (said_of refusal.ShortBuffer)) left right
  short_buffer_first h =
      is_refused (refuses_alone refl refusal.ShortBuffer
      (here (short_buffer (shorter_is_short (length left) (length right) h))))

  module _ (left_fits : 64 ≤ length left) (right_fits : 64 ≤ length right) where
    -- both buffers are long enough
    pub not_16 : ReadGiven block number left right 16 → ⊥
    not_16 (short_buffer (inl h)) = omega arith
    not_16 (short_buffer (inr h)) = omega arith

    -- the block's own number, where 16 is not given
    pub promised_refusal : {why : Refusal} → BlockRefuses block number why
        → ReadPromise block number left right (refused (said_of why)) left right
    promised_refusal {why} r = is_refused (refuses_alone refl why (later not_16 (r.first left right)))
