-- What Read answers of the two blocks of document 01's example, and of two patterns that overlap (document 02, R-1).
use Prim.Native.Nat.{ℕ, ◌≤◌, ◌<◌}
use native.Mathlib.Omega.{arith}
use mathlib.Core.Path.{◌≡◌, refl, ap}
use mathlib.Core.Bool.{true}
use mathlib.Core.Logic.{inl, inr}
use mathlib.Core.List.{List, [], ◌∷◌}
use lib.ListN.{length}
use Rattle.ac.specs.Term.{Term, atom, plus}
use Rattle.numbers.specs.First.{also}
use Rattle.block.specs.Front.{Writable, one, two, Writes, left_side, right_side}
use Rattle.block.specs.Block.{block_number, left_length, right_length, left_term, right_term, filler, check, check_of_bytes}
use Rattle.block.specs.Inner.{IsLength, all_zero, GoodHeader}
use Rattle.numbers.specs.Outcome.{is_given}
use Rattle.numbers.proofs.Promises.{outcome_determined}
use Rattle.block.specs.Read.{sides}
use Rattle.block.proofs.Settled.{not_16, none_given}
use Rattle.block.proofs.Determined.{one_read}
use Rattle.worked.specs.Answers.{ReadAnswers}
use Rattle.worked.specs.Example.{block_0, block_1, overlapping}

-- a block of a good header, with two terms and zeros after them, is read as their sides
pub block_gives : {block : List ℕ} {number : ℕ} {s t : Term} → GoodHeader block number → Writes (left_term block) s
    → Writes (right_term block) t
    → all_zero (filler block) ≡ true → ReadAnswers block number (left_side s) (right_side t)
block_gives good left right zeros lent left_fits right_fits =
    let met =
    is_given (also (not_16 left_fits right_fits) (none_given good left right zeros lent.left lent.right))
    (sides left right) in
    record {
      meets = met;
      alone = λ other exit p.
          let same = outcome_determined one_read p met in
          (same.0, ap (λ b. record { left = b.0; right = b.1 }) same.1);
    }

-- a header is good if the block's length, check, number and terms' lengths are
pub header :
    {block : List ℕ} {number : ℕ} →
    length block ≡ 512 →
    check block ≡ check_of_bytes block →
    block_number block ≡ number →
    IsLength (left_length block) × IsLength (right_length block) →
    GoodHeader block number
header whole checked numbered lengths =
    record {
      whole = whole;
      checked = checked;
      numbered = numbered;
      left_length = lengths.0;
      right_length = lengths.1;
    }

-- v0 to v31 may be written
pub variable : (a : ℕ) → a < 32 → Writable (atom a)
variable a h = one (inl h)

-- and so may every constant
pub constant : (a : ℕ) → (64 ≤ a) × (a < 128) → Writable (atom a)
constant a h = one (inr h)

-- block 0: v0+v1 and c0+c1
pub block_0_gives : ReadAnswers block_0 0 (0 ∷ 1 ∷ []) (64 ∷ 65 ∷ [])
block_0_gives =
    block_gives {s = plus (atom 0) (atom 1)} {t = plus (atom 64) (atom 65)}
    (header refl refl refl (omega arith))
    (record { exactly = refl; writable = two (variable 0 (omega arith)) (variable 1 (omega arith)) })
    (record { exactly = refl; writable = two (constant 64 (omega arith)) (constant 65 (omega arith)) })
    refl

-- block 1: v0+v0 and c0
pub block_1_gives : ReadAnswers block_1 1 (0 ∷ 0 ∷ []) (64 ∷ [])
block_1_gives =
    block_gives {s = plus (atom 0) (atom 0)} {t = atom 64}
    (header refl refl refl (omega arith))
    (record { exactly = refl; writable = two (variable 0 (omega arith)) (variable 0 (omega arith)) })
    (record { exactly = refl; writable = constant 64 (omega arith) })
    refl

-- v3+c0 and v3+c1: the right side's v3 is v35
pub overlapping_gives : ReadAnswers overlapping 0 (3 ∷ 64 ∷ []) (35 ∷ 65 ∷ [])
overlapping_gives =
    block_gives {s = plus (atom 3) (atom 64)} {t = plus (atom 3) (atom 65)}
    (header refl refl refl (omega arith))
    (record { exactly = refl; writable = two (variable 3 (omega arith)) (constant 64 (omega arith)) })
    (record { exactly = refl; writable = two (variable 3 (omega arith)) (constant 65 (omega arith)) })
    refl
