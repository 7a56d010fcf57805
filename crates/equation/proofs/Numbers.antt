-- The numbers of a range, which come one after the other.
use Rattle.std.proofs.Common.{◌≡◌, ℕ, ◌+◌, ◌-◌, ◌<◌, ◌≤◌, Bool, true, false, List, [], ◌∷◌, ◌++◌, length, arith, refl, ◌∙◌, ap, length-append}
use Rattle.std.specs.Prelude.{Some, None}
use Rattle.std.specs.declared.ops.RangeInclusive.{RangeInclusive}
use Rattle.std.specs.Range.{range_inclusive_start, range_inclusive_end, range_inclusive_exhausted, range_inclusive_len, range_inclusive_left, range_inclusive_steps}

-- how far one number is above another, and the number after one
abbrev pub gap : ℕ → ℕ → ℕ
gap x y = y - x

abbrev pub Follows : ℕ → ℕ → Type 0
Follows x y = y ≡ x + 1

-- the range has the numbers left from one to the most
pub record Rest (most number : ℕ) (range : RangeInclusive ℕ) : Type 0 where
  pub end : range_inclusive_end range ≡ most
  pub left : range_inclusive_left gap range ≡ most + 1 - number
  pub start : range_inclusive_exhausted range ≡ false → range_inclusive_start range ≡ number

-- so it has where none has come
pub rest_fresh : (range : RangeInclusive ℕ) → range_inclusive_exhausted range ≡ false
    → Rest (range_inclusive_end range) (range_inclusive_start range) range
rest_fresh range fresh =
    record {
      end = refl;
      left = ap (range_inclusive_len gap (range_inclusive_start range) (range_inclusive_end range)) fresh ∙ omega arith;
      start = λ e. refl;
    }

module _ {most number : ℕ} {range : RangeInclusive ℕ} (rest : Rest most number range) where
  -- where numbers are left, the range is not spent
  not_spent : 0 < range_inclusive_left gap range → range_inclusive_exhausted range ≡ false
  not_spent some = by_flag (range_inclusive_exhausted range) refl
    where
      by_flag : (spent : Bool) → range_inclusive_exhausted range ≡ spent → range_inclusive_exhausted range ≡ false
      by_flag true e = absurd (omega (
        arith,
        some,
        ap (range_inclusive_len gap (range_inclusive_start range) (range_inclusive_end range)) e,
      ))
      by_flag false e = e

  module _ {range' : RangeInclusive ℕ} where
    -- the number comes, ..
    module _ {x : ℕ} (step : range_inclusive_steps gap Follows range (Some x) range') where
      pub comes : x ≡ number
      comes = step.1.0 ∙ rest.start (not_spent (omega (arith, step.1.1)))

      pub in_turn : number ≤ most
      in_turn = omega (arith, step.1.1, rest.left)

      -- .. and those after it are left
      pub rest_more : Rest most (number + 1) range'
      rest_more =
          record {
            end = step.0 ∙ rest.end;
            left = omega (arith, step.1.1, rest.left);
            start = λ e. omega (arith, step.1.2 e, rest.start (not_spent (omega (arith, step.1.1))));
          }

    -- when none comes, all have
    pub rest_none : range_inclusive_steps gap Follows range None range' → most < number
    rest_none step = omega (arith, step.1.0, rest.left)

-- one number more
pub one_more : (xs : List ℕ) (x : ℕ) → length (xs ++ x ∷ []) ≡ length xs + 1
one_more xs x = length-append xs (x ∷ [])
