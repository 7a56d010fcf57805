-- The parts of the block of two terms: they are what the block was made of, and nothing is wrong with it.
use Rattle.std.proofs.Common.{ℕ, zero, suc, ◌+◌, ◌-◌, ◌*◌, ◌/◌, ◌%◌, arith, ◌≡◌, refl, ap, sym, ◌∙◌, true, List, [], ◌∷◌, ◌++◌, append_assoc, length, take, drop, replicate, length-append, take_at}
use lib.Seq.{slice, take-append-add, drop-append_seam, get_or_at, append_snoc}
use Rattle.ac.specs.Lists.{sum}
use Rattle.block.specs.Block.{byte, block_number, left_term, right_term, filler, check, check_of_bytes}
use Rattle.block.specs.Inner.{IsLength, all_zero, GoodHeader}
use Rattle.writing.specs.Written.{high_first, up_to_terms, up_to_filler, block_of_terms}
use Rattle.writing.proofs.Blocks.{filler_length, block_length}

-- a part that stands between two others
slice_between : (p q r : List ℕ) (from to : ℕ) → from ≡ length p → to ≡ length p + length q
    → slice from to (p ++ (q ++ r)) ≡ q
slice_between p q r from to from_is to_is =
    ap (λ (n : ℕ). drop from (take n (p ++ (q ++ r)))) to_is
    ∙ ap (drop from) (take-append-add p (q ++ r) (length q) ∙ ap (λ (l : List ℕ). p ++ l) (take_at q r (length q) refl))
    ∙ ap (λ (n : ℕ). drop n (p ++ q)) from_is
    ∙ drop-append_seam p q

-- a number of two bytes is told by them
two_bytes : (n : ℕ) → n / 256 * 256 + n % 256 ≡ n
two_bytes n = omega arith

-- the check, behind the bytes before it
check_behind : (bytes : List ℕ) (n : ℕ) → length bytes ≡ 510 → check (bytes ++ high_first n) ≡ n
check_behind bytes n ends =
    let high : byte (bytes ++ high_first n) 510 ≡ n / 256 = get_or_at bytes (n / 256) (n % 256 ∷ []) 0 510 ends in
    let low : byte (bytes ++ high_first n) 511 ≡ n % 256 =
    ap (λ (l : List ℕ). byte l 511) (sym (append_snoc bytes (n / 256) (n % 256 ∷ [])))
    ∙ get_or_at (bytes ++ n / 256 ∷ []) (n % 256) [] 0 511 (omega (arith, length-append bytes (n / 256 ∷ []))) in
    omega (arith, high, low)

-- as many zeros are zeros
zeros_are_zero : (n : ℕ) → all_zero (replicate n 0) ≡ true
zeros_are_zero zero = refl
zeros_are_zero (suc n) = zeros_are_zero n

module _ (number : ℕ) (s t : List ℕ) where
  -- what stands before the terms, what stands behind them, and the check
  abbrev header : List ℕ
  header = high_first number ++ (length s ∷ length t ∷ [])

  abbrev zeros : List ℕ
  zeros = replicate (510 - length (up_to_terms number s t)) 0

  abbrev check_written : ℕ
  check_written = 65535 - sum (up_to_filler number s t) % 65536

  -- the block, part by part
  parts : block_of_terms number s t ≡ header ++ (s ++ (t ++ (zeros ++ high_first check_written)))
  unfolding block_of_terms
  parts = simp append_assoc

  -- its terms are the two
  pub left_term_is : left_term (block_of_terms number s t) ≡ s
  unfolding block_of_terms
  left_term_is = ap (slice 4 (4 + length s)) parts ∙ slice_between header s _ 4 (4 + length s) refl refl

  pub right_term_is : right_term (block_of_terms number s t) ≡ t
  unfolding block_of_terms
  right_term_is =
      ap (slice (4 + length s) (4 + length s + length t)) (parts ∙ sym (append_assoc header s _))
      ∙ slice_between (header ++ s) t _ (4 + length s) (4 + length s + length t) (omega (arith, length-append header s))
      (omega (arith, length-append header s))

  -- and its number is the number
  pub number_is : block_number (block_of_terms number s t) ≡ number
  unfolding block_of_terms
  number_is = two_bytes number

  module _ (left_length : IsLength (length s)) (right_length : IsLength (length t)) where
    -- what stands before the check
    before_check : take 510 (block_of_terms number s t) ≡ up_to_filler number s t
    unfolding block_of_terms
    before_check = take_at (up_to_filler number s t) _ 510 (filler_length number s t left_length.1 right_length.1)

    -- zeros stand behind the terms
    pub filler_is : filler (block_of_terms number s t) ≡ zeros
    unfolding block_of_terms
    filler_is =
        let terms_end : 4 + length s + length t ≡ length (up_to_terms number s t) = omega (arith, length-append s t) in
        ap (drop (4 + length s + length t)) before_check
        ∙ ap (λ (n : ℕ). drop n (up_to_filler number s t)) terms_end
        ∙ drop-append_seam (up_to_terms number s t) zeros

    pub filler_zero : all_zero (filler (block_of_terms number s t)) ≡ true
    filler_zero = ap all_zero filler_is ∙ zeros_are_zero (510 - length (up_to_terms number s t))

    -- the check is that of the bytes before it
    pub check_is : check (block_of_terms number s t) ≡ check_of_bytes (block_of_terms number s t)
    unfolding block_of_terms
    check_is =
        check_behind (up_to_filler number s t) check_written (filler_length number s t left_length.1 right_length.1)
        ∙ ap (λ (l : List ℕ). 65535 - sum l % 65536) (sym before_check)

    -- So nothing is wrong before the terms.
    pub block_good : GoodHeader (block_of_terms number s t) number
    unfolding block_of_terms
    block_good =
        record {
          whole = block_length number s t left_length.1 right_length.1;
          checked = check_is;
          numbered = number_is;
          left_length = left_length;
          right_length = right_length;
        }
