-- A block with which nothing is wrong is the block of its number and its two terms.
use Rattle.std.proofs.Common.{ℕ, ◌+◌, ◌-◌, ◌*◌, ◌/◌, ◌%◌, ◌≤◌, ◌<◌, arith, ◌≡◌, refl, ap, ap₂, sym, ◌∙◌, List, [], ◌∷◌, ◌++◌, append_assoc, length, take, drop, replicate, take-append-drop, drop_of_length-le, length-append, take-take, drop-cons}
use mathlib.Core.List.{Memᴰ}
use lib.Seq.{slice, length-slice}
use Rattle.ac.specs.Lists.{sum}
use Rattle.block.specs.Block.{byte, two_bytes, left_length, right_length, left_term, right_term, filler}
use Rattle.writing.specs.Written.{high_first, up_to_terms, up_to_filler, block_of_terms}
use Rattle.writing.proofs.WasRead.{WasRead, left_length_is, right_length_is}

-- the first bytes up to a place, and those from there up to another
take_slice : (t u : ℕ) (l : List ℕ) → t ≤ u → take u l ≡ take t l ++ slice t u l
take_slice t u l h =
    sym (take-append-drop t (take u l)) ∙ ap (λ (f : List ℕ). f ++ slice t u l) (take-take t u l h)

-- the first four bytes, and the last two
first_four : (l : List ℕ) → 4 ≤ length l → take 4 l ≡ byte l 0 ∷ byte l 1 ∷ byte l 2 ∷ byte l 3 ∷ []
first_four [] h = absurd (omega arith)
first_four (a ∷ []) h = absurd (omega arith)
first_four (a ∷ b ∷ []) h = absurd (omega arith)
first_four (a ∷ b ∷ c ∷ []) h = absurd (omega arith)
first_four (a ∷ b ∷ c ∷ d ∷ l) h = refl

last_two : (l : List ℕ) → length l ≡ 512 → drop 510 l ≡ byte l 510 ∷ byte l 511 ∷ []
last_two l whole =
    drop-cons l 510 0 (omega arith)
    ∙ ap (λ (t : List ℕ). byte l 510 ∷ t)
    (drop-cons l 511 0 (omega arith)
    ∙ ap (λ (t : List ℕ). byte l 511 ∷ t) (drop_of_length-le l (let h : length l ≤ 512 = omega arith in h)))

-- two bytes are told by their number
high_first_lem : {high low : ℕ} → low < 256 → high_first (two_bytes high low) ≡ high ∷ low ∷ []
high_first_lem {high} {low} small =
    let up : (high * 256 + low) / 256 ≡ high = omega arith in
    let down : (high * 256 + low) % 256 ≡ low = omega arith in
    ap₂ {C = List ℕ} (λ a b. a ∷ b ∷ []) up down

-- bytes that are all 0 are zeros
all_zeros : (l : List ℕ) → ((b : ℕ) → Memᴰ b l → b ≡ 0) → l ≡ replicate (length l) 0
all_zeros [] all = refl
all_zeros (b ∷ l) all =
    ap₂ {C = List ℕ} (λ a t. a ∷ t) (all b (Memᴰ.head refl)) (all_zeros l (λ c m. all c (Memᴰ.tail m)))

module _ {block : List ℕ} {number : ℕ} {L R : List ℕ} (read : WasRead block number L R)
    (bytes : (i : ℕ) → byte block i < 256) where
  -- the number and the lengths
  header_is : take 4 block ≡ high_first number ++ (length (left_term block) ∷ length (right_term block) ∷ [])
  header_is =
      first_four block (omega (arith, read.good.whole))
      ∙ ap₂ {C = List ℕ} (λ n l. n ++ l) (sym (high_first_lem (bytes 1)) ∙ ap high_first read.good.numbered)
      (ap₂ {C = List ℕ} (λ m n. m ∷ n ∷ []) (sym (left_length_is read)) (sym (right_length_is read)))

  -- the terms behind them
  terms_are : take (4 + left_length block + right_length block) block
      ≡ up_to_terms number (left_term block) (right_term block)
  terms_are =
      take_slice (4 + left_length block) (4 + left_length block + right_length block) block (omega arith)
      ∙ ap (λ (l : List ℕ). l ++ right_term block) (take_slice 4 (4 + left_length block) block (omega arith))
      ∙ append_assoc (take 4 block) (left_term block) (right_term block)
      ∙ ap (λ (l : List ℕ). l ++ (left_term block ++ right_term block)) header_is

  -- the zeros behind the terms
  zeros_are : filler block ≡ replicate (510 - length (up_to_terms number (left_term block) (right_term block))) 0
  zeros_are =
      let fits : 510 ≤ length block = omega (arith, read.good.whole) in
      let as_many : length (filler block) ≡ 510 - length (up_to_terms number (left_term block) (right_term block)) =
      omega (
        arith,
        length-slice (4 + left_length block + right_length block) 510 block fits,
        length-append (left_term block) (right_term block),
        left_length_is read,
        right_length_is read,
      ) in
      all_zeros (filler block) read.zeros ∙ ap (λ (n : ℕ). replicate n 0) as_many

  before_check : take 510 block ≡ up_to_filler number (left_term block) (right_term block)
  before_check =
      take_slice (4 + left_length block + right_length block) 510 block
      (omega (arith, read.good.left_length, read.good.right_length))
      ∙ ap₂ {C = List ℕ} (λ l z. l ++ z) terms_are zeros_are

  -- and the check
  check_is : drop 510 block ≡ high_first (65535 - sum (up_to_filler number (left_term block) (right_term block)) % 65536)
  check_is =
      last_two block read.good.whole
      ∙ sym (high_first_lem (bytes 511))
      ∙ ap high_first (read.good.checked ∙ ap (λ (l : List ℕ). 65535 - sum l % 65536) before_check)

  -- are all of it.
  pub block_is : block ≡ block_of_terms number (left_term block) (right_term block)
  unfolding block_of_terms
  block_is = sym (take-append-drop 510 block) ∙ ap₂ {C = List ℕ} (λ b c. b ++ c) before_check check_is
