-- A block put into a buffer piece by piece is the block of its number and its two terms.
use Rattle.std.proofs.Common.{ℕ, ◌-◌, ◌≤◌, ◌%◌, arith, ◌≡◌, ap, ap₂, ◌∙◌, List, [], ◌∷◌, ◌++◌, append-nil, length, take, replicate, length-append, drop_of_length-le, take_at}
use lib.ListN.{length-replicate}
use Rattle.ac.specs.Lists.{sum}
use Rattle.block.specs.Block.{check_of_bytes}
use Rattle.buffer.specs.Put.{Put}
use Rattle.buffer.proofs.Puts.{put_then, put_as, put_at, put_received}
use Rattle.writing.specs.Written.{high_first, up_to_terms, up_to_filler, block_of_terms}

-- the number, the two lengths and the two terms, one behind the other
pub terms_put : (number : ℕ) {s t : List ℕ} {block b₁ b₂ b₃ b₄ : List ℕ} {n₁ n₂ n₃ n₄ m n : ℕ}
    → m ≡ length s → n ≡ length t → Put block 0 (high_first number) n₁ b₁ → Put b₁ n₁ (m ∷ n ∷ []) n₂ b₂
    → Put b₂ n₂ s n₃ b₃ → Put b₃ n₃ t n₄ b₄ → Put block 0 (up_to_terms number s t) n₄ b₄
terms_put number m_is n_is numbered lengths left right =
    put_then
    (put_then (put_then numbered (put_as (ap₂ {C = List ℕ} (λ m n. m ∷ n ∷ []) m_is n_is) lengths)) left)
    right

module _ (number : ℕ) (s t : List ℕ) (left_fits : length s ≤ 127) (right_fits : length t ≤ 127) where
  -- both terms end before the check
  pub terms_length : length (up_to_terms number s t) ≤ 258
  terms_length = omega (arith, length-append s t)

  -- and the filler ends there
  pub filler_length : length (up_to_filler number s t) ≡ 510
  filler_length =
      omega (
        arith,
        terms_length,
        length-append (up_to_terms number s t) (replicate (510 - length (up_to_terms number s t)) 0),
        length-replicate {A = ℕ} (510 - length (up_to_terms number s t)) 0,
      )

  -- a block is 512 bytes
  pub block_length : length (block_of_terms number s t) ≡ 512
  unfolding block_of_terms
  block_length =
      omega (
        arith,
        filler_length,
        length-append (up_to_filler number s t) (high_first (65535 - sum (up_to_filler number s t) % 65536)),
      )

  module _ {block b₁ b₂ : List ℕ} {end n : ℕ} (whole : length block ≡ 512)
      (terms : Put block 0 (up_to_terms number s t) end b₁)
      (zeros : Put b₁ end (replicate (510 - end) 0) n b₂) where
    -- with zeros behind the terms
    filled : Put block 0 (up_to_filler number s t) n b₂
    filled =
        let ends : end ≡ length (up_to_terms number s t) = omega (arith, terms.place) in
        put_then terms (put_as (ap (λ (k : ℕ). replicate (510 - k) 0) ends) zeros)

    -- the first 510 bytes are known
    first_bytes : take 510 b₂ ≡ up_to_filler number s t
    first_bytes =
        ap (take 510) (put_received filled (omega (arith, filled.place, filler_length)))
        ∙ take_at (up_to_filler number s t) _ 510 filler_length

    -- and with their check behind them the block is whole
    pub block_put : {b₃ : List ℕ} {check m : ℕ} → check ≡ check_of_bytes b₂ → Put b₂ 510 (high_first check) m b₃
        → b₃ ≡ block_of_terms number s t
    unfolding block_of_terms
    block_put {check = check} check_is checked =
        let put = put_then (put_at (omega (arith, filled.place, filler_length)) filled) checked in
        let long = length-append (up_to_filler number s t) (high_first check) in
        let past : length block ≤ length (up_to_filler number s t ++ high_first check) =
        omega (arith, long, filler_length) in
        put_received put (omega (arith, put.place, long, filler_length))
        ∙ ap (λ (l : List ℕ). (up_to_filler number s t ++ high_first check) ++ l) (drop_of_length-le block past)
        ∙ append-nil (up_to_filler number s t ++ high_first check)
        ∙ ap (λ (k : ℕ). up_to_filler number s t ++ high_first k)
        (check_is ∙ ap (λ (l : List ℕ). 65535 - sum l % 65536) first_bytes)
