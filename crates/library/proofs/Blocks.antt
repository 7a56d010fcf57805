-- Laws of the blocks of a library.
use Rattle.std.proofs.Common.{ℕ, zero, suc, ◌+◌, ◌*◌, ◌≤◌, ◌<◌, arith, ◌≡◌, refl, ap, ap₂, sym, ◌∙◌, List, [], ◌∷◌, ◌++◌, append_assoc, length, take, drop, length-drop, take-append-drop, drop-drop}
use lib.Seq.{drop-nil, take-append-le, drop-append-le}
use Rattle.library.specs.Library.{blocks_of, all_bytes}

-- bytes without their first 512 and those of some blocks more
drop_blocks : (n : ℕ) (bytes : List ℕ) → drop (512 * n) (drop 512 bytes) ≡ drop (512 * suc n) bytes
drop_blocks n bytes =
    drop-drop (512 * n) 512 bytes
    ∙ ap (λ (k : ℕ). drop k bytes) (let e : 512 + 512 * n ≡ 512 * suc n = omega arith in e)

-- no bytes, no blocks
blocks_none : (n : ℕ) → blocks_of n [] ≡ []
blocks_none zero = refl
blocks_none (suc n) = refl

-- Where enough came for so many blocks, what comes behind it changes none of them.
pub blocks_more : (n : ℕ) (bytes more : List ℕ) → 512 * n ≤ length bytes
    → blocks_of n (bytes ++ more) ≡ blocks_of n bytes
blocks_more zero bytes more h = refl
blocks_more (suc n) [] more h = absurd (omega arith)
blocks_more (suc n) (byte ∷ bytes) more h =
    ap₂ {C = List (List ℕ)} (λ a b. a ∷ b) (take-append-le 512 (byte ∷ bytes) more (omega arith))
    (ap (blocks_of n) (drop-append-le 512 (byte ∷ bytes) more (omega arith))
    ∙ blocks_more n (drop 512 (byte ∷ bytes)) more (omega (arith, length-drop 512 (byte ∷ bytes))))

-- One block more is the next 512 bytes, or as many as are left.
pub blocks_next : (n : ℕ) (bytes : List ℕ) → 512 * n < length bytes →
    blocks_of (suc n) bytes ≡ blocks_of n bytes ++ (take 512 (drop (512 * n) bytes) ∷ [])
blocks_next zero [] h = absurd (omega arith)
blocks_next zero (byte ∷ bytes) h = refl
blocks_next (suc n) [] h = absurd (omega arith)
blocks_next (suc n) (byte ∷ bytes) h =
    ap (λ (l : List (List ℕ)). take 512 (byte ∷ bytes) ∷ l)
    (blocks_next n (drop 512 (byte ∷ bytes)) (omega (arith, length-drop 512 (byte ∷ bytes)))
    ∙ ap (λ (l : List ℕ). blocks_of n (drop 512 (byte ∷ bytes)) ++ (take 512 l ∷ []))
    (drop_blocks n (byte ∷ bytes)))

-- Where all bytes are in the first blocks, there are no more.
pub blocks_all : (n m : ℕ) (bytes : List ℕ) → length bytes ≤ 512 * n → n ≤ m →
    blocks_of m bytes ≡ blocks_of n bytes
blocks_all zero m [] h within = blocks_none m
blocks_all zero m (byte ∷ bytes) h within = absurd (omega arith)
blocks_all (suc n) zero bytes h within = absurd (omega arith)
blocks_all (suc n) (suc m) [] h within = refl
blocks_all (suc n) (suc m) (byte ∷ bytes) h within =
    ap (λ (l : List (List ℕ)). take 512 (byte ∷ bytes) ∷ l)
    (blocks_all n m (drop 512 (byte ∷ bytes)) (omega (arith, length-drop 512 (byte ∷ bytes))) (omega arith))

-- The blocks one after the other, and behind them the rest, are all bytes: none is lost and none is there
-- twice.
pub blocks_joined : (n : ℕ) (bytes : List ℕ) → all_bytes (blocks_of n bytes) ++ drop (512 * n) bytes ≡ bytes
blocks_joined zero bytes = refl
blocks_joined (suc n) [] = drop-nil (512 * suc n)
blocks_joined (suc n) (byte ∷ bytes) =
    let all = byte ∷ bytes in
    let later = all_bytes (blocks_of n (drop 512 all)) in
    append_assoc (take 512 all) later (drop (512 * suc n) all)
    ∙ ap (λ (l : List ℕ). take 512 all ++ l)
    (ap (λ (l : List ℕ). later ++ l) (sym (drop_blocks n all)) ∙ blocks_joined n (drop 512 all))
    ∙ take-append-drop 512 all
