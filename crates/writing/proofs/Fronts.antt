-- Laws of a side in front notation, one atom after the other.
use Rattle.std.proofs.Common.{◌≡◌, ℕ, zero, suc, ◌+◌, ◌*◌, ◌<◌, List, [], ◌∷◌, ◌++◌, length, get_or, take, drop, refl, ap, sym, ◌∙◌, arith}
use Rattle.std.proofs.lemmas.List.{take_more}
use Rattle.writing.specs.Written.{front}

-- 128 and an atom, for each of the atoms
abbrev pub paired : List ℕ → List ℕ
paired [] = []
paired (a ∷ rest) = 128 ∷ a ∷ paired rest

-- one atom more
paired_more : (atoms : List ℕ) (a : ℕ) → paired (atoms ++ a ∷ []) ≡ paired atoms ++ 128 ∷ a ∷ []
paired_more [] a = refl
paired_more (b ∷ rest) a = ap (λ (l : List ℕ). 128 ∷ b ∷ l) (paired_more rest a)

-- n atoms are 2 n bytes
pub length_paired : (atoms : List ℕ) → length (paired atoms) ≡ 2 * length atoms
length_paired [] = refl
length_paired (a ∷ rest) = omega (arith, length_paired rest)

-- the first atoms, and the one behind them
pub paired_next : (atoms : List ℕ) (i : ℕ) → i < length atoms
    → paired (take i atoms) ++ 128 ∷ get_or atoms i 0 ∷ [] ≡ paired (take (i + 1) atoms)
paired_next atoms i h = sym (ap paired (take_more atoms i 0 h) ∙ paired_more (take i atoms) (get_or atoms i 0))

-- a side is all atoms but the last, and the last
pub front_end : (i : ℕ) (atoms : List ℕ) → i + 1 ≡ length atoms → paired (take i atoms) ++ drop i atoms ≡ front atoms
front_end i [] e = absurd (omega (arith, e))
front_end zero (a ∷ []) e = refl
front_end zero (a ∷ b ∷ rest) e = absurd (omega (arith, e))
front_end (suc i) (a ∷ []) e = absurd (omega (arith, e))
front_end (suc i) (a ∷ b ∷ rest) e = ap (λ (l : List ℕ). 128 ∷ a ∷ l) (front_end i (b ∷ rest) (omega (arith, e)))

-- and n atoms are 2 n - 1 bytes
pub length_front : (atoms : List ℕ) → 0 < length atoms → length (front atoms) + 1 ≡ 2 * length atoms
length_front [] h = elim h [ ]
length_front (a ∷ []) h = refl
length_front (a ∷ b ∷ rest) h = omega (arith, length_front (b ∷ rest) (omega arith))
