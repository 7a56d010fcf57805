-- Front notation is read in one way at most, and n bytes are (n + 1) / 2 atoms.
use Rattle.std.proofs.Common.{◌≡◌, ℕ, ◌+◌, ◌*◌, ◌<◌, ◌≤◌, List, [], ◌++◌, length, sym, refl, ap, ◌∙◌, inl, inr, append_assoc, arith, length-append}
use Rattle.ac.specs.Term.{Term, atom, plus, flatten}
use Rattle.block.specs.Front.{encode, MayBeWritten, Writable, one, two, Writes}

-- an atom that may be written is below 128
pub atom_below : {a : ℕ} → MayBeWritten a → a < 128
atom_below (inl variable) = omega arith
atom_below (inr constant) = omega arith

-- 128 stands for +, and is no atom
pub plus_is_no_atom : {a : ℕ} → MayBeWritten a → a ≡ 128 → ⊥
plus_is_no_atom m e = omega (arith, atom_below m)

-- Two terms at the start of the same bytes are the same term, and the same bytes follow.
pub one_reading : {s t : Term} {x y : List ℕ} → Writable s → Writable t → encode s ++ x ≡ encode t ++ y
    → (s ≡ t) × (x ≡ y)
one_reading (one m) (one n) e = (cc e, cc e)
one_reading (one {a} m) (two v w) e = absurd (plus_is_no_atom m (let h : a ≡ 128 = cc e in h))
one_reading (two v w) (one {a} n) e = absurd (plus_is_no_atom n (let h : a ≡ 128 = cc e in h))
one_reading {x = x} {y = y} (two {s = s₁} {t = s₂} v w) (two {s = t₁} {t = t₂} v' w') e =
    let tails : (encode s₁ ++ encode s₂) ++ x ≡ (encode t₁ ++ encode t₂) ++ y = cc e in
    let first : (s₁ ≡ t₁) × (encode s₂ ++ x ≡ encode t₂ ++ y) = one_reading v v' (simp append_assoc at tails) in
    let second : (s₂ ≡ t₂) × (x ≡ y) = one_reading w w' first.1 in
    (cc (first.0, second.0), second.1)

-- The bytes of a term are no other term's.
pub writes_unique : {bytes : List ℕ} {s t : Term} → Writes bytes s → Writes bytes t → s ≡ t
writes_unique {s = s} {t = t} v w =
    (one_reading {x = []} {y = []} v.writable w.writable
    (ap (λ (l : List ℕ). l ++ []) (sym v.exactly ∙ w.exactly))).0

-- n bytes are (n + 1) / 2 atoms.
pub bytes_of-atoms : (t : Term) → length (encode t) + 1 ≡ 2 * length (flatten t)
bytes_of-atoms (atom a) = refl
bytes_of-atoms (plus s t) =
    omega (
      arith,
      bytes_of-atoms s,
      bytes_of-atoms t,
      length-append (encode s) (encode t),
      length-append
          (flatten s) (flatten t),
    )

-- So a term of at most 127 bytes has 1 to 64 atoms.
pub atoms_of_term : {bytes : List ℕ} {t : Term} → Writes bytes t → length bytes ≤ 127
    → (1 ≤ length (flatten t)) × (length (flatten t) ≤ 64)
atoms_of_term {t = t} w short = omega (arith, bytes_of-atoms t, ap length w.exactly)
