-- Laws of names and values: how long they are, and how a value grows by an atom.
use Prim.Native.Nat.{ℕ, zero, suc, ◌+◌, ◌-◌, ◌*◌, ◌<◌, ◌≤◌}
use native.Mathlib.Omega.{arith}
use native.Mathlib.Decide.{dec_lt}
use mathlib.Core.Path.{◌≡◌, ap, sym, ◌∙◌}
use mathlib.Core.Bool.{Bool, cond}
use mathlib.Core.List.{List, [], ◌∷◌, ◌++◌, append_assoc, append-nil}
use lib.ListN.{length, length-append, length-take, length-drop, take, drop, get_or}
use lib.Seq.{take-suc, take_all}
use lib.Dec.{ltb}
use borrow.Author.Tests.{lt-ltb, le-ltb}
use Rattle.text.specs.Decimal.{decimal}
use Rattle.text.specs.Text.{name, further, joined}
use Rattle.text.proofs.Decimals.{decimal_short}

-- the three kinds of names
pub name_variable : (a : ℕ) → a < 64 → 118 ∷ decimal a ≡ name a
name_variable a h = sym (ap (λ (b : Bool). cond b (118 ∷ decimal a)
    (cond (ltb a 192) (99 ∷ decimal (a - 64)) (110 ∷ decimal (a - 192)))) (lt-ltb a 64 h))

-- from 64 on constants ..
pub name_constant : (a : ℕ) → 64 ≤ a → a < 192 → 99 ∷ decimal (a - 64) ≡ name a
name_constant a h h' =
    sym
    (ap (λ (b : Bool). cond b (118 ∷ decimal a)
    (cond (ltb a 192) (99 ∷ decimal (a - 64)) (110 ∷ decimal (a - 192)))) (le-ltb a 64 h)
    ∙ ap (λ (b : Bool). cond b (99 ∷ decimal (a - 64)) (110 ∷ decimal (a - 192))) (lt-ltb a 192 h'))

-- .. and from 192 on new variables
pub name_new : (a : ℕ) → 192 ≤ a → 110 ∷ decimal (a - 192) ≡ name a
name_new a h =
    sym
    (ap (λ (b : Bool). cond b (118 ∷ decimal a)
    (cond (ltb a 192) (99 ∷ decimal (a - 64)) (110 ∷ decimal (a - 192)))) (le-ltb a 64 (omega arith))
    ∙ ap (λ (b : Bool). cond b (99 ∷ decimal (a - 64)) (110 ∷ decimal (a - 192))) (le-ltb a 192 h))

-- a byte's name is at most four bytes long
pub name_short : (a : ℕ) → a < 256 → length (name a) ≤ 4
name_short a h = go (dec_lt a 64) (dec_lt a 192)
  where
    go : Dec (a < 64) → Dec (a < 192) → length (name a) ≤ 4
    go (yes v) d = omega (arith, ap length (name_variable a v), decimal_short 2 a (omega arith))
    go (no v) (yes c) =
        omega (arith, ap length (name_constant a (omega arith) c), decimal_short 2 (a - 64) (omega arith))
    go (no v) (no c) = omega (arith, ap length (name_new a (omega arith)), decimal_short 2 (a - 192) (omega arith))

-- further atoms are named one after the other
further-append : (xs : List ℕ) (b : ℕ) → further (xs ++ (b ∷ [])) ≡ further xs ++ (43 ∷ name b)
further-append [] b = simp append-nil
further-append (a ∷ xs) b = ap (λ (l : List ℕ). (43 ∷ name a) ++ l) (further-append xs b)
    ∙ sym (append_assoc (43 ∷ name a) (further xs) (43 ∷ name b))

-- further atoms grow by a + and a name
pub further_next : (atoms : List ℕ) (i : ℕ) → i < length atoms
    → further (take i atoms) ++ (43 ∷ name (get_or atoms i 0)) ≡ further (take (i + 1) atoms)
further_next atoms i h =
    sym (further-append (take i atoms) (get_or atoms i 0))
    ∙ ap further (sym (take-suc atoms i 0 h))
    ∙ ap (λ (k : ℕ). further (take k atoms)) (let e : suc i ≡ i + 1 = omega arith in e)

-- every atom is a byte, so its name with the + is at most five bytes long
pub further_short : (atoms : List ℕ) (n : ℕ) → ((i : ℕ) → get_or atoms i 0 < 256)
    → length (further (take n atoms)) ≤ 5 * n
further_short atoms zero bytes = omega arith
further_short [] (suc n) bytes = omega arith
further_short (a ∷ atoms) (suc n) bytes =
    omega (
      arith,
      length-append (43 ∷ name a) (further (take n atoms)),
      name_short a (bytes 0),
      further_short
          atoms n (λ i. bytes (suc i)),
    )

-- the atoms after the first
unfoldable pub tail : List ℕ → List ℕ
tail atoms = take (length atoms - 1) (drop 1 atoms)

-- they are one less
pub length_tail : (atoms : List ℕ) → 0 < length atoms → length (tail atoms) ≡ length atoms - 1
unfolding tail
length_tail atoms h = omega (arith, length-take (length atoms - 1) (drop 1 atoms), length-drop 1 atoms)

-- a value is its first atom's name and the further ones
pub joined_first : (atoms : List ℕ) → 0 < length atoms
    → name (get_or atoms 0 0) ++ further (tail atoms) ≡ joined atoms
unfolding tail
joined_first [] h = absurd (omega arith)
joined_first (a ∷ atoms) h =
    ap (λ (l : List ℕ). name a ++ further l) (take_all (suc (length atoms) - 1) atoms (omega arith))
