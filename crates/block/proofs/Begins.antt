-- The term that some bytes begin with: which bytes begin with one, and with which.
use Rattle.std.proofs.Common.{◌≡◌, ℕ, List, [], ◌∷◌, ◌++◌, sym, refl, ap, ◌∙◌, append_assoc, append-nil}
use Rattle.ac.specs.Term.{Term, atom, plus}
use Rattle.block.specs.Front.{encode, Writable, one, two, Writes}
use Rattle.block.specs.Table.{NoTerm}
use Rattle.block.specs.Inner.{Begins, BeginsNone}
use Rattle.block.proofs.Terms.{plus_is_no_atom, one_reading}

-- after 128 stand two terms
pub plus_begins : {bytes : List ℕ} {s t : Term} (b : Begins bytes s) → Begins b.rest t
    → Begins (128 ∷ bytes) (plus s t)
plus_begins {bytes} {s} {t} b c =
    record {
      rest = c.rest;
      splits =
          ap (λ (l : List ℕ). 128 ∷ l)
          (b.splits ∙ ap (λ (l : List ℕ). encode s ++ l) c.splits
          ∙ sym (append_assoc (encode s) (encode t) c.rest));
      writable = two b.writable c.writable;
    }

-- the two terms after 128
record Two (bytes : List ℕ) : Type 0 where
  left : Term
  right : Term
  first : Begins bytes left
  second : Begins first.rest right

-- a term that begins with 128 is a plus
after_plus : {bytes : List ℕ} (t : Term) → Begins (128 ∷ bytes) t → Two bytes
after_plus (atom a) b = absurd (go b.writable (let e : a ≡ 128 = cc b.splits in e))
  where
    go : Writable (atom a) → a ≡ 128 → ⊥
    go (one m) e = plus_is_no_atom m e
after_plus {bytes} (plus s t) b =
    go b.writable (let e : bytes ≡ (encode s ++ encode t) ++ b.rest = cc b.splits in e)
  where
    go : Writable (plus s t) → bytes ≡ (encode s ++ encode t) ++ b.rest → Two bytes
    go (two v w) e =
        record {
          left = s;
          right = t;
          first = record {
            rest = encode t ++ b.rest;
            splits = e
                ∙ append_assoc (encode s) (encode t) b.rest;
            writable = v;
          };
          second = record { rest = b.rest; splits = refl; writable = w };
        }

-- where no term stands after 128, or none after the first, the bytes begin with none
pub first_missing : {bytes : List ℕ} → BeginsNone bytes → BeginsNone (128 ∷ bytes)
first_missing none t b = let w = after_plus t b in none w.left w.first

-- nor where none stands after the first
pub second_missing : {bytes : List ℕ} {s : Term} (b : Begins bytes s) → BeginsNone b.rest → BeginsNone (128 ∷ bytes)
second_missing {bytes} {s} b none t c =
    let w = after_plus t c in
    let same : b.rest ≡ w.first.rest =
    (one_reading b.writable w.first.writable (sym b.splits ∙ w.first.splits)).1 in
    none w.right (rw same w.second)

-- bytes that are a term begin with it
pub writes_begins : {bytes : List ℕ} {t : Term} → Writes bytes t → Begins bytes t
writes_begins {bytes} {t} w =
    record { rest = []; splits = w.exactly ∙ sym (append-nil (encode t)); writable = w.writable }

-- bytes that begin with no term are none
pub nothing_is_no_term : {bytes : List ℕ} → BeginsNone bytes → NoTerm bytes
nothing_is_no_term none t w = none t (writes_begins w)
