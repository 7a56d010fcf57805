-- What flattening finds at the start of some bytes, and what the buffer holds after it.
use Rattle.std.proofs.Common.{◌≡◌, ℕ, ◌⊎◌, ◌+◌, ◌-◌, ◌*◌, ◌<◌, ◌≤◌, List, [], ◌∷◌, ◌++◌, Some, slice_get, length, take, drop, set, sym, refl, ap, ◌∙◌, subst, inl, inr, append_assoc, append-nil, arith, length-append, length-drop, drop-drop, take_at, drop_at}
use borrow.Author.Rules.{part_to_end}
use borrow.Rule.Slice.PartMut.{put_mid, Post-is}
use lib.Seq.{drop-length}
use Rattle.ac.specs.Lists.{receives}
use Rattle.ac.specs.Term.{Term, atom, plus, flatten}
use Rattle.block.specs.Front.{encode, MayBeWritten, one}
use Rattle.block.specs.Table.{NoTerm}
use Rattle.block.specs.Inner.{Classified, Begins, FoundTerm, BeginsNone}
use Rattle.block.specs.declared.term.ByteKind.{ByteKind}
use Rattle.block.specs.declared.term.ByteKind.TheVariants.{Variable, Constant}
use Rattle.block.specs.declared.term.Flattened.{Flattened}
use Rattle.block.proofs.Terms.{one_reading, bytes_of-atoms}
use Rattle.block.proofs.Begins.{plus_begins, first_missing, second_missing, writes_begins}

-- a variable or a constant may be written
pub atom_may_be_written : {b : ℕ} {kind : ByteKind} → Classified b kind → (kind ≡ Variable) ⊎ (kind ≡ Constant)
    → MayBeWritten b
atom_may_be_written classified (inl e) = inl (rw e at classified)
atom_may_be_written classified (inr e) = inr (rw e at classified)

-- bytes are the first of them and those after it
pub first_byte : {bytes : List ℕ} {b : ℕ} → Some b ≡ slice_get bytes 0 → bytes ≡ b ∷ drop 1 bytes
first_byte {bytes = []} e = cc e
first_byte {bytes = a ∷ rest} e = cc e

pub plus_first : {bytes : List ℕ} {b : ℕ} → Some b ≡ slice_get bytes 0 → b ≡ 128 → bytes ≡ 128 ∷ drop 1 bytes
plus_first {bytes} is_first is_plus = rw is_plus at (first_byte {bytes = bytes} is_first)

-- where the first byte is an atom, it is found
pub atom_found : {bytes buffer : List ℕ} {a : ℕ} → bytes ≡ a ∷ drop 1 bytes → MayBeWritten a → 0 < length buffer
    → FoundTerm bytes buffer (record { bytes = 1; atoms = 1 }) (set buffer 0 a)
atom_found {buffer = []} whole may room = absurd (omega arith)
atom_found {bytes} {buffer = b ∷ buffer} {a} whole may room =
    record {
      term = atom a;
      begins = record { rest = drop 1 bytes; splits = whole; writable = one may };
      bytes_is = refl;
      atoms_is = refl;
      after_is = refl;
    }

-- where no term stands after a plus, the bytes begin with none
pub first_nothing : {bytes : List ℕ} → bytes ≡ 128 ∷ drop 1 bytes → BeginsNone (drop 1 bytes) → BeginsNone bytes
first_nothing is_plus none = subst BeginsNone (sym is_plus) (first_missing none)

-- what a buffer receives of a sum: the first term's atoms, then after them the second's
receives-append : (buffer xs ys : List ℕ) → receives buffer (xs ++ ys) ≡ xs ++ receives (drop (length xs) buffer) ys
receives-append buffer xs ys = simp (append_assoc, length-append, drop-drop)

-- a list without members is the empty one
length_zero : (l : List ℕ) → length l ≡ 0 → l ≡ []
length_zero [] e = refl
length_zero (a ∷ l) e = absurd (omega (arith, e))

-- the bytes of the term are among the bytes, and n bytes are (n + 1) / 2 atoms
pub found_sizes : {bytes buffer after : List ℕ} {found : Flattened} → FoundTerm bytes buffer found after
    → (found.bytes ≤ length bytes) × (found.bytes + 1 ≡ 2 * found.atoms)
found_sizes f = omega (
  arith,
  bytes_of-atoms f.term,
  simp length-append at (ap length f.begins.splits),
  f.bytes_is,
  f.atoms_is,
)

-- the bytes left after a plus and the first term
pub left_for_second : (bytes : List ℕ) (used : ℕ)
    → take (length bytes - (1 + used)) (drop (1 + used) bytes) ≡ drop used (drop 1 bytes)
left_for_second bytes used = part_to_end bytes (1 + used) ∙ sym (drop-drop used 1 bytes)

module _ {bytes buffer after : List ℕ} {found : Flattened} (f : FoundTerm bytes buffer found after) where
  -- the bytes after the term
  rest_is : drop found.bytes bytes ≡ f.begins.rest
  rest_is = ap (drop found.bytes) f.begins.splits
      ∙ drop_at (encode f.term) f.begins.rest found.bytes (sym f.bytes_is)

  -- where bytes are left over, they are none
  pub left_over_is_no_term : found.bytes < length bytes → NoTerm bytes
  left_over_is_no_term over t w =
      let same : f.term ≡ t = (one_reading f.begins.writable w.writable
      (sym f.begins.splits ∙ (writes_begins w).splits)).0 in
      omega (arith, ap length w.exactly, ap (λ (u : Term). length (encode u)) same, f.bytes_is)

  -- the buffer's atoms, and what stands after them
  front_is : take found.atoms after ≡ flatten f.term
  front_is = ap (take found.atoms) f.after_is
      ∙ take_at (flatten f.term) (drop (length (flatten f.term)) buffer) found.atoms (sym f.atoms_is)

  -- and what stands after them
  back_is : drop found.atoms after ≡ drop (length (flatten f.term)) buffer
  back_is = ap (drop found.atoms) f.after_is
      ∙ drop_at (flatten f.term) (drop (length (flatten f.term)) buffer) found.atoms (sym f.atoms_is)

  -- there is room for the atoms
  pub filled_within : found.atoms ≤ length after
  filled_within = omega (arith, simp length-append at (ap length f.after_is), f.atoms_is)

  -- and behind them for those of a second term
  pub room_for_second : length bytes + 1 < 2 * length buffer → length after ≡ length buffer
      → length (drop found.bytes bytes) < 2 * length (drop found.atoms after)
  room_for_second fits same = simp length-drop (let sizes = found_sizes f in omega arith)

  -- where no second term stands there is no term
  pub second_nothing : {all : List ℕ} → all ≡ 128 ∷ bytes → BeginsNone (drop found.bytes bytes) → BeginsNone all
  second_nothing is_plus none = subst BeginsNone (sym is_plus) (second_missing f.begins (rw rest_is at none))

  module _ {end : List ℕ} {next : Flattened} (g : FoundTerm (drop found.bytes bytes) (drop found.atoms after) next end)
    where
      both : Begins (128 ∷ bytes) (plus f.term g.term)
      both = plus_begins f.begins (rw rest_is at g.begins)

      -- the plus, the first term's bytes and the second's
      bytes_add_up : length (encode (plus f.term g.term)) ≡ 1 + found.bytes + next.bytes
      bytes_add_up = omega (arith, length-append (encode f.term) (encode g.term), f.bytes_is, g.bytes_is)

      -- the first term's atoms and the second's
      atoms_add_up : length (flatten (plus f.term g.term)) ≡ found.atoms + next.atoms
      atoms_add_up =
          omega (arith, length-append (flatten f.term) (flatten g.term), f.atoms_is, g.atoms_is)

      -- the buffer has the first term's atoms, and the second's behind them
      buffer_holds_both : receives buffer (flatten (plus f.term g.term))
          ≡ put_mid found.atoms (length after - found.atoms) after end
      buffer_holds_both =
          cc (
            receives-append buffer (flatten f.term) (flatten g.term),
            back_is,
            g.after_is,
            append-nil end,
            Post-is found.atoms (length after) after filled_within,
            drop-length after,
            front_is,
          )

      -- so the two terms, with the plus before them, were found
      pub found_both :
          {all : List ℕ} → all ≡ 128 ∷ bytes → FoundTerm all buffer
          (record { bytes = 1 + found.bytes + next.bytes; atoms = found.atoms + next.atoms })
          (put_mid found.atoms (length after - found.atoms) after end)
      found_both is_plus =
          record {
            term = plus f.term g.term;
            begins = subst (λ (l : List ℕ). Begins l (plus f.term g.term)) (sym is_plus) both;
            bytes_is = sym bytes_add_up;
            atoms_is = sym atoms_add_up;
            after_is = sym buffer_holds_both;
          }
