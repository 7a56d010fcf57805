-- What Read gives, of a block that it accepts: the flattened sides of the block's two terms, which Write accepts.
use Rattle.std.proofs.Common.{ℕ, ◌+◌, ◌≤◌, arith, ◌≡◌, refl, ap, false, inl, inr, List, [], ◌∷◌, map, length, take}
use native.Mathlib.Decide.{ℕ_discrete}
use mathlib.Core.List.{Memᴰ}
use lib.ListN.{length-map}
use lib.Seq.{take-append_seam, length-slice}
use Rattle.ac.specs.Term.{Term, flatten}
use Rattle.numbers.specs.First.{NoneOf}
use Rattle.numbers.specs.Order.{read_numbers}
use Rattle.numbers.specs.Outcome.{given}
use Rattle.numbers.proofs.Carried.{elsewhere, its_member, none_given}
use Rattle.numbers.proofs.Promises.{given_none, given_gives}
use Rattle.block.specs.Front.{MayBeWritten, on_the_right, Writes, left_side, right_side}
use Rattle.block.specs.Block.{block_number as number_of_block, left_length, right_length, left_term as term_on_left, right_term as term_on_right, filler, check, check_of_bytes}
use Rattle.block.specs.Inner.{IsLength, GoodHeader}
use Rattle.block.specs.Table.{ReadGiven, NoLength, block_length, check_differs, block_number, term_length, filler_byte}
use Rattle.block.specs.Read.{SideLengths, ReadGives, sides, ReadPromise}
use Rattle.pair.proofs.Telling.{at_most}
use Rattle.block.proofs.Renamed.{variable_higher, constant_stays}
use Rattle.block.proofs.Terms.{atoms_of_term}
use Rattle.writing.proofs.Accepted.{OnTheRight, Acceptable}
use Rattle.writing.proofs.Shapes.{atoms_writable}

-- numbers that are not different are the same
not_different : (m n : ℕ) → ((m ≡ n → ⊥) → ⊥) → m ≡ n
not_different m n not_other = go (ℕ_discrete m n)
  where
    go : Dec (m ≡ n) → m ≡ n
    go (yes same) = same
    go (no other) = absurd (not_other other)

-- a length that a term may have
is_length : (n : ℕ) → (NoLength n → ⊥) → IsLength n
is_length n not_none = go (ℕ_discrete n 0)
  where
    go : Dec (n ≡ 0) → IsLength n
    go (yes zero) = absurd (not_none (inl zero))
    go (no some) = (omega arith, at_most n 127 (λ above. not_none (inr above)))

-- the two sides are those of the block's terms, and nothing is wrong with the block
pub record WasRead (block : List ℕ) (number : ℕ) (L R : List ℕ) : Type 0 where
  pub left_term : Term
  pub right_term : Term
  pub left_writes : Writes (term_on_left block) left_term
  pub right_writes : Writes (term_on_right block) right_term
  pub left_is : L ≡ left_side left_term
  pub right_is : R ≡ right_side right_term
  pub good : GoodHeader block number
  pub zeros : (b : ℕ) → Memᴰ b (filler block) → b ≡ 0

-- where no number is given, nothing is wrong
module _ {block : List ℕ} {number : ℕ} {left right : List ℕ}
    (none : NoneOf (ReadGiven block number left right) read_numbers) where
  not_given : (n : ℕ) → elsewhere n read_numbers ≡ false → ReadGiven block number left right n → ⊥
  not_given n its = none_given none (its_member read_numbers its)

  header_good : GoodHeader block number
  header_good =
      record {
        whole = not_different (length block) 512 (λ other. not_given 1 refl (block_length other));
        checked = not_different (check block) (check_of_bytes block) (λ other. not_given 2 refl (check_differs other));
        numbered = not_different (number_of_block block) number (λ other. not_given 3 refl (block_number other));
        left_length = is_length (left_length block) (λ no_length. not_given 4 refl (term_length (inl no_length)));
        right_length = is_length (right_length block) (λ no_length. not_given 4 refl (term_length (inr no_length)));
      }

  filler_zeros : (b : ℕ) → Memᴰ b (filler block) → b ≡ 0
  filler_zeros b m = not_different b 0 (λ other. not_given 6 refl (filler_byte b m other))

-- Of a block that is accepted the first bytes of the two buffers are such sides.
pub was_read : {block : List ℕ} {number : ℕ} {left right left' right' : List ℕ} {lengths : SideLengths}
    → ReadPromise block number left right (given lengths) left' right'
    → WasRead block number (take lengths.left left') (take lengths.right right')
was_read {block} {number} {left} {right} promise = by_gives (given_none promise) (given_gives promise)
  where
    by_gives : {left' right' : List ℕ} {lengths : SideLengths} → NoneOf (ReadGiven block number left right) read_numbers
        → ReadGives block left right lengths (left', right')
        → WasRead block number (take lengths.left left') (take lengths.right right')
    by_gives none (sides {s = s} {t = t} v w) =
        record {
          left_term = s;
          right_term = t;
          left_writes = v;
          right_writes = w;
          left_is = take-append_seam (left_side s) _;
          right_is = take-append_seam (right_side t) _;
          good = header_good none;
          zeros = filler_zeros none;
        }

-- the right side's atoms are v32 to v63 and constants
renamed_range : (side : List ℕ) → ((a : ℕ) → Memᴰ a side → MayBeWritten a)
    → (a : ℕ) → Memᴰ a (map on_the_right side) → OnTheRight a
renamed_range [] all a m = elim m [ ]
renamed_range (b ∷ side) all a (Memᴰ.head same) = by_kind (all b (Memᴰ.head refl))
  where
    by_kind : MayBeWritten b → OnTheRight a
    by_kind (inl variable) = omega (arith, same, variable_higher {a = b} (omega arith))
    by_kind (inr constant) = omega (arith, same, constant_stays {a = b} constant.0)
renamed_range (b ∷ side) all a (Memᴰ.tail m) = renamed_range side (λ c n. all c (Memᴰ.tail n)) a m

-- So Write accepts them.
module _ {block : List ℕ} {number : ℕ} {L R : List ℕ} (read : WasRead block number L R) where
  -- a term has as many bytes as its length says
  pub left_length_is : length (term_on_left block) ≡ left_length block
  left_length_is =
      let fits : 4 + left_length block ≤ length block = omega (arith, read.good.whole, read.good.left_length) in
      omega (arith, length-slice 4 (4 + left_length block) block fits)

  pub right_length_is : length (term_on_right block) ≡ right_length block
  right_length_is =
      let fits : 4 + left_length block + right_length block ≤ length block =
      omega (arith, read.good.whole, read.good.left_length, read.good.right_length) in
      omega (arith, length-slice (4 + left_length block) (4 + left_length block + right_length block) block fits)

  pub read_acceptable : Acceptable L R
  read_acceptable =
      let left_count = atoms_of_term read.left_writes (omega (arith, left_length_is, read.good.left_length)) in
      let right_count = atoms_of_term read.right_writes (omega (arith, right_length_is, read.good.right_length)) in
      let same = length-map (flatten read.right_term) on_the_right in
      let L_is = ap length read.left_is in
      let R_is = ap length read.right_is in
      record {
        within = record {
          left_some = omega (arith, left_count, L_is);
          left_few = omega (arith, left_count, L_is);
          right_some = omega (arith, right_count, R_is, same);
          right_few = omega (arith, right_count, R_is, same);
        };
        left_atoms = rw read.left_is (atoms_writable read.left_writes.writable);
        right_atoms = rw read.right_is (renamed_range (flatten read.right_term)
            (atoms_writable read.right_writes.writable));
      }
