-- Reading a block after its header: the parts of it that are looked at, and a law for each way in which that ends.
use Rattle.std.proofs.Common.{◌≡◌, ℕ, Option, None, Result, Err, IsErrAnd, ok_or, zero, suc, ◌+◌, ◌-◌, ◌≤◌, true, false, List, [], ◌∷◌, ◌++◌, map, length, take, drop, sym, ap, ◌∙◌, inl, inr, arith, length-take, take_at}
use native.Mathlib.Nat.{sub-zero}
use Rattle.std.proofs.lemmas.List.{take-map}
use lib.ListN.{length-map}
use lib.Seq.{slice, take-nil, take-length}
use Rattle.ac.specs.Lists.{receives}
use Rattle.ac.specs.Term.{flatten}
use Rattle.numbers.specs.First.{also}
use Rattle.numbers.specs.declared.Refusal.{Refusal}
use Rattle.numbers.specs.declared.Refusal.TheVariants as refusal
use Rattle.block.specs.Front.{Writes, on_the_right, left_side, right_side}
use Rattle.block.specs.Block.{left_term, right_term, filler}
use Rattle.block.specs.Table.{NoTerm}
use Rattle.numbers.specs.Outcome.{given, is_given}
use Rattle.block.specs.Read.{ReadPromise, sides}
use Rattle.block.specs.Inner.{SideTerm, all_zero, BlockRefuses, HeaderLengths}
use Rattle.std.proofs.lemmas.Result.{err_from_is_err_and}
use Rattle.block.specs.declared.Sides.{Sides}
use Rattle.block.specs.declared.header.TermLengths.{TermLengths}
use Rattle.block.proofs.Settled.{term_first, filler_first, none_given, not_16}
use Rattle.block.proofs.Terms.{atoms_of_term}

-- a part of a list, as it is lent, is that slice of the list
part_is_slice : (from to : ℕ) (l : List ℕ) → from ≤ to → take (to - from) (drop from l) ≡ slice from to l
part_is_slice zero to l h = ap (λ (n : ℕ). take n l) (sub-zero to)
part_is_slice (suc from) zero l h = absurd (omega arith)
part_is_slice (suc from) (suc to) [] h = take-nil (suc to - suc from)
part_is_slice (suc from) (suc to) (a ∷ l) h =
    let e : suc to - suc from ≡ to - from = omega arith in
    ap (λ (n : ℕ). take n (drop from l)) e ∙ part_is_slice from to l (omega arith)

-- what is returned where a term is missing
pub returned_term : {result : Result Sides Refusal} {found : Option ℕ} {why : Refusal} → found ≡ None
    → Err why ≡ ok_or found refusal.Term
    → IsErrAnd result (λ returned. returned ≡ why)
    → result ≡ Err refusal.Term
returned_term {result} none is_why is_returned =
    let why_is = rw none at is_why in
    let returned = err_from_is_err_and result is_returned in
    cc (why_is, returned.1, returned.2)

-- what a buffer holds into which atoms are copied
abbrev copied : List ℕ → List ℕ → List ℕ
copied side lent = take (length side) side ++ drop (length side) lent

module _ {bytes buffer after : List ℕ} {count : ℕ} (f : SideTerm bytes buffer count after) where
  -- the front of the array is the flattened side
  side_is : take count after ≡ flatten f.term
  side_is = ap (take count) f.after_is
      ∙ take_at (flatten f.term) (drop (length (flatten f.term)) buffer) count (sym f.count_is)

  -- a term of at most 127 bytes has at most 64 atoms
  pub count_fits : length bytes ≤ 127 → count ≤ 64
  count_fits short = omega (arith, f.count_is, atoms_of_term f.writes short)

  -- a buffer into which the atoms are copied receives the left side
  pub left_copied : (lent : List ℕ) → copied (take count after) lent ≡ receives lent (left_side f.term)
  left_copied lent = rw (side_is, take-length)

  -- and a buffer into which they are copied renamed receives the right side
  pub right_copied : {renamed : List ℕ} → renamed ≡ map on_the_right after → (lent : List ℕ)
      → copied (take count renamed) lent ≡ receives lent (right_side f.term)
  right_copied {renamed} is lent =
      let front : take count renamed ≡ right_side f.term =
      ap (take count) is ∙ take-map on_the_right count after ∙ ap (map on_the_right) side_is in
      rw (front, take-length)

-- the parts of a block that are lent, for terms of these lengths: the left term, the right term and the filler
module _ (block : List ℕ) (l r : ℕ) where
  abbrev left_part : List ℕ
  left_part = take (4 + l - 4) (drop 4 block)

  abbrev right_part : List ℕ
  right_part = take (4 + l + r - (4 + l)) (drop (4 + l) block)

  abbrev filler_part : List ℕ
  filler_part = take (510 - (4 + l + r)) (drop (4 + l + r) block)

  -- a term has at most as many bytes as its length says
  pub left_short : l ≤ 127 → length left_part ≤ 127
  left_short short = simp length-take (omega arith)

  pub right_short : r ≤ 127 → length right_part ≤ 127
  right_short short = simp length-take (omega arith)

module _ {block : List ℕ} {number : ℕ} {lengths : TermLengths} (h : HeaderLengths block number lengths) where
  abbrev l : ℕ
  l = lengths.left

  abbrev r : ℕ
  r = lengths.right

  -- both terms end before the check
  pub terms_fit : (length block ≡ 512) × (l ≤ 127) × (r ≤ 127)
  terms_fit = (
    h.good.whole,
    omega (arith, h.left_is, h.good.left_length),
    omega
        (arith, h.right_is, h.good.right_length),
  )

  -- each part is the one that the block's definition names
  left_part_is : left_part block l r ≡ left_term block
  left_part_is = part_is_slice 4 (4 + l) block (omega arith) ∙ rw h.left_is

  right_part_is : right_part block l r ≡ right_term block
  right_part_is = part_is_slice (4 + l) (4 + l + r) block (omega arith) ∙ rw (h.left_is, h.right_is)

  filler_part_is : filler_part block l r ≡ filler block
  filler_part_is = part_is_slice (4 + l + r) 510 block (omega (arith, terms_fit)) ∙ rw (h.left_is, h.right_is)

  -- where a part is no term, the number is 5
  pub left_missing : NoTerm (left_part block l r) → BlockRefuses block number refusal.Term
  left_missing none = term_first h.good (inl (rw left_part_is at none))

  pub right_missing : NoTerm (right_part block l r) → BlockRefuses block number refusal.Term
  right_missing none = term_first h.good (inr (rw right_part_is at none))

  module _
      {left_before left_after right_before right_after : List ℕ} {m n : ℕ}
      (f : SideTerm (left_part block l r) left_before m left_after)
      (g : SideTerm (right_part block l r) right_before n right_after)
    where
      left_writes : Writes (left_term block) f.term
      left_writes = rw left_part_is at f.writes

      right_writes : Writes (right_term block) g.term
      right_writes = rw right_part_is at g.writes

      -- where a filler byte is not 0, the number is 6
      pub filler_wrong : all_zero (filler_part block l r) ≡ false → BlockRefuses block number refusal.Filler
      filler_wrong e = filler_first h.good left_writes right_writes (rw filler_part_is at e)

      -- and where all is well, the sides are read
      pub sides_read :
          {left right left_exit right_exit : List ℕ} →
          64 ≤ length left →
          64 ≤ length right →
          all_zero (filler_part block l r) ≡ true →
          left_exit ≡ receives left (left_side f.term) →
          right_exit ≡ receives right (right_side g.term) →
          ReadPromise block number left right (given (record { left = m; right = n })) left_exit right_exit
      sides_read {left} {right} left_fits right_fits e left_is right_is =
          rw (f.count_is, g.count_is ∙ sym (length-map (flatten g.term) on_the_right), left_is, right_is)
          (is_given
          (also (not_16 left_fits right_fits)
          (none_given h.good left_writes right_writes (rw filler_part_is at e) left right))
          (sides left_writes right_writes))
