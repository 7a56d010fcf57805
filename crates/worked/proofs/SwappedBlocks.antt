-- The swap is not claimed for blocks, since Read renumbers the right term (document 02, R-6), and it would be wrong:
-- the block of v0 and v1+c0 and the block of v1+c0 and v0 get different answers.
use Prim.Native.Nat.{ℕ}
use native.Mathlib.Omega.{arith}
use mathlib.Core.Path.{refl, subst₂}
use mathlib.Core.List.Memᴰ
use mathlib.Core.List.{List, [], ◌∷◌}
use lib.ListN.{replicate}
use Rattle.ac.specs.Term.{Term, atom, plus}
use Rattle.ac.specs.Pair.{unifying}
use Rattle.block.specs.Front.{two, Writes}
use Rattle.block.specs.Block.{left_term, right_term}
use Rattle.solver.specs.Values.{values_buffer}
use Rattle.whole.specs.Alike.{SameAnswers, Reads, reads}
use Rattle.whole.proofs.AlikeBlocks.{sides_are}
use Rattle.worked.specs.Answers.{ReadAnswers, ValuesAnswers}
use Rattle.worked.specs.Questions.{TwoBuffers}
use Rattle.worked.specs.Rewritten.{one_way, other_way}
use Rattle.worked.proofs.Reading.{block_gives, header, variable, constant}
use Rattle.worked.proofs.Worked.{computed}

-- v0, and v1+c0
abbrev v0 : Term
v0 = atom 0

abbrev v1+c0 : Term
v1+c0 = plus (atom 1) (atom 64)

-- the bytes of the two blocks are these terms
one_left : Writes (left_term one_way) v0
one_left = record { exactly = refl; writable = variable 0 (omega arith) }

one_right : Writes (right_term one_way) v1+c0
one_right = record { exactly = refl; writable = two (variable 1 (omega arith)) (constant 64 (omega arith)) }

other_left : Writes (left_term other_way) v1+c0
other_left = record { exactly = refl; writable = two (variable 1 (omega arith)) (constant 64 (omega arith)) }

other_right : Writes (right_term other_way) v0
other_right = record { exactly = refl; writable = variable 0 (omega arith) }

-- Read gives v0 and v33+c0 of the one, ..
one_read : ReadAnswers one_way 0 (0 ∷ []) (33 ∷ 64 ∷ [])
one_read = block_gives (header refl refl refl (omega arith)) one_left one_right refl

-- .. and v1+c0 and v32 of the other
other_read : ReadAnswers other_way 0 (1 ∷ 64 ∷ []) (32 ∷ [])
other_read = block_gives (header refl refl refl (omega arith)) other_left other_right refl

-- two buffers of 64 zeros
abbrev zeros : TwoBuffers
zeros = record { left = replicate 64 0; right = replicate 64 0 }

-- Read accepts both.
pub one_reads : Reads one_way (0 ∷ []) (33 ∷ 64 ∷ [])
one_reads = reads (one_read zeros (omega arith) (omega arith)).meets

pub other_reads : Reads other_way (1 ∷ 64 ∷ []) (32 ∷ [])
other_reads = reads (other_read zeros (omega arith) (omega arith)).meets

-- Values gives of key 1 v0=c0+n0 v33=n0 of the one, ..
pub one_values : ValuesAnswers (0 ∷ []) (33 ∷ 64 ∷ []) 1 (0 ∷ 2 ∷ 64 ∷ 192 ∷ 33 ∷ 1 ∷ 192 ∷ [])
one_values = (computed (0 ∷ []) (33 ∷ 64 ∷ []) refl).the_values 1 (Memᴰ.head refl)

-- .. and v1=n0 v32=c0+n0 of the other.
pub other_values : ValuesAnswers (1 ∷ 64 ∷ []) (32 ∷ []) 1 (1 ∷ 1 ∷ 192 ∷ 32 ∷ 2 ∷ 64 ∷ 192 ∷ [])
other_values = (computed (1 ∷ 64 ∷ []) (32 ∷ []) refl).the_values 1 (Memᴰ.head refl)

-- so the first byte differs
sides_differ : SameAnswers unifying (0 ∷ []) (33 ∷ 64 ∷ []) unifying (1 ∷ 64 ∷ []) (32 ∷ []) → ⊥
sides_differ same =
    let out : List ℕ = replicate values_buffer 0 in
    let equal =
    (same.from_values (one_values out (omega arith)).meets (other_values out (omega arith)).meets).1 in
    cc equal

-- The two blocks do not get the same answers, whatever Read was asked and lent.
pub swapped_blocks_differ : {L R L' R' : List ℕ} → Reads one_way L R → Reads other_way L' R'
    → SameAnswers unifying L R unifying L' R' → ⊥
swapped_blocks_differ {L' = L'} {R'} one other same =
    let sides = sides_are one one_left one_right in
    let others = sides_are other other_left other_right in
    sides_differ
    (subst₂ (λ l r. SameAnswers unifying (0 ∷ []) (33 ∷ 64 ∷ []) unifying l r) others.0 others.1
    (subst₂ (λ l r. SameAnswers unifying l r unifying L' R') sides.0 sides.1 same))
