-- "Reading what was written gives the same sides in the same order" (document 02, R-3), by what the two questions
-- promise alone.
use Rattle.std.proofs.Common.{ℕ, ◌≤◌, ◌<◌, arith, ◌≡◌, ap, sym, subst, ◌∙◌, true, List, map, length, take, take_at}
use lib.ListN.{length-map}
use Rattle.ac.specs.Lists.{receives}
use Rattle.ac.specs.Term.{Term}
use Rattle.numbers.specs.First.{also}
use Rattle.numbers.specs.Outcome.{Outcome, given, is_given}
use Rattle.numbers.proofs.Promises.{given_none, given_gives, outcome_determined}
use Rattle.block.specs.Front.{Writes, on_the_right, left_side, right_side}
use Rattle.block.specs.Block.{left_term, right_term, filler}
use Rattle.block.specs.Inner.{all_zero, GoodHeader}
use Rattle.block.specs.Read.{SideLengths, ReadPromise, sides}
use Rattle.block.proofs.Settled as reading
use Rattle.block.proofs.Determined.{one_read}
use Rattle.writing.specs.Written.{front, as_written, block_of}
use Rattle.writing.specs.Write.{WriteGives, written, WritePromise}
use Rattle.writing.proofs.Accepted.{Acceptable, accepted}
use Rattle.writing.proofs.Lower.{all_lower_writable, all-renamed-lower}
use Rattle.writing.proofs.Sides.{Lengths, left_fits, right_fits, block_length}
use Rattle.writing.proofs.Shapes.{side_written}
use Rattle.writing.proofs.Laid.{left_term_is, right_term_is, block_good, filler_zero}

-- the lengths of two sides
abbrev lengths_of : List ℕ → List ℕ → SideLengths
lengths_of L R = record { left = length L; right = length R }

-- a block of a good header, with two terms and zeros behind them, is read as their sides
sides_given : {block : List ℕ} {number : ℕ} {s t : Term} → GoodHeader block number → Writes (left_term block) s
    → Writes (right_term block) t
    → all_zero (filler block) ≡ true → {L R left right : List ℕ} → left_side s ≡ L → right_side t ≡ R
    → 64 ≤ length left → 64 ≤ length right
    → ReadPromise block number left right (given (lengths_of L R)) (receives left L) (receives right R)
sides_given good s_writes t_writes zero {L} {R} {left} {right} left_is right_is left_enough right_enough =
    rw (sym left_is, sym right_is)
    (is_given
    (also (reading.not_16 left_enough right_enough) (reading.none_given good s_writes t_writes zero left right))
    (sides s_writes t_writes))

-- Read gives the sides of the block that is written of them
block_read : {L R : List ℕ} → Acceptable L R → (number : ℕ) {left right : List ℕ} → 64 ≤ length left
    → 64 ≤ length right
    → ReadPromise (block_of number L R) number left right (given (lengths_of L R)) (receives left L) (receives right R)
block_read {L} {R} may number =
    let right_term = map as_written R in
    let some : 0 < length right_term = omega (arith, length-map R as_written, may.within.right_some) in
    let s = side_written L may.within.left_some may.left_atoms in
    let t = side_written right_term some (all_lower_writable R may.right_atoms) in
    let fits = left_fits may.within in
    let fits' = right_fits may.within in
    sides_given {s = s.term} {t = t.term} (block_good number (front L) (front right_term) fits fits')
    (rw (left_term_is number (front L) (front right_term)) s.writes)
    (rw (right_term_is number (front L) (front right_term)) t.writes)
    (filler_zero number (front L) (front right_term) fits fits')
    s.flattens
    (ap (map on_the_right) t.flattens ∙ all-renamed-lower R (λ a m. (may.right_atoms a m).0))

-- the first 512 bytes of a buffer that has received a block are the block
pub block_of_lem : {L R out out' : List ℕ} {number : ℕ} → WritePromise L R number out (given tt) out'
    → take 512 out' ≡ block_of number L R
block_of_lem {L} {R} {number = number} promise =
    by_gives (accepted (given_none promise)).within (given_gives promise)
  where
    by_gives : {out out' : List ℕ} → Lengths L R → WriteGives L R number out tt out'
        → take 512 out' ≡ block_of number L R
    by_gives within written = take_at (block_of number L R) _ 512 (block_length within number)

-- What was written, read with its number into two buffers that are long enough, gives the two sides, each in its order.
pub written_read : {L R out out' : List ℕ} {number : ℕ} {left right left' right' : List ℕ}
    {outcome : Outcome SideLengths}
    → WritePromise L R number out (given tt) out' → 64 ≤ length left → 64 ≤ length right
    → ReadPromise (take 512 out') number left right outcome left' right'
    → (outcome ≡ given (lengths_of L R)) × (left' ≡ receives left L) × (right' ≡ receives right R)
written_read {L} {R} {number = number} {left} {right} {left'} {right'} {outcome} write left_enough right_enough read =
    let may = accepted (given_none write) in
    let read' = subst (λ block. ReadPromise block number left right outcome left' right') (block_of_lem write) read in
    let same = outcome_determined one_read read' (block_read may number left_enough right_enough) in
    (same.0, ap (λ b. b.0) same.1, ap (λ b. b.1) same.1)
