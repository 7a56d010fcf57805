-- Laws of what is asked of a block: the sides that Read gave fit their buffers.
use Prim.Native.Nat.{ℕ, ◌≤◌}
use native.Mathlib.Omega.{arith}
use mathlib.Core.Path.{◌≡◌, sym, subst}
use mathlib.Core.List.{List}
use lib.ListN.{length, take, drop, replicate, length-append}
use Rattle.std.specs.Prelude.{Result, Ok, Err}
use Rattle.block.specs.Front.{left_side, right_side}
use Rattle.numbers.specs.Outcome.{given, is_given}
use Rattle.numbers.specs.declared.Refusal.{Refusal}
use Rattle.block.specs.Read.{SideLengths, told_read, ReadPromise, sides}
use Rattle.block.specs.declared.Sides.{Sides}
use Rattle.tally.specs.declared.Report.{Report}
use Rattle.printing.specs.Asked.{sides_given, PairAsked, BlockAsked}
use Rattle.printing.specs.declared.ask.Asked.{Asked}

-- what Read gives is within its buffers
given_fits : {block : List ℕ} {number : ℕ} {lengths : SideLengths} {left right left' right' : List ℕ}
    → ReadPromise block number left right (given lengths) left' right'
    → (lengths.left ≤ length left') × (lengths.right ≤ length right')
given_fits {left = left} {right = right} (is_given none (sides {s = s} {t = t} v w)) = (
  omega (arith, length-append (left_side s) (drop (length (left_side s)) left)),
  omega (arith, length-append (right_side t) (drop (length (right_side t)) right)),
)

-- and so are the sides that are asked about
pub sides_fit : {block : List ℕ} {number : ℕ} {left right left' right' : List ℕ} {lengths : Sides} (answer : Result Sides Refusal)
    → ReadPromise block number left right (told_read answer) left' right' → lengths ≡ sides_given answer
    → (lengths.left ≤ length left') × (lengths.right ≤ length right')
sides_fit {block} {number} {left} {right} {left'} {right'} answer promise e =
    subst (λ s. (s.left ≤ length left') × (s.right ≤ length right')) (sym e) (fits answer promise)
  where
    fits : (a : Result Sides Refusal) → ReadPromise block number left right (told_read a) left' right'
        → ((sides_given a).left ≤ length left') × ((sides_given a).right ≤ length right')
    fits (Ok lengths) promise = given_fits promise
    fits (Err why) promise = (omega arith, omega arith)

-- what Read gave and what was asked of its sides, together
pub block_asked : {report : Report} {block : List ℕ} {number : ℕ} {keys keys' left right : List ℕ}
    {answer : Result Sides Refusal} {lengths : Sides} {a : Asked}
    → ReadPromise block number (replicate 64 0) (replicate 64 0) (told_read answer) left right
    → lengths ≡ sides_given answer
    → PairAsked report answer (take lengths.left left) (take lengths.right right) keys a keys'
    → BlockAsked report block number keys a keys'
block_asked {report} {block} {number} {keys} {keys'} {left} {right} {answer} {lengths} {a} promise its_sides pair =
    let same = sym pair.same_read in
    record {
      left = left;
      right = right;
      read_promise = subst (λ x. ReadPromise block number (replicate 64 0) (replicate 64 0) (told_read x) left
          right) same promise;
      pair =
          subst (λ x. PairAsked report x (take (sides_given x).left left) (take (sides_given x).right right) keys a keys') same
          (subst (λ s. PairAsked report answer (take s.left left) (take s.right right) keys a keys') its_sides pair);
    }

-- the same report, said in another way
pub asked_as : {report told : Report} {read : Result Sides Refusal} {L R keys keys' : List ℕ} {a : Asked} → report ≡ told
    → PairAsked told read L R keys a keys' → PairAsked report read L R keys a keys'
asked_as {read = read} {L} {R} {keys} {keys'} {a} e asked = subst (λ x. PairAsked x read L R keys a keys') (sym e) asked
