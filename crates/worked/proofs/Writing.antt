-- What Write answers (document 02, R-3): of the two sides of document 01's example, and of an empty side.
use Prim.Native.Nat.{ℕ, ◌≤◌}
use native.Mathlib.Omega.{arith}
use mathlib.Core.Path.{◌≡◌, refl, sym, subst}
use mathlib.Core.Logic.{inl}
use mathlib.Core.List.Memᴰ
use mathlib.Core.List.{List, [], ◌∷◌, Memᴰ}
use lib.ListN.{length}
use Rattle.numbers.specs.Numbers.{said_of}
use Rattle.numbers.specs.Outcome.{Outcome, refused, is_given}
use Rattle.numbers.specs.declared.Refusal.TheVariants.{SideLength}
use Rattle.numbers.proofs.Promises.{outcome_determined}
use Rattle.pair.specs.Given.{left}
use Rattle.block.specs.Front.{MayBeWritten}
use Rattle.writing.specs.Written.{block_of, block_of_terms}
use Rattle.writing.specs.Table.{side_length}
use Rattle.writing.specs.Write.{WritePromise, written}
use Rattle.writing.proofs.Accepted.{OnTheRight, Acceptable, acceptable}
use Rattle.writing.proofs.Determined.{one_written}
use Rattle.writing.proofs.Settled.{length_promised}
use Rattle.worked.specs.Questions.{SidesAsked, write_question}
use Rattle.worked.specs.Answers.{Answers, WriteAnswers}
use Rattle.worked.specs.Example.{block_0}

-- what meets the promise is the one answer
one_answer : {asked : SidesAsked ℕ} {lent exit : List ℕ} {outcome : Outcome (Unit {0})}
    → WritePromise asked.left asked.right asked.also lent outcome exit
    → Answers write_question asked lent outcome exit
one_answer met = record { meets = met; alone = λ other other_exit p. outcome_determined one_written p met }

-- of sides that may be written the answer is their block
block_written : {L R : List ℕ} → Acceptable L R → (number : ℕ) → WriteAnswers L R number (block_of number L R)
block_written may number lent enough = one_answer (is_given (acceptable may enough) written)

-- both of two atoms are such
both : (P : ℕ → Type 0) {a b : ℕ} → P a → P b → (c : ℕ) → Memᴰ c (a ∷ b ∷ []) → P c
both P p q c (Memᴰ.head same) = subst P (sym same) p
both P p q c (Memᴰ.tail (Memᴰ.head same)) = subst P (sym same) q
both P p q c (Memᴰ.tail (Memᴰ.tail m)) = absurd (Memᴰ.not-nil m)

-- v0+v1 and c0+c1 may be written
example_acceptable : Acceptable (0 ∷ 1 ∷ []) (64 ∷ 65 ∷ [])
example_acceptable =
    record {
      within = record {
        left_some = omega arith;
        left_few = omega arith;
        right_some = omega arith;
        right_few = omega arith;
      };
      left_atoms = both MayBeWritten (inl (omega arith)) (inl (omega arith));
      right_atoms = both OnTheRight (omega arith) (omega arith);
    }

-- as block 0 they are that of the example, ..
example_block : block_of 0 (0 ∷ 1 ∷ []) (64 ∷ 65 ∷ []) ≡ block_0
unfolding block_of_terms
example_block = refl

pub block_0_written : WriteAnswers (0 ∷ 1 ∷ []) (64 ∷ 65 ∷ []) 0 block_0
block_0_written =
    subst (WriteAnswers (0 ∷ 1 ∷ []) (64 ∷ 65 ∷ []) 0) example_block (block_written example_acceptable 0)

-- .. and as block 1 another
pub block_1_written : WriteAnswers (0 ∷ 1 ∷ []) (64 ∷ 65 ∷ []) 1 (block_of 1 (0 ∷ 1 ∷ []) (64 ∷ 65 ∷ []))
block_1_written = block_written example_acceptable 1

-- an empty side is refused with 7
pub empty_refused : {R : List ℕ} {number : ℕ} (lent : List ℕ) → 512 ≤ length lent
    → Answers write_question (record { left = []; right = R; also = number }) lent (refused (said_of SideLength)) lent
empty_refused lent enough = one_answer (length_promised enough (side_length left (inl (omega arith))))
