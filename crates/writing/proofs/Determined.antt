-- Write's contract determines the result and the buffer, and gives no number but its own.
use Rattle.std.proofs.Common.{◌≡◌, ℕ, List, [], ◌∷◌, Result, refl}
use mathlib.Core.List.{Memᴰ}
use Rattle.numbers.specs.Outcome.{Said, refused, NamesNone}
use Rattle.numbers.specs.declared.Refusal.{Refusal}
use Rattle.numbers.proofs.Promises.{OneResult, refused_listed}
use Rattle.numbers.proofs.Told.{result_determined}
use Rattle.writing.specs.Write.{told_write, WriteGives, written, WritePromise}

-- one block is received
block_once : {left right : List ℕ} {number : ℕ} {block : List ℕ} (v v' : Unit {0}) (b b' : List ℕ)
    → WriteGives left right number block v b → WriteGives left right number block v' b' → (v ≡ v') × (b ≡ b')
block_once _ _ _ _ written written = (refl, refl)

-- and no atom is named
pub one_written : {left right : List ℕ} {number : ℕ} {block : List ℕ}
    → OneResult NamesNone (WriteGives left right number block)
one_written = record { one_atom = λ a b names names'. absurd names; one_result = block_once }

-- Two results, each with its buffer, that meet the promise are identical.
pub write_determined :
    {left right : List ℕ} {number : ℕ} {block : List ℕ} {r r' : Result (Unit {0}) Refusal} {b b' : List ℕ} →
    WritePromise left right number block (told_write r) b →
    WritePromise left right number block (told_write r') b' →
    (r ≡ r') × (b ≡ b')
write_determined p p' = result_determined (λ nothing. nothing) (λ nothing. refl) one_written p p'

-- Write gives 7, 8, 16 and 18.
pub write_gives : {said : Said} {left right : List ℕ} {number : ℕ} {block exit : List ℕ}
    → WritePromise left right number block (refused said) exit → Memᴰ said.number (16 ∷ 7 ∷ 8 ∷ 18 ∷ [])
write_gives = refused_listed
