-- Read's contract determines the result and both buffers.
use Rattle.std.proofs.Common.{◌≡◌, ℕ, List, Result, refl, ap}
use Rattle.numbers.specs.Outcome.{NamesNone}
use Rattle.numbers.specs.declared.Refusal.{Refusal}
use Rattle.numbers.proofs.Promises.{OneResult}
use Rattle.numbers.proofs.Told.{result_determined}
use Rattle.block.specs.Read.{SideLengths, told_read, ReadGives, sides, ReadPromise}
use Rattle.block.specs.declared.Sides.{Sides}
use Rattle.block.proofs.Terms.{writes_unique}

-- bytes are one term, so the sides are one
sides_once : {block left right : List ℕ} (v v' : SideLengths) (b b' : List ℕ × List ℕ)
    → ReadGives block left right v b → ReadGives block left right v' b' → (v ≡ v') × (b ≡ b')
sides_once _ _ _ _ (sides w v) (sides w' v') =
    let left_same = writes_unique w w' in
    let right_same = writes_unique v v' in
    (cc (left_same, right_same), cc (left_same, right_same))

-- and no atom is named
pub one_read : {block left right : List ℕ} → OneResult NamesNone (ReadGives block left right)
one_read = record { one_atom = λ a b names names'. absurd names; one_result = sides_once }

-- Two results, each with its pair of buffers, that meet the promise are identical.
pub read_determined :
    {block : List ℕ} {number : ℕ} {left right : List ℕ} {r r' : Result Sides Refusal} {x x' y y' : List ℕ} →
    ReadPromise block number left right (told_read r) x y →
    ReadPromise block number left right (told_read r') x' y' →
    (r ≡ r') × (x ≡ x') × (y ≡ y')
read_determined p p' =
    let same = result_determined (λ lengths. record { left = lengths.left; right = lengths.right }) (λ sides. refl) one_read p p' in
    (same.0, ap (λ b. b.0) same.1, ap (λ b. b.1) same.1)
