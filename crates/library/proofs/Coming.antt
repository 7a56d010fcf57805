-- Laws of what comes next, by the tests that are made of how many bytes wait.
use Rattle.std.proofs.Common.{ℕ, zero, suc, ◌<◌, ◌≤◌, arith, ◌≡◌, refl, ap, subst}
use Rattle.library.specs.Reading.{waits, wanted, Comes}
use Rattle.library.specs.declared.Reader.{Reader}
use Rattle.library.specs.declared.Input.TheVariants as input
use Rattle.library.specs.declared.Next.{Next}
use Rattle.library.specs.declared.Next.TheVariants as next

-- as long as a block may be read, a block's bytes are wanted
pub wanted_block : (left : ℕ) → (left ≡ 0 → ⊥) → 512 ≡ wanted left
wanted_block zero some = absurd (some refl)
wanted_block (suc left) some = refl

-- where no block may be read, one byte is
pub wanted_one : (left : ℕ) → left ≡ 0 → wanted left ≡ 1
wanted_one left e = ap wanted e

-- always some, and never more than a block's bytes
pub wanted_some : (left : ℕ) → 0 < wanted left
wanted_some zero = omega arith
wanted_some (suc left) = omega arith

pub wanted_most : (left : ℕ) → wanted left ≤ 512
wanted_most zero = omega arith
wanted_most (suc left) = omega arith

-- where a read is wanted, too few bytes wait and more may come ..
pub comes_more : {r r' : Reader} → Comes r next.Wanted r' →
    (waits r < wanted r.left) × (r.input ≡ input.More)
comes_more (Comes.a_read few still) = (few, still)

-- .. and the reader stays as it is
as_it_is : {r r' : Reader} → Comes r next.Wanted r' → Comes r next.Wanted r
as_it_is (Comes.a_read few still) = Comes.a_read few still

pub comes_wanted : {r r' : Reader} {n : Next} → Comes r n r' → n ≡ next.Wanted → Comes r next.Wanted r
comes_wanted {r} {r'} comes e = as_it_is (subst (λ n. Comes r n r') e comes)
