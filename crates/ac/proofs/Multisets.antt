-- Lists that are equal as multisets: they are equally long and have the same members.
use Prim.Native.Nat.{ℕ}
use native.Mathlib.Omega.{arith}
use mathlib.Core.Path.{◌≡◌, refl, ap}
use mathlib.Core.List.{List, [], ◌∷◌, ◌++◌, Memᴰ}
use lib.ListN.{length, length-append}
use Rattle.ac.specs.Pair.{count}
use Rattle.ac.specs.Replacement.{SameSum}
use Rattle.ac.proofs.Members.{member_splits}
use Rattle.ac.proofs.Counts.{same_self, count-append, count_some, count_member}

-- what stands in the one stands in the other
pub same_members : {s t : List ℕ} → SameSum s t → {a : ℕ} → Memᴰ a s → Memᴰ a t
same_members {s} {t} same {a} m = count_member a t (omega (arith, same a, count_some a s m))

-- they are equally long: the first atom of the one stands somewhere in the other, and without it they are equal again
pub same_lengths : (s t : List ℕ) → SameSum s t → length s ≡ length t
same_lengths [] [] same = refl
same_lengths [] (b ∷ t) same = absurd (omega (arith, same b, same_self b b refl))
same_lengths (a ∷ s) t same =
    let at = member_splits (count_member a t (omega (arith, same a, same_self a a refl))) in
    let less : SameSum s (at.0 ++ at.1) =
    λ b. omega (
      arith,
      same b,
      ap (count b) at.2,
      count-append b at.0 (a ∷ at.1),
      count-append b at.0 at.1,
    ) in
    omega (
      arith,
      ap length at.2,
      length-append at.0 (a ∷ at.1),
      length-append at.0 at.1,
      same_lengths s (at.0 ++ at.1) less,
    )
