-- Words on lists that the definitions share; none is a notion of its own in document 01, but for a lent
-- buffer that receives what is written.
use Rattle.std.specs.Prelude.{ℕ, zero, suc, ◌+◌, ◌≤◌, Bool, true, false, ◌&&◌, length, get_or, drop}
use mathlib.Core.List.{List, [], ◌∷◌, ◌++◌, Memᴰ}

-- the n numbers from a on, ascending
abbrev pub from : ℕ → ℕ → List ℕ
from a zero = []
from a (suc n) = a ∷ from (suc a) n

-- the numbers below n, ascending
abbrev pub below : ℕ → List ℕ
below n = from 0 n

-- a in front of the rest, if the truth value says so
abbrev pub keep {ℓ} : {A : Type ℓ} → Bool → A → List A → List A
keep true a rest = a ∷ rest
keep false a rest = rest

-- the members that pass the test, in their order
abbrev pub filter {ℓ} : {A : Type ℓ} → (A → Bool) → List A → List A
filter passes [] = []
filter passes (a ∷ rest) = keep (passes a) a (filter passes rest)

-- every member passes the test
abbrev pub every : {A : Type 0} → (A → Bool) → List A → Bool
every passes [] = true
every passes (a ∷ rest) = passes a && every passes rest

-- for each member a list, one after the other
abbrev pub flat_map {ℓ κ} : {A : Type ℓ} {B : Type κ} → (A → List B) → List A → List B
flat_map f [] = []
flat_map f (a ∷ rest) = f a ++ flat_map f rest

-- the sum of the entries
abbrev pub sum : List ℕ → ℕ
sum [] = 0
sum (n ∷ v) = n + sum v

-- no entry is above a number
abbrev pub NoneAbove : ℕ → List ℕ → Type 0
NoneAbove most v = (i : ℕ) → get_or v i 0 ≤ most

-- A lent buffer that receives what is written; what comes after the written part stays unchanged.
abbrev pub receives : List ℕ → List ℕ → List ℕ
receives buffer written = written ++ drop (length written) buffer

-- every member stands before all that follow it
pub data Ascending {A : Type 0} (◌before◌ : A → A → Type 0) : List A → Type 0 where
  none : Ascending ◌before◌ []
  next : {a : A} {rest : List A} → ((b : A) → Memᴰ b rest → ◌before◌ a b) → Ascending ◌before◌ rest
      → Ascending ◌before◌ (a ∷ rest)
