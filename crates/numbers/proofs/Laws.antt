-- Laws of document 01's table: a number names one refusal, 17 none, and a question's list gives at most one number,
-- one of its own.
use Rattle.std.proofs.Common.{◌≡◌, refl, sym, ap, ◌∙◌, List, [], ◌∷◌, ℕ, arith, get_or}
use mathlib.Core.List.{Memᴰ}
use mathlib.Core.Option.{Option, some}
use mathlib.Core.Option as option
use Rattle.numbers.specs.Numbers.{number_of, said_of}
use Rattle.numbers.specs.Outcome.{Said}
use Rattle.numbers.specs.declared.Refusal.{Refusal}
use Rattle.numbers.specs.declared.Refusal.TheVariants.{BlockLength, Check, BlockNumber, TermLength, Term, Filler, SideLength, NoAtom, Variables, NetCount, Constants, Rows, NoUnifier, NotListed, LastKey, ShortBuffer, WrongSide, OnBothSides}
use Rattle.numbers.specs.First.{First, NoneOf, here, later, also}

-- the refusals in the table's order; no row has the number 0 or 17, and what 10 names is said beside it
rows : List Refusal
rows =
    BlockLength
    ∷ BlockLength
    ∷ Check
    ∷ BlockNumber
    ∷ TermLength
    ∷ Term
    ∷ Filler
    ∷ SideLength
    ∷ NoAtom
    ∷ Variables
    ∷ NetCount 0
    ∷ Constants
    ∷ Rows
    ∷ NoUnifier
    ∷ NotListed
    ∷ LastKey
    ∷ ShortBuffer
    ∷ BlockLength
    ∷ WrongSide
    ∷ OnBothSides
    ∷ []

-- the refusal with this atom beside its number: the one in the row of its number, or the one that names an atom
refusal_with : Option ℕ → ℕ → Refusal
refusal_with option.none number = get_or rows number BlockLength
refusal_with (some atom) number = NetCount atom

-- the refusal that says this
pub refusal_of : Said → Refusal
refusal_of said = refusal_with said.atom said.number

-- each refusal is told by what it says
pub refusal_of_said_of : (r : Refusal) → refusal_of (said_of r) ≡ r
unfolding rows refusal_with refusal_of
refusal_of_said_of BlockLength = refl
refusal_of_said_of Check = refl
refusal_of_said_of BlockNumber = refl
refusal_of_said_of TermLength = refl
refusal_of_said_of Term = refl
refusal_of_said_of Filler = refl
refusal_of_said_of SideLength = refl
refusal_of_said_of NoAtom = refl
refusal_of_said_of Variables = refl
refusal_of_said_of (NetCount atom) = refl
refusal_of_said_of Constants = refl
refusal_of_said_of Rows = refl
refusal_of_said_of NoUnifier = refl
refusal_of_said_of NotListed = refl
refusal_of_said_of LastKey = refl
refusal_of_said_of ShortBuffer = refl
refusal_of_said_of WrongSide = refl
refusal_of_said_of OnBothSides = refl

-- what 17 would say, with whatever atom, has another number, ..
not_17 : (atom : Option ℕ) → number_of (refusal_with atom 17) ≡ 17 → ⊥
unfolding rows refusal_with
not_17 option.none e = omega arith
not_17 (some atom) e = omega arith

-- .. so the number of no refusal is 17 (document 02, R-9): no question is refused with it, whatever it promises
pub never_17 : (r : Refusal) → (said_of r).number ≡ 17 → ⊥
unfolding refusal_of
never_17 r e =
    not_17 (said_of r).atom
    (ap number_of (ap (refusal_with (said_of r).atom) (sym e) ∙ refusal_of_said_of r) ∙ e)

module _ {Given : ℕ → Type 0} where
  -- two first numbers of one list are the same
  pub first_unique : {ns : List ℕ} {m n : ℕ} → First Given ns m → First Given ns n → m ≡ n
  first_unique (here g) (here h) = refl
  first_unique (here g) (later skip f) = absurd (skip g)
  first_unique (later skip f) (here h) = absurd (skip h)
  first_unique (later skip f) (later skip' h) = first_unique f h

  -- where a number is the first that is given, it is not so that none is
  pub first_not_none : {ns : List ℕ} {n : ℕ} → First Given ns n → NoneOf Given ns → ⊥
  first_not_none (here g) (also skip none) = skip g
  first_not_none (later skip f) (also skip' none) = first_not_none f none

  -- the first number is one of the list's: "None is given otherwise."
  pub first_member : {ns : List ℕ} {n : ℕ} → First Given ns n → Memᴰ n ns
  first_member (here g) = Memᴰ.head refl
  first_member (later skip f) = Memᴰ.tail (first_member f)
