-- What makes two pairs of one mode alike (`alike_in_mode`): less than the relation says, since the unbalanced constants
-- follow from the net counts.
use Prim.Native.Nat.{ℕ, ◌+◌, ◌<◌}
use native.Mathlib.Omega.{arith}
use native.Mathlib.Decide.{ℕ_discrete}
use mathlib.Core.Path.{◌≡◌, refl, sym, ap, subst, ◌∙◌}
use mathlib.Core.Logic.{◌↔◌, ◌⊎◌}
use mathlib.Core.Bool.{true, not, ◌&&◌}
use mathlib.Core.List.{List, Memᴰ}
use borrow.Author.Tests.{eq-eqb, ne_eqb}
use lib.Dec.{eqb}
use Rattle.ac.specs.Limits.{Limits}
use Rattle.ac.specs.Pair.{Mode, atoms, count, occurs}
use Rattle.ac.specs.Replacement.{SameSum}
use Rattle.ac.proofs.Bridge.{difference_negated, difference_equal}
use Rattle.ac.proofs.Multisets.{same_members, same_lengths}
use Rattle.numbers.specs.Order.{uncounted_numbers}
use Rattle.numbers.proofs.Carried.{not_elsewhere}
use Rattle.pair.specs.Given.{SideOf, least_atoms, WrongLength, WrongByte, OnBothSides, PairGiven, side_length, no_atom, on_both_sides, many_variables, far_net_count, many_constants, many_rows}
use Rattle.pair.proofs.Lists.{filter_same}
use Rattle.pair.proofs.Modes.{and_same}
use Rattle.whole.specs.Alike.{NetsAlike, equal, opposite, Alike}

-- 7 and 8 are carried from one pair to another if what is wrong with a side of the one makes the other give the number
pub uncounted_carried : {limits : Limits} {M : Mode} {L R L' R' : List ℕ}
    → ((side : List ℕ) → SideOf L R side → WrongLength limits (least_atoms limits M) side
    → PairGiven limits M L' R' 7)
    → ((side : List ℕ) → SideOf L R side → WrongByte limits side → PairGiven limits M L' R' 8)
    → (n : ℕ) → Memᴰ n uncounted_numbers → PairGiven limits M L R n → PairGiven limits M L' R' n
uncounted_carried length byte n m (side_length {side} one wrong) = length side one wrong
uncounted_carried length byte n m (no_atom {side} one wrong) = byte side one wrong
uncounted_carried length byte n m (on_both_sides separate shared) = absurd (not_elsewhere uncounted_numbers refl m)
uncounted_carried length byte n m (many_variables many) = absurd (not_elsewhere uncounted_numbers refl m)
uncounted_carried length byte n m (far_net_count a far) = absurd (not_elsewhere uncounted_numbers refl m)
uncounted_carried length byte n m (many_constants many) = absurd (not_elsewhere uncounted_numbers refl m)
uncounted_carried length byte n m (many_rows of many) = absurd (not_elsewhere uncounted_numbers refl m)

-- so they are where each side of the one pair is, as a multiset, a side of the other: it is as long and has the same
-- members
pub sides_carried : {limits : Limits} {M : Mode} {L R L' R' : List ℕ}
    → ((side : List ℕ) → SideOf L R side → (other : List ℕ) × SideOf L' R' other × SameSum side other)
    → (n : ℕ) → Memᴰ n uncounted_numbers → PairGiven limits M L R n → PairGiven limits M L' R' n
sides_carried {limits} {M} among =
    uncounted_carried
    (λ side one wrong.
    let found = among side one in
    side_length found.1
    (subst (λ size. (size < least_atoms limits M) ⊎ (limits.most_atoms < size))
    (same_lengths side found.0 found.2) wrong))
    (λ side one wrong.
    let found = among side one in
    no_atom found.1
    (record { byte = wrong.byte; held = same_members found.2 wrong.held; above = wrong.above }))

-- a test tells the same of two equalities of which each follows from the other
eqb_same : (m n p q : ℕ) → (m ≡ n) ↔ (p ≡ q) → eqb m n ≡ eqb p q
eqb_same m n p q both = go (ℕ_discrete m n)
  where
    go : Dec (m ≡ n) → eqb m n ≡ eqb p q
    go (yes e) = eq-eqb m n e ∙ sym (eq-eqb p q (both.0 e))
    go (no differ) = ne_eqb m n differ ∙ sym (ne_eqb p q (λ e. differ (both.1 e)))

-- where net counts are alike, an atom stands equally often on both sides of the one pair if it does in the other
balanced_alike : {L R L' R' : List ℕ} → NetsAlike L R L' R' → (a : ℕ)
    → (count a L ≡ count a R) ↔ (count a L' ≡ count a R')
balanced_alike {L} {R} {L'} {R'} (equal nets) a =
    let crosswise : count a L + count a R' ≡ count a L' + count a R =
    (difference_equal (count a L) (count a R) (count a L') (count a R')).0 (nets a) in
    (λ e. omega (arith, crosswise), λ e. omega (arith, crosswise))
balanced_alike {L} {R} {L'} {R'} (opposite nets) a =
    let crosswise : count a L + count a L' ≡ count a R' + count a R =
    (difference_equal (count a L) (count a R) (count a R') (count a L')).0
    (nets a ∙ difference_negated (count a L') (count a R')) in
    (λ e. omega (arith, crosswise), λ e. omega (arith, crosswise))

-- 19 is carried if a variable on both sides of the one pair makes for one of the other
shared_carried : {limits : Limits} {M : Mode} {L R L' R' : List ℕ} → (OnBothSides L R → OnBothSides L' R')
    → PairGiven limits M L R 19 → PairGiven limits M L' R' 19
shared_carried other (on_both_sides separate shared) = on_both_sides separate (other shared)

-- Two pairs of one mode are alike if the same atoms that move stand in them, their net counts are alike, 7 and 8 are
-- given of both or of neither, and a variable stands on both sides of both or of neither.
pub alike_in_mode : {limits : Limits} {M : Mode} {L R L' R' : List ℕ}
    → ((a : ℕ) → M.moves a ≡ true → occurs L R a ≡ occurs L' R' a)
    → NetsAlike L R L' R'
    → ((n : ℕ) → Memᴰ n uncounted_numbers → PairGiven limits M L R n ↔ PairGiven limits M L' R' n)
    → OnBothSides L R ↔ OnBothSides L' R'
    → Alike limits M L R M L' R'
alike_in_mode {M = M} {L} {R} {L'} {R'} occurring nets uncounted shared =
    record {
      same_emptying = refl;
      same_variables = filter_same _ _ atoms (λ a. and_same (M.moves a) (occurring a));
      same_constants = filter_same _ _ atoms
          (λ a. ap (λ balanced. not (M.moves a) && not balanced)
          (eqb_same (count a L) (count a R) (count a L') (count a R') (balanced_alike nets a)));
      nets_alike = nets;
      same_uncounted = uncounted;
      same_shared = (shared_carried shared.0, shared_carried shared.1);
    }
