-- Three ways of writing a pair anew (document 02, R-6), after each of which the two pairs are alike and so get the
-- same answers from Rows, Page and Values, refusals among them.
--
-- `multisets_answers`. The left sides have the same atoms equally often, and so have the right sides; in every way of
-- listing.
-- `swapped_answers`. Left and right are swapped; in any one mode, so in unifying and in sums with an identity.
-- `added_answers`. One constant is added to both sides, where neither was empty and both stay within 64 atoms; in
-- every way of listing. `front_answers` is the case of a constant put in front.
--
-- Matching, the mode is that of the left side: after either change it is the same (`same_mode`).
use Prim.Native.Nat.{ℕ, ◌+◌, ◌≤◌, ◌<◌}
use native.Mathlib.Omega.{arith}
use mathlib.Core.Path.{◌≡◌, refl, sym, ap, ap₂, subst, ◌∙◌}
use mathlib.Core.Logic.{inl, inr}
use mathlib.Core.Bool.{Bool, true, false, cond, true≢false}
use mathlib.Core.List.{List, ◌∷◌, Memᴰ}
use borrow.Author.Tests.{ltb-true}
use lib.Dec.{ltb}
use lib.IntN.{pos, ◌-ℤ◌}
use lib.ListN.{length}
use Rattle.ac.specs.Limits.{Limits, limits}
use Rattle.ac.specs.Pair.{Mode, is_variable, same, count, net, occurs}
use Rattle.ac.specs.Replacement.{SameSum}
use Rattle.ac.proofs.Bridge.{difference_equal}
use Rattle.ac.proofs.Counts.{same_other}
use Rattle.ac.proofs.Multisets.{same_members, same_lengths}
use Rattle.ac.proofs.Negated.{net_exchanged}
use Rattle.pair.specs.Given.{SideOf, left, right, least_atoms, WrongLength, WrongByte, OnBothSides, no_atom}
use Rattle.pair.specs.Ways.{mode_of}
use Rattle.pair.specs.declared.ways.Way.{Way}
use Rattle.pair.proofs.Modes.{constant_stays, same_mode}
use Rattle.whole.specs.Alike.{equal, opposite, Alike, SameAnswers, ConstantAdded}
use Rattle.whole.proofs.AlikeInMode.{uncounted_carried, sides_carried, alike_in_mode}
use Rattle.whole.proofs.AlikeAnswers.{alike_answers}

-- ---- the same two multisets

-- each side is as a multiset the same side of the other pair
same_side : {L R L' R' : List ℕ} → SameSum L L' → SameSum R R' → (side : List ℕ) → SideOf L R side
    → (other : List ℕ) × SideOf L' R' other × SameSum side other
same_side {L' = L'} on_left on_right _ left = (L', left, on_left)
same_side {R' = R'} on_left on_right _ right = (R', right, on_right)

-- a variable on both sides stands on both sides of the other pair
shared_same : {L R L' R' : List ℕ} → SameSum L L' → SameSum R R' → OnBothSides L R → OnBothSides L' R'
shared_same on_left on_right shared =
    record {
      variable = shared.variable;
      is_variable = shared.is_variable;
      on_left = same_members on_left shared.on_left;
      on_right = same_members on_right shared.on_right;
    }

-- in any one mode they are alike, ..
pub multisets_in_mode : {limits : Limits} {M : Mode} {L R L' R' : List ℕ} → SameSum L L' → SameSum R R'
    → Alike limits M L R M L' R'
multisets_in_mode on_left on_right =
    alike_in_mode (λ a moves. ap₂ (λ m n. ltb 0 (m + n)) (on_left a) (on_right a))
    (equal (λ a. ap₂ (λ m n. pos m -ℤ pos n) (on_left a) (on_right a)))
    (λ n m. (
      sides_carried (same_side on_left on_right) n m,
      sides_carried (same_side (λ a. sym (on_left a)) (λ a. sym (on_right a))) n m,
    ))
    (shared_same on_left on_right, shared_same (λ a. sym (on_left a)) (λ a. sym (on_right a)))

-- .. and in every way of listing
pub multisets_alike : {limits : Limits} (way : Way) {L R L' R' : List ℕ} → SameSum L L' → SameSum R R'
    → Alike limits (mode_of way L R) L R (mode_of way L' R') L' R'
multisets_alike {limits} way {L} {R} {L'} {R'} on_left on_right =
    subst (λ M. Alike limits (mode_of way L R) L R M L' R') (same_mode way L R L' R' (λ a variable. on_left a))
    (multisets_in_mode on_left on_right)

-- Two pairs with the same two multisets get the same answers.
pub multisets_answers : (way : Way) {L R L' R' : List ℕ} → SameSum L L' → SameSum R R'
    → SameAnswers (mode_of way L R) L R (mode_of way L' R') L' R'
multisets_answers way on_left on_right = alike_answers (multisets_alike way on_left on_right)

-- ---- left and right swapped

-- each side is the other side of the other pair
other_side : {L R : List ℕ} (side : List ℕ) → SideOf L R side
    → (other : List ℕ) × SideOf R L other × SameSum side other
other_side {L} _ left = (L, right, λ a. refl)
other_side {R = R} _ right = (R, left, λ a. refl)

-- a variable on both sides stands on both sides of the other pair
shared_swapped : {L R : List ℕ} → OnBothSides L R → OnBothSides R L
shared_swapped shared =
    record {
      variable = shared.variable;
      is_variable = shared.is_variable;
      on_left = shared.on_right;
      on_right = shared.on_left;
    }

pub swapped_alike : {limits : Limits} (M : Mode) {L R : List ℕ} → Alike limits M L R M R L
swapped_alike M {L} {R} =
    alike_in_mode (λ a moves. ap (ltb 0) (let e : count a L + count a R ≡ count a R + count a L = omega arith in e))
    (opposite (net_exchanged L R))
    (λ n m. (sides_carried other_side n m, sides_carried other_side n m)) (shared_swapped, shared_swapped)

-- Swapping left and right leaves all three answers the same. Matching has another mode after it.
pub swapped_answers : (M : Mode) {L R : List ℕ} → SameAnswers M L R M R L
swapped_answers M = alike_answers (swapped_alike M)

-- ---- one constant added to both sides

-- a side before and after the constant is added to it
record SideAdded (c : ℕ) (before after : List ℕ) : Type 0 where
  one_more : SameSum after (c ∷ before)
  some : 0 < length before
  within : length after ≤ limits.most_atoms

-- in no mode a side has to have more than one atom
least_one : (M : Mode) → least_atoms limits M ≤ 1
least_one M = by_mode M.empties
  where
    by_mode : (b : Bool) → cond b 0 limits.least_atoms ≤ 1
    by_mode true = omega arith
    by_mode false = omega arith

module _ {c : ℕ} {before after : List ℕ} (side : SideAdded c before after) where
  -- it is of no wrong length, neither before ..
  length_before : (M : Mode) → WrongLength limits (least_atoms limits M) before → ⊥
  length_before M (inl few) = omega (arith, side.some, least_one M)
  length_before M (inr many) = omega (arith, side.within, same_lengths after (c ∷ before) side.one_more)

  -- .. nor after
  length_after : (M : Mode) → WrongLength limits (least_atoms limits M) after → ⊥
  length_after M (inl few) = omega (arith, same_lengths after (c ∷ before) side.one_more, least_one M)
  length_after M (inr many) = omega (arith, side.within)

  -- what it holds before it holds after
  held_after : {a : ℕ} → Memᴰ a before → Memᴰ a after
  held_after m = same_members (λ a. sym (side.one_more a)) (Memᴰ.tail m)

  -- and the other way round, if it is not the constant
  held_before : {a : ℕ} → (a ≡ c → ⊥) → Memᴰ a after → Memᴰ a before
  held_before {a} other m = another (same_members side.one_more m)
    where
      another : Memᴰ a (c ∷ before) → Memᴰ a before
      another (Memᴰ.head e) = absurd (other e)
      another (Memᴰ.tail m) = m

  -- so it is with a wrong byte, since the constant is none
  byte_after : WrongByte limits before → WrongByte limits after
  byte_after wrong =
      record {
        byte = wrong.byte;
        held = held_after wrong.held;
        above = wrong.above;
      }

  byte_before : c < 128 → WrongByte limits after → WrongByte limits before
  byte_before to_127 wrong =
      record {
        byte = wrong.byte;
        held = held_before (λ e. omega (arith, wrong.above)) wrong.held;
        above = wrong.above;
      }

module _ {L R L' R' : List ℕ} (added : ConstantAdded L R L' R') where
  abbrev c : ℕ
  c = added.constant

  -- an atom that moves is another, and so stands as often as it stood
  added_occurs : (M : Mode) → M.moves c ≡ false → (a : ℕ) → M.moves a ≡ true → occurs L R a ≡ occurs L' R' a
  added_occurs M stays a moves =
      let other : same a c ≡ 0 = same_other a c (λ e. true≢false (sym moves ∙ ap M.moves e ∙ stays)) in
      ap (ltb 0)
      (let e : count a L + count a R ≡ count a L' + count a R' =
      omega (arith, other, added.on_left a, added.on_right a) in e)

  -- each net count stays
  added_net : (a : ℕ) → net L R a ≡ net L' R' a
  added_net a =
      (difference_equal (count a L) (count a R) (count a L') (count a R')).1
      (let e : count a L + count a R' ≡ count a L' + count a R =
      omega (arith, added.on_left a, added.on_right a) in e)

  -- each side has its side of the other pair
  left_added : SideAdded c L L'
  left_added = record { one_more = added.on_left; some = added.left_some; within = added.left_within }

  right_added : SideAdded c R R'
  right_added = record { one_more = added.on_right; some = added.right_some; within = added.right_within }

  after : (side : List ℕ) → SideOf L R side → (other : List ℕ) × SideOf L' R' other × SideAdded c side other
  after _ left = (L', left, left_added)
  after _ right = (R', right, right_added)

  before : (other : List ℕ) → SideOf L' R' other → (side : List ℕ) × SideOf L R side × SideAdded c side other
  before _ left = (L, left, left_added)
  before _ right = (R, right, right_added)

  -- no variable is the constant, ..
  variable_other : {a : ℕ} → is_variable a ≡ true → a ≡ c → ⊥
  variable_other {a} variable e = omega (arith, ltb-true a 64 variable, added.from_64)

  -- .. so each stands on the left as often as it stood, ..
  variables_kept : (a : ℕ) → is_variable a ≡ true → count a L ≡ count a L'
  variables_kept a variable =
      let other : same a c ≡ 0 = same_other a c (variable_other variable) in
      omega (arith, other, added.on_left a)

  -- .. and one on both sides was there
  shared_after : OnBothSides L R → OnBothSides L' R'
  shared_after shared =
      record {
        variable = shared.variable;
        is_variable = shared.is_variable;
        on_left = held_after left_added shared.on_left;
        on_right = held_after right_added shared.on_right;
      }

  shared_before : OnBothSides L' R' → OnBothSides L R
  shared_before shared =
      let other = variable_other shared.is_variable in
      record {
        variable = shared.variable;
        is_variable = shared.is_variable;
        on_left = held_before left_added other shared.on_left;
        on_right = held_before right_added other shared.on_right;
      }

  -- in any one mode in which the constant does not move they are alike, ..
  pub added_in_mode : (M : Mode) → M.moves c ≡ false → Alike limits M L R M L' R'
  added_in_mode M stays =
      alike_in_mode (added_occurs M stays) (equal added_net)
      (λ n m. (
        uncounted_carried
            (λ side one wrong. absurd (length_before (after side one).2 M wrong))
            (λ side one wrong. no_atom (after side one).1 (byte_after (after side one).2 wrong)) n m,
        uncounted_carried
            (λ other one wrong. absurd (length_after (before other one).2 M wrong))
            (λ other one wrong. no_atom (before other one).1
            (byte_before (before other one).2 added.to_127 wrong)) n m,
      ))
      (shared_after, shared_before)

  -- .. and in every way of listing
  pub added_alike : (way : Way) → Alike limits (mode_of way L R) L R (mode_of way L' R') L' R'
  added_alike way =
      subst (λ M. Alike limits (mode_of way L R) L R M L' R') (same_mode way L R L' R' variables_kept)
      (added_in_mode (mode_of way L R) (constant_stays way L R c added.from_64))

  -- Adding one constant to both sides changes no answer where neither side was empty and both stay within 64 atoms.
  pub added_answers : (way : Way) → SameAnswers (mode_of way L R) L R (mode_of way L' R') L' R'
  added_answers way = alike_answers (added_alike way)

-- So it is where a constant is put in front of both sides.
pub front_answers : (way : Way) {c : ℕ} {L R : List ℕ} → 64 ≤ c → c < 128 → 0 < length L → 0 < length R
    → length (c ∷ L) ≤ limits.most_atoms → length (c ∷ R) ≤ limits.most_atoms
    → SameAnswers (mode_of way L R) L R (mode_of way (c ∷ L) (c ∷ R)) (c ∷ L) (c ∷ R)
front_answers way {c} from_64 to_127 left_some right_some left_within right_within =
    added_answers
    (record {
      constant = c;
      from_64 = from_64;
      to_127 = to_127;
      on_left = λ a. refl;
      on_right = λ a. refl;
      left_some = left_some;
      right_some = right_some;
      left_within = left_within;
      right_within = right_within;
    })
    way
