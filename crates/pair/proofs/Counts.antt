-- Tables with a place for each atom: the occurrences on a side, and the atoms that move, each filled step by step.
use mathlib.Core.Path.{◌≡◌, refl, sym, ap, ◌∙◌}
use mathlib.Core.Bool.{Bool, true, false, ◌&&◌}
use mathlib.Core.List.{List, [], ◌∷◌, ◌++◌}
use Prim.Native.Nat.{ℕ, suc, ◌+◌, ◌≤◌, ◌<◌}
use native.Mathlib.Decide.{ℕ_discrete}
use native.Mathlib.Omega.{arith}
use native.Mathlib.Numerals.{add-one}
use Rattle.std.specs.List.{list_any, zip}
use Rattle.std.proofs.lemmas.List.{get_or-take, get_or_default}
use Rattle.std.proofs.lemmas.List.Folds.{Any-from_list_any, list_any_at}
use Rattle.std.proofs.lemmas.Slice.Zip.{get_or-zip, length-zip}
use lib.ListN.{length, get_or, set, take, replicate, length-take, length-set}
use lib.Seq.{take-suc, get_or-set_same, get_or-set_other}
use lib.Dec.{eqb, ltb}
use borrow.Author.Tests.{lt-ltb, le-ltb, ltb-true}
use Rattle.ac.specs.Pair.{Mode, count, same}
use Rattle.ac.proofs.Places.{get_or_member}
use Rattle.ac.proofs.Counts.{same_self, same_other, count-append, count_some, count_member}
use Rattle.ac.specs.Limits.{limits}
use Rattle.numbers.specs.Tells.{Tells}
use Rattle.numbers.proofs.Carried.{and_true}
use Rattle.pair.specs.Given.{WrongByte, OnBothSides, PairGiven, on_both_sides}
use Rattle.pair.specs.Counts.{Occurrences}
use Rattle.pair.proofs.Lists.{get_or-replicate-same}
use Rattle.pair.proofs.Telling.{true_not_false, at_most, tells_same}

-- two atoms are the same once at most
same_le : (a b : ℕ) → same a b ≤ 1
same_le a b = go (eqb a b) refl
  where
    go : (t : Bool) → eqb a b ≡ t → same a b ≤ 1
    go true e = rw e (omega arith)
    go false e = rw e (omega arith)

-- an atom occurs at most as often as the side is long
count_le_length : (a : ℕ) (s : List ℕ) → count a s ≤ length s
count_le_length a [] = omega arith
count_le_length a (b ∷ s) = omega (arith, same_le a b, count_le_length a s)

-- one more atom of the side, counted at its place
pub counts_more : (side table : List ℕ) {i x : ℕ} → x ≡ get_or side i 0 → i < length side → x < length table
    → Occurrences (take i side) table
    → Occurrences (take (i + 1) side) (set table x (get_or table x 0 + 1))
counts_more side table {i} {x} its within place counts =
    record {
      places = simp length-set counts.places;
      entries = λ a. go a (ℕ_discrete a x) ∙ sym (ap (count a) one_more ∙ count-append a (take i side) (x ∷ []));
    }
  where
    one_more : take (i + 1) side ≡ take i side ++ x ∷ []
    one_more = rw its (ap (λ (n : ℕ). take n side) (add-one i) ∙ take-suc side i 0 within)

    go : (a : ℕ) → Dec (a ≡ x)
        → get_or (set table x (get_or table x 0 + 1)) a 0 ≡ count a (take i side) + count a (x ∷ [])
    go a (yes e) = rw e (get_or-set_same table x (get_or table x 0 + 1) 0 place
        ∙ omega (arith, counts.entries x, same_self x x refl))
    go a (no differ) = get_or-set_other table x a (get_or table x 0 + 1) 0 differ
        ∙ omega (arith, counts.entries a, same_other a x differ)

-- nothing is counted yet
pub counts_none : Occurrences [] (replicate 128 0)
counts_none = record { places = refl; entries = λ a. get_or-replicate-same 128 a 0 }

-- each byte of a side of atoms alone is an atom
pub right-byte : {side : List ℕ} {i x : ℕ} → x ≡ get_or side i 0 → i < length side → (WrongByte limits side → ⊥) → x < 128
right-byte {side} {i} {x} its within right =
    at_most (suc x) 128 (λ high. right
    (record { byte = x; held = rw its (get_or_member side i 0 within); above = omega arith }))

-- a count so far is below the limit of a byte
pub count_so_far : (side table : List ℕ) (i x : ℕ) → Occurrences (take i side) table
    → length side ≤ 64 → get_or table x 0 ≤ 64
count_so_far side table i x counts short =
    omega (arith, counts.entries x, count_le_length x (take i side), length-take i side)

-- the table says so of the atoms below a number, and false of all others
abbrev pub SaidBelow : (ℕ → Bool) → ℕ → List Bool → Type 0
SaidBelow said n table = (a : ℕ) → get_or table a false ≡ (ltb a n && said a)

-- nothing is said yet
pub said_below_none : (said : ℕ → Bool) (k : ℕ) → SaidBelow said 0 (replicate k false)
said_below_none said k a = get_or-replicate-same k a false ∙ sym (ap (λ (t : Bool). t && said a) (le-ltb a 0 (omega arith)))

-- a variable that stands on both sides, by the two tables
module _ {L R lefts rights : List ℕ} (of_left : Occurrences L lefts) (of_right : Occurrences R rights) where
  shared_there : (a : ℕ) → a < 64 → 0 < get_or lefts a 0 → 0 < get_or rights a 0 → OnBothSides L R
  shared_there a variable on_left on_right =
      record {
        variable = a;
        is_variable = lt-ltb a 64 variable;
        on_left = count_member a L (omega (arith, of_left.entries a));
        on_right = count_member a R (omega (arith, of_right.entries a));
      }

  -- the tables' entries at a variable
  both_at : (a : ℕ) → a < 64
      → get_or (zip (take 64 lefts) rights) a (0, 0) ≡ (get_or lefts a 0, get_or rights a 0)
  both_at a variable =
      get_or-zip (take 64 lefts) rights a (0, 0) (omega (arith, length-take 64 lefts, of_left.places))
      (omega (arith, of_right.places))
      ∙ ap (λ (n : ℕ). (n, get_or rights a 0)) (get_or-take 64 lefts a 0 variable)

  -- whether some variable has entries in both
  pub tells_shared : Tells (OnBothSides L R)
      (list_any (λ (p : ℕ × ℕ). ltb 0 p.0 && ltb 0 p.1) (zip (take 64 lefts) rights))
  tells_shared = record { if_true = there; if_false = λ none shared. nowhere none shared }
    where
      there : list_any (λ (p : ℕ × ℕ). ltb 0 p.0 && ltb 0 p.1) (zip (take 64 lefts) rights) ≡ true → OnBothSides L R
      there some =
          let at = Any-from_list_any (λ (p : ℕ × ℕ). ltb 0 p.0 && ltb 0 p.1) (zip (take 64 lefts) rights) some in
          let variable : at.0 < 64 = omega (arith, at.2, length-zip (take 64 lefts) rights, length-take 64 lefts) in
          let within : at.0 < length (zip (take 64 lefts) rights) = at.2 in
          let e = sym at.3 ∙ get_or_default _ at.0 at.1 (0, 0) within ∙ both_at at.0 variable in
          let both = and_true _ _ (rw e at at.4) in
          shared_there at.0 variable (ltb-true 0 _ both.0) (ltb-true 0 _ both.1)

      nowhere : list_any (λ (p : ℕ × ℕ). ltb 0 p.0 && ltb 0 p.1) (zip (take 64 lefts) rights) ≡ false → OnBothSides L R → ⊥
      nowhere none shared =
          let a = shared.variable in
          let variable : a < 64 = ltb-true a 64 shared.is_variable in
          let left : 0 < get_or lefts a 0 =
          (let some = count_some a L shared.on_left in omega (arith, of_left.entries a)) in
          let right : 0 < get_or rights a 0 =
          (let some = count_some a R shared.on_right in omega (arith, of_right.entries a)) in
          true_not_false
          (list_any_at (λ (p : ℕ × ℕ). ltb 0 p.0 && ltb 0 p.1) (zip (take 64 lefts) rights) a (0, 0)
          (omega (arith, length-zip (take 64 lefts) rights, length-take 64 lefts, of_left.places, of_right.places))
          (rw (both_at a variable, lt-ltb 0 (get_or lefts a 0) left) (lt-ltb 0 (get_or rights a 0) right)))
          none

-- it refuses where the way asks for separate variables
pub never_separate : {M : Mode} {L R : List ℕ} → M.separate ≡ false → PairGiven limits M L R 19 → ⊥
never_separate free (on_both_sides asked shared) = let z : ◌≡◌ {A = ℕ} 0 1 = cc (free, asked) in omega arith

pub tells_separate : {M : Mode} {L R : List ℕ} {told : Bool} → M.separate ≡ true → Tells (OnBothSides L R) told
    → Tells (PairGiven limits M L R 19) told
tells_separate {M} {L} {R} asked = tells_same (λ shared. on_both_sides asked shared) its
  where
    its : PairGiven limits M L R 19 → OnBothSides L R
    its (on_both_sides asked shared) = shared
