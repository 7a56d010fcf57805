-- What holds of every way of listing.
use Prim.Native.Nat.{ℕ, ◌≤◌}
use mathlib.Core.Path.{◌≡◌, refl, ap, fun_ext}
use mathlib.Core.Bool.{Bool, true, false, ◌&&◌}
use mathlib.Core.List.{List}
use borrow.Author.Tests.{le-ltb}
use lib.Dec.{ltb}
use Rattle.ac.specs.Pair.{Mode, is_variable, count}
use Rattle.pair.specs.Ways.{mode_of}
use Rattle.pair.specs.declared.ways.Way.{Way}
use Rattle.pair.specs.declared.ways.Way.TheVariants.{Unifying, Matching, Identity}

-- a constant, 64 or above, does not move
pub constant_stays : (way : Way) (L R : List ℕ) (c : ℕ) → 64 ≤ c → (mode_of way L R).moves c ≡ false
constant_stays Unifying L R c from_64 = le-ltb c 64 from_64
constant_stays Matching L R c from_64 = ap (λ variable. variable && ltb 0 (count c L)) (le-ltb c 64 from_64)
constant_stays Identity L R c from_64 = le-ltb c 64 from_64

-- two tests after one that both ask first
pub and_same : (b : Bool) {p q : Bool} → (b ≡ true → p ≡ q) → (b && p) ≡ (b && q)
and_same true agree = agree refl
and_same false agree = refl

-- The mode of two sides is that of any others whose left side has the same variables equally often.
pub same_mode : (way : Way) (L R L' R' : List ℕ) → ((a : ℕ) → is_variable a ≡ true → count a L ≡ count a L')
    → mode_of way L R ≡ mode_of way L' R'
same_mode Unifying L R L' R' same = refl
same_mode Matching L R L' R' same =
    ap {B = Mode} (λ moves. record { moves = moves; empties = false; separate = true })
    (fun_ext (λ a. and_same (is_variable a) (λ variable. ap (ltb 0) (same a variable))))
same_mode Identity L R L' R' same = refl
