-- Whether a side has a wrong length or holds a wrong byte, and whether a variable stands on both, is decided.
use Prim.Native.Nat.{ℕ}
use native.Mathlib.Decide.{dec_lt}
use native.Mathlib.Omega.{arith}
use mathlib.Core.Path.{◌≡◌, refl}
use mathlib.Core.Bool.{Bool, true, false}
use mathlib.Core.List.{List}
use lib.ListN.{length}
use Rattle.ac.specs.Limits.{Limits}
use Rattle.ac.specs.Pair.{is_variable, count}
use Rattle.ac.proofs.Counts.{count_some, count_member}
use Rattle.numbers.proofs.Decided.{same_dec, either_dec, both_dec, some_dec}
use Rattle.pair.specs.Given.{WrongLength, WrongByte, OnBothSides}

pub wrong_length_dec : (limits : Limits) (least : ℕ) (side : List ℕ) → Dec (WrongLength limits least side)
wrong_length_dec limits least side = either_dec (dec_lt (length side) least) (dec_lt limits.most_atoms (length side))

pub wrong_byte_dec : (limits : Limits) (side : List ℕ) → Dec (WrongByte limits side)
wrong_byte_dec limits side =
    same_dec (λ s. record { byte = s.member; held = s.on_list; above = s.so })
    (λ w. record { member = w.byte; on_list = w.held; so = w.above })
    (some_dec (λ b. dec_lt limits.highest_atom b) side)

-- a truth value is true or not
pub true_dec : (b : Bool) → Dec (b ≡ true)
true_dec true = yes refl
true_dec false = no (λ e. let z : ◌≡◌ {A = ℕ} 0 1 = cc e in omega arith)

-- whether a variable stands on both sides is decided
pub shared_dec : (L R : List ℕ) → Dec (OnBothSides L R)
shared_dec L R =
    same_dec (λ s. record {
      variable = s.member;
      is_variable = s.so.0;
      on_left = s.on_list;
      on_right = count_member s.member R s.so.1;
    }) (λ b. record {
      member = b.variable;
      on_list = b.on_left;
      so = (b.is_variable, count_some b.variable R b.on_right);
    }) (some_dec (λ a. both_dec (true_dec (is_variable a)) (dec_lt 0 (count a R))) L)
