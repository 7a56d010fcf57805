-- A pair that a line says is never refused by Write.
use Rattle.std.proofs.Common.{ℕ, List, sym, subst}
use mathlib.Core.List.{Memᴰ}
use Rattle.numbers.proofs.Laws.{first_not_none}
use Rattle.numbers.proofs.Promises.{refused_first}
use Rattle.writing.proofs.Accepted.{Acceptable, acceptable}
use Rattle.pattern.specs.Characters.{Each, none, one_more}
use Rattle.pattern.specs.Line.{PairLine}
use Rattle.pattern.proofs.Writable.{CanBeWritten, pair_writable}
use Rattle.pack.specs.Packing.{WriteRefuses}

-- each member is such
each_member : {Such : ℕ → Type 0} {atoms : List ℕ} → Each Such atoms → (a : ℕ) → Memᴰ a atoms → Such a
each_member {Such = Such} none a x3 = elim x3 [ ]
each_member {Such} (one_more such rest) a (Memᴰ.head same) = subst Such (sym same) such
each_member (one_more such rest) a (Memᴰ.tail m) = each_member rest a m

-- what can be written is accepted
accepted_sides : {left right : List ℕ} → CanBeWritten left right → Acceptable left right
accepted_sides can =
    record {
      within =
          record {
            left_some = can.left_some;
            left_few = can.left_most;
            right_some = can.right_some;
            right_few = can.right_most;
          };
      left_atoms = each_member can.left_each;
      right_atoms = each_member can.right_each;
    }

pub never_refused : {line left right : List ℕ} {number : ℕ} → PairLine line left right
    → WriteRefuses left right number → ⊥
never_refused said refuses =
    first_not_none (refused_first refuses.promised)
    (acceptable (accepted_sides (pair_writable said)) refuses.enough)
