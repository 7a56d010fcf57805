-- Pairs 1 to 12 of document 01: one test, computed over the table, and the law that turns it into what the
-- questions answer of each pair.
use Prim.Native.Nat.{ℕ, ◌-◌, ◌≤◌}
use native.Mathlib.Omega.{arith}
use mathlib.Core.Path.{◌≡◌, refl, subst}
use mathlib.Core.Bool.{Bool, true}
use mathlib.Core.List.{List, [], ◌∷◌, Memᴰ}
use borrow.Author.Tests.{leb-true}
use lib.Dec.{leb}
use lib.ListN.{length}
use Rattle.ac.specs.Pair.{unifying}
use Rattle.ac.specs.Lists.{every}
use Rattle.ac.specs.Search.{groups}
use Rattle.ac.specs.Keys.{layout, listed, keys}
use Rattle.ac.specs.Worked.{Printed, how_many, rows, balanced_rows, rows_of, the_keys, substitutions, Pair, pairs, Holds}
use Rattle.ac.proofs.Groups.{groups_exist, groups_unique}
use Rattle.ac.proofs.Places.{get_or_member}
use Rattle.ac.proofs.Tests.{every_member}
use Rattle.ac.proofs.Worked.{worked_pairs}
use Rattle.ac.specs.Limits.{limits}
use Rattle.pair.specs.Given.{PairGiven}
use Rattle.worked.specs.Answers.{PageGivesAll, ValuesGiveInTurn, AnswersPrinted, AnswersBy, Worked, numbered}
use Rattle.worked.proofs.Within.{all, each, within, never_given}
use Rattle.worked.proofs.Answering.{rows_of_groups, page_of_list, values_of_key, in_turn}

module _ (L R : List ℕ) where
  abbrev list : List ℕ
  list = keys unifying layout L R (groups unifying L R)

  -- the limits are kept, and there are at most 200 keys
  abbrev pub tests : List Bool
  tests = within unifying L R ∷ leb (length list) 200 ∷ []

-- the tests of a pair
abbrev test_pair : Pair → Bool
test_pair pair = all (tests pair.left pair.right)

-- The test passes at every pair of the table.
all_pass : every test_pair pairs ≡ true
all_pass = refl

module _ (L R : List ℕ) (passes : all (tests L R) ≡ true) where
  never : (n : ℕ) → PairGiven limits unifying L R n → ⊥
  never n = never_given unifying L R (each (tests L R) passes 0)

  -- so the questions answer by the groups that the search finds
  pub computed : AnswersBy L R (groups unifying L R)
  computed =
      record {
        the_rows = rows_of_groups (groups_exist unifying L R) never;
        the_list = page_of_list (groups_exist unifying L R) never (list L R) refl
            (leb-true (length (list L R)) 200 (each (tests L R) passes 1));
        the_values = values_of_key (groups_exist unifying L R) never;
      }

  -- what holds of the groups is what is answered
  pub printed : (what : Printed) → Holds L R (groups unifying L R) what → AnswersPrinted L R what
  printed (how_many k) e = (list L R, (_, computed.the_list), e)
  printed (rows rs) e = (groups unifying L R, groups_exist unifying L R, e, computed.the_rows)
  printed (balanced_rows k) e = (groups unifying L R, groups_exist unifying L R, e, computed.the_rows)
  printed (rows_of a k) e = (groups unifying L R, groups_exist unifying L R, e, computed.the_rows)
  printed (the_keys ks) e = subst (PageGivesAll L R) e (_, computed.the_list)
  printed (substitutions vs) e = (
    list L R,
    (_, computed.the_list),
    subst (ValuesGiveInTurn L R (list L R)) e
        (in_turn (groups_exist unifying L R) never (listed unifying layout L R (groups unifying L R)) (λ s m. m)),
  )

-- Pairs 1 to 12: what document 01 prints of each is what the questions answer.
pub worked_questions : (pair : Pair) → Memᴰ pair pairs → Worked pair
worked_questions pair member =
    record {
      as_printed = λ what m. printed L R passed what
          (worked_pairs pair member (groups unifying L R) (groups_exist unifying L R) what m);
      by_groups = λ G groups_of. subst (AnswersBy L R)
          (groups_unique unifying L R (groups_exist unifying L R) groups_of) (computed L R passed);
    }
  where
    L : List ℕ
    L = pair.left

    R : List ℕ
    R = pair.right

    passed : all (tests L R) ≡ true
    passed = every_member test_pair all_pass member

-- and so of the pair of each number
pub worked_number : (n : ℕ) → 1 ≤ n → n ≤ 12 → Worked (numbered n)
worked_number n low high =
    worked_questions (numbered n) (get_or_member pairs (n - 1) (record { left = []; right = []; printed = [] })
    (omega arith))

-- by its groups
pub worked_groups : (n : ℕ) → 1 ≤ n → n ≤ 12
    → AnswersBy (numbered n).left (numbered n).right (groups unifying (numbered n).left (numbered n).right)
worked_groups n low high =
    (worked_number n low high).by_groups _ (groups_exist unifying (numbered n).left (numbered n).right)
