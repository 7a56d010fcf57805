-- 2·v0+c0 and v1+v2+c1, reordered, swapped and with c2 added (document 02, R-6): what the questions answer is
-- computed of each of the four. That it is the same follows without computing, from the theorems of
-- whole/proofs/Rewritten.antt.
use Prim.Native.Nat.{ℕ}
use native.Mathlib.Omega.{arith}
use mathlib.Core.Path.{◌≡◌, refl, sym, subst, subst₂}
use mathlib.Core.Bool.{true}
use mathlib.Core.List.{List, Memᴰ}
use Rattle.ac.specs.Pair.{unifying, matching}
use Rattle.ac.specs.Search.{groups}
use Rattle.ac.specs.Keys.{layout, keys, start}
use Rattle.ac.specs.Weighed.{candidates, weighed}
use Rattle.pair.specs.declared.ways.Way.TheVariants.{Unifying, Matching}
use Rattle.solver.specs.Rows.{sizes_as, sizes_of, all_rows}
use Rattle.solver.specs.Values.{values_of}
use Rattle.whole.specs.Alike.{SameAnswers}
use Rattle.whole.proofs.Rewritten.{multisets_answers, swapped_answers, added_answers}
use Rattle.worked.specs.Answers.{RowsAnswers, PageAnswers, ValuesAnswers}
use Rattle.worked.specs.Rewritten.{left, right, left_reordered, right_reordered, left_with_c2, right_with_c2, pattern, subject, pattern_with_c1, subject_with_c1, its_rows, its_keys, values_of_six, AnswersOfExample}
use Rattle.worked.proofs.Within.{all}
use Rattle.worked.proofs.Worked.{tests, computed}

-- 6 is one of the keys
six_listed : Memᴰ 6 its_keys
six_listed = Memᴰ.tail (Memᴰ.tail (Memᴰ.tail (Memᴰ.tail (Memᴰ.head refl))))

-- two sides that keep the limits and of which these rows, keys and values are found, and all candidates weighed
found : (L R : List ℕ) → all (tests L R) ≡ true → sizes_of (groups unifying L R) ≡ sizes_as 3 2 2 2 0 0
    → all_rows (groups unifying L R) ≡ its_rows → keys unifying layout L R (groups unifying L R) ≡ its_keys
    → weighed start (keys unifying layout L R (groups unifying L R)) (candidates unifying layout (groups unifying L R)) ≡ 32
    → values_of unifying L R (groups unifying L R) 6 ≡ values_of_six → AnswersOfExample L R
found L R passes sizes rows list weighs six =
    let answers = computed L R passes in
    record {
      the_rows = subst₂ (RowsAnswers L R) sizes rows answers.the_rows;
      the_list = subst₂ (PageAnswers L R) weighs list answers.the_list;
      of_key_six = subst (ValuesAnswers L R 6) six
          (answers.the_values 6 (subst (Memᴰ 6) (sym list) six_listed));
    }

-- The sizes of the groups are 3, and 2 and 2; there are 28 keys of 32 candidates; and key 6 has these values: as it is written, ..
pub as_written : AnswersOfExample left right
as_written = found left right refl refl refl refl refl refl

-- .. reordered, ..
pub reordered : AnswersOfExample left_reordered right_reordered
reordered = found left_reordered right_reordered refl refl refl refl refl refl

-- .. swapped, ..
pub swapped : AnswersOfExample right left
swapped = found right left refl refl refl refl refl refl

-- .. and with c2 added.
pub with_c2 : AnswersOfExample left_with_c2 right_with_c2
with_c2 = found left_with_c2 right_with_c2 refl refl refl refl refl refl

-- All answers are the same, whatever is asked and lent.
pub reordered_same : SameAnswers unifying left right unifying left_reordered right_reordered
reordered_same = multisets_answers Unifying (λ a. omega arith) (λ a. omega arith)

pub swapped_same : SameAnswers unifying left right unifying right left
swapped_same = swapped_answers unifying

pub with_c2_same : SameAnswers unifying left right unifying left_with_c2 right_with_c2
with_c2_same =
    added_answers
    (record {
      constant = 66;
      from_64 = omega arith;
      to_127 = omega arith;
      on_left = λ a. omega arith;
      on_right = λ a. omega arith;
      left_some = omega arith;
      right_some = omega arith;
      left_within = omega arith;
      right_within = omega arith;
    })
    Unifying

-- Matching, so it is of v0+v1 and v2+c0, which have two matches (`two_matches`, ac/proofs/MatchingExample.antt),
-- reordered and with c1 added.
pub matching-same : SameAnswers (matching pattern) pattern subject (matching pattern_with_c1) pattern_with_c1 subject_with_c1
matching-same =
    added_answers
    (record {
      constant = 65;
      from_64 = omega arith;
      to_127 = omega arith;
      on_left = λ a. omega arith;
      on_right = λ a. omega arith;
      left_some = omega arith;
      right_some = omega arith;
      left_within = omega arith;
      right_within = omega arith;
    })
    Matching
