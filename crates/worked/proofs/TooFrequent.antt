-- Pairs with an atom that is too frequent (document 02, R-2): what each question answers of them, by what it promises
-- alone. A test computes that nothing before 10 is given and which atom is the lowest.
use Prim.Native.Nat.{ℕ, ◌≤◌}
use native.Mathlib.Omega.{arith}
use mathlib.Core.Path.{◌≡◌, refl}
use mathlib.Core.Bool.{Bool, true}
use mathlib.Core.List.{List, [], ◌∷◌, ◌++◌}
use borrow.Author.Tests.{leb-true, ltb-true}
use lib.Dec.{leb, ltb}
use lib.IntN.{nat_abs}
use lib.ListN.{length, get_or, replicate}
use Rattle.ac.specs.Limits.{limits}
use Rattle.ac.specs.Lists.{below, every}
use Rattle.ac.specs.Pair.{unifying, net, variables}
use Rattle.ac.specs.Keys.{Beginning}
use Rattle.ac.proofs.Groups.{groups_exist}
use Rattle.ac.proofs.Members.{members_below}
use Rattle.ac.proofs.Tests.{every_member}
use Rattle.numbers.specs.First.{First, here, later}
use Rattle.numbers.specs.Numbers.{said_of}
use Rattle.numbers.specs.Order.{sides_numbers}
use Rattle.numbers.specs.Outcome.{refused, is_refused}
use Rattle.numbers.specs.declared.Refusal.TheVariants.{Variables, NetCount}
use Rattle.numbers.proofs.Parts.{first_of_sides}
use Rattle.numbers.proofs.Promises.{outcome_determined}
use Rattle.numbers.proofs.Said.{refuses_naming, refuses_other}
use Rattle.pair.specs.Given.{SideOf, left, right, LowestFar, PairGiven, side_length, no_atom, many_variables, far_net_count}
use Rattle.pair.proofs.Counts.{never_separate}
use Rattle.solver.specs.Rows.{rows_buffer}
use Rattle.solver.specs.Page.{wanted_count}
use Rattle.solver.specs.Values.{values_buffer}
use Rattle.solver.proofs.Determined.{one_rows, one_page, one_values}
use Rattle.solver.proofs.Given.{rows_made, page_made, values_made}
use Rattle.worked.specs.Questions.{rows_question, page_question, values_question}
use Rattle.worked.specs.Answers.{Answers}
use Rattle.worked.proofs.Within.{all, each, side_tests, length_within, byte_within}

-- the sides hold 1 to 64 atoms, and at most 6 variables; the atom's net count is too far from 0, and no lower one's is
abbrev far_tests : List ℕ → List ℕ → ℕ → List Bool
far_tests L R atom =
    all (side_tests limits.least_atoms L)
    ∷ all (side_tests limits.least_atoms R)
    ∷ leb (length (variables unifying L R)) limits.variables
    ∷ ltb limits.net_count (nat_abs (net L R atom))
    ∷ every (λ k. leb (nat_abs (net L R k)) limits.net_count) (below atom)
    ∷ []

module _ (L R : List ℕ) where
  -- where the sides pass, 7 and 8 are not given
  module _ (left_passes : all (side_tests limits.least_atoms L) ≡ true) (right_passes : all (side_tests limits.least_atoms R) ≡ true) where
    passes : {side : List ℕ} → SideOf L R side → all (side_tests limits.least_atoms side) ≡ true
    passes left = left_passes
    passes right = right_passes

    not_7 : PairGiven limits unifying L R 7 → ⊥
    not_7 (side_length {side = side} one wrong) = length_within limits.least_atoms side (passes one) wrong

    not_8 : PairGiven limits unifying L R 8 → ⊥
    not_8 (no_atom {side = side} one wrong) =
        omega (arith, wrong.above, byte_within limits.least_atoms side (passes one) wrong.held)

  -- seven variables are refused with 9, whatever their net counts
  pub nine_first : all (side_tests limits.least_atoms L) ≡ true → all (side_tests limits.least_atoms R) ≡ true
      → ltb limits.variables (length (variables unifying L R)) ≡ true
      → First (PairGiven limits unifying L R) sides_numbers 9
  nine_first left_passes right_passes many =
      later (not_7 left_passes right_passes) (later (not_8 left_passes right_passes) (later (never_separate {M = unifying} refl)
      (here (many_variables (ltb-true limits.variables (length (variables unifying L R)) many)))))

  module _ (atom : ℕ) (far : all (far_tests L R atom) ≡ true) where
    passed : (place : ℕ) → get_or (far_tests L R atom) place true ≡ true
    passed = each (far_tests L R atom) far

    not_9 : PairGiven limits unifying L R 9 → ⊥
    not_9 (many_variables many) = omega (arith, leb-true (length (variables unifying L R)) limits.variables (passed 2))

    -- the atom is the lowest
    pub its_lowest : LowestFar limits L R atom
    its_lowest =
        record {
          far = ltb-true limits.net_count (nat_abs (net L R atom)) (passed 3);
          lowest = λ lower less its_far. omega (
            arith,
            its_far,
            leb-true (nat_abs (net L R lower)) limits.net_count
                (every_member (λ k. leb (nat_abs (net L R k)) limits.net_count) (passed 4) (members_below less)),
          );
        }

    ten_first : First (PairGiven limits unifying L R) sides_numbers 10
    ten_first =
        later (not_7 (passed 0) (passed 1)) (later (not_8 (passed 0) (passed 1)) (later (never_separate {M = unifying} refl) (later not_9
        (here (far_net_count atom its_lowest.far)))))

    -- each question answers 10 with the atom, and changes nothing
    pub rows_name : (out : List ℕ) → rows_buffer ≤ length out
        → Answers rows_question (record { left = L; right = R; also = tt }) out (refused (said_of (NetCount atom))) out
    rows_name out enough =
        let met = is_refused (refuses_naming (first_of_sides rows_made enough [] ten_first) its_lowest) in
        record { meets = met; alone = λ other exit p. outcome_determined one_rows p met }

    pub page_names : (begin : Beginning) (wanted : ℕ) (out : List ℕ) → wanted_count wanted ≤ length out
        → Answers page_question (record { left = L; right = R; also = record { begin = begin; wanted = wanted } }) out
        (refused (said_of (NetCount atom))) out
    page_names begin wanted out enough =
        let first = first_of_sides (page_made (groups_exist unifying L R)) enough _ ten_first in
        let met = is_refused (refuses_naming first its_lowest) in
        record { meets = met; alone = λ other exit p. outcome_determined one_page p met }

    pub values_name : (key : ℕ) (out : List ℕ) → values_buffer ≤ length out
        → Answers values_question (record { left = L; right = R; also = key }) out (refused (said_of (NetCount atom))) out
    values_name key out enough =
        let first = first_of_sides (values_made (groups_exist unifying L R)) enough _ ten_first in
        let met = is_refused (refuses_naming first its_lowest) in
        record { meets = met; alone = λ other exit p. outcome_determined one_values p met }

-- so many of an atom
abbrev pub times : ℕ → ℕ → List ℕ
times n atom = replicate n atom

-- 9·v0 and v1: v0
pub nine_of_v0 : (out : List ℕ) → rows_buffer ≤ length out
    → Answers rows_question (record { left = times 9 0; right = 1 ∷ []; also = tt }) out
    (refused (said_of (NetCount 0))) out
nine_of_v0 = rows_name (times 9 0) (1 ∷ []) 0 refl

-- v0 and 9·v7 in a block: Read gives the right side as v39
pub nine_of_v39 : (out : List ℕ) → rows_buffer ≤ length out
    → Answers rows_question (record { left = 0 ∷ []; right = times 9 39; also = tt }) out
    (refused (said_of (NetCount 39))) out
nine_of_v39 = rows_name (0 ∷ []) (times 9 39) 39 refl

-- 10·c0 and c0: c0
pub ten_of_c0 : (out : List ℕ) → rows_buffer ≤ length out
    → Answers rows_question (record { left = times 10 64; right = 64 ∷ []; also = tt }) out
    (refused (said_of (NetCount 64))) out
ten_of_c0 = rows_name (times 10 64) (64 ∷ []) 64 refl

-- 9·v0+9·c0 and v1: v0
pub of_two : (out : List ℕ) → rows_buffer ≤ length out
    → Answers rows_question (record { left = times 9 0 ++ times 9 64; right = 1 ∷ []; also = tt }) out
    (refused (said_of (NetCount 0))) out
of_two = rows_name (times 9 0 ++ times 9 64) (1 ∷ []) 0 refl

-- seven variables, one of them of net count 9: number 9 alone
pub seven_variables : (out : List ℕ) → rows_buffer ≤ length out
    → Answers rows_question (record { left = times 9 0 ++ 1 ∷ 2 ∷ 3 ∷ []; right = 4 ∷ 5 ∷ 6 ∷ []; also = tt }) out
    (refused (said_of Variables)) out
seven_variables out enough =
    let first = nine_first (times 9 0 ++ 1 ∷ 2 ∷ 3 ∷ []) (4 ∷ 5 ∷ 6 ∷ []) refl refl refl in
    let met = is_refused (refuses_other Variables refl (first_of_sides rows_made enough [] first)) in
    record { meets = met; alone = λ other exit p. outcome_determined one_rows p met }
