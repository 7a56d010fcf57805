-- Matching v0+v1 against v32+v32+v33 (document 02, R-4): what the three questions answer, by what they promise alone, and
-- wrong programs for them.
use Prim.Native.Nat.{ℕ, ◌≤◌}
use native.Mathlib.Omega.{arith}
use mathlib.Core.Path.{◌≡◌, refl, sym}
use mathlib.Core.Bool.{false}
use mathlib.Core.List.Memᴰ
use mathlib.Core.List.{List, [], ◌∷◌}
use lib.ListN.{length, replicate}
use Rattle.ac.specs.Lists.{receives}
use Rattle.ac.specs.Limits.{limits}
use Rattle.ac.specs.Pair.{matching}
use Rattle.ac.specs.Rows.{GroupsOf}
use Rattle.ac.specs.Keys.{start}
use Rattle.ac.specs.Search.{groups}
use Rattle.ac.proofs.Groups.{groups_exist}
use Rattle.numbers.specs.First.{First, NoneOf, here, later}
use Rattle.numbers.specs.Numbers.{said_of}
use Rattle.numbers.specs.Order.{sides_numbers, beginning_numbers}
use Rattle.numbers.specs.Outcome.{refused, given, is_refused, is_given}
use Rattle.numbers.specs.declared.Refusal.TheVariants.{OnBothSides}
use Rattle.numbers.proofs.Carried.{none_of}
use Rattle.numbers.proofs.Parts.{none_of_sides, first_of_sides}
use Rattle.numbers.proofs.Promises.{refused_not_given, outcome_determined}
use Rattle.numbers.proofs.Said.{refuses_other}
use Rattle.pair.specs.Given.{left, right, PairGiven, side_length, no_atom, on_both_sides}
use Rattle.pair.specs.declared.ways.Way.TheVariants.{Matching}
use Rattle.list.proofs.Given.{start_not_after, list_gives_none}
use Rattle.solver.specs.Rows.{sizes_as, rows_buffer, rows}
use Rattle.solver.specs.Page.{next}
use Rattle.solver.specs.Values.{values_buffer, values}
use Rattle.solver.proofs.Determined.{one_rows, one_page, one_values}
use Rattle.solver.proofs.Given.{rows_made, page_none, values_none}
use Rattle.worked.specs.Questions.{SidesAsked, Request, rows_question_by, page_question_by, values_question_by}
use Rattle.worked.specs.Answers.{Answers}
use Rattle.worked.specs.Programs.{Program, MeetsAt, RefusesEverything, ConstantResult, WritesNothing}
use Rattle.worked.proofs.Within.{length_within, byte_within, never_given}
use Rattle.worked.proofs.Wrong as wrong

-- the pattern, the subject, and what else a question is asked of them
abbrev pattern : List ℕ
pattern = 0 ∷ 1 ∷ []

abbrev subject : List ℕ
subject = 32 ∷ 32 ∷ 33 ∷ []

abbrev asked : {Also : Type 0} → Also → SidesAsked Also
asked also = record { left = pattern; right = subject; also = also }

-- its groups of rows, and that it keeps the limits
of : GroupsOf (matching pattern) pattern subject (groups (matching pattern) pattern subject)
of = groups_exist (matching pattern) pattern subject

nothing : NoneOf (PairGiven limits (matching pattern) pattern subject) sides_numbers
nothing = none_of (λ n. never_given (matching pattern) pattern subject refl) sides_numbers

-- Rows: none is balanced; v32 has three and v33 has two
pub rows_of_match : (out : List ℕ) → rows_buffer ≤ length out
    → Answers (rows_question_by Matching) (asked tt) out (given (sizes_as 0 2 3 2 0 0))
    (receives out (0 ∷ 2 ∷ 1 ∷ 1 ∷ 2 ∷ 0 ∷ 0 ∷ 1 ∷ 1 ∷ 0 ∷ []))
rows_of_match out enough =
    let met = is_given (none_of_sides rows_made enough nothing) (rows of) in
    record { meets = met; alone = λ other exit p. outcome_determined one_rows p met }

-- Page: four keys, the last of them the fifth of six candidates
abbrev four_keys : List ℕ
four_keys = 16777216 ∷ 268435456 ∷ 285212672 ∷ 536870912 ∷ []

pub page_of_match : (out : List ℕ) → 200 ≤ length out
    → Answers (page_question_by Matching) (asked (record { begin = start; wanted = 200 })) out
    (given (record { written = 4; more = false; weighed = 5 })) (receives out four_keys)
page_of_match out enough =
    let none_left = none_of (λ n. list_gives_none (λ k same. absurd (start_not_after same))
    (Memᴰ.head {x = 16777216} refl)) beginning_numbers in
    let met = is_given (page_none of nothing enough none_left) (next of) in
    record { meets = met; alone = λ other exit p. outcome_determined one_page p met }

-- Values of the first: v0=v33 v1=v32+v32
pub values_of_match : (out : List ℕ) → values_buffer ≤ length out
    → Answers (values_question_by Matching) (asked 16777216) out (given 7)
    (receives out (0 ∷ 1 ∷ 33 ∷ 1 ∷ 2 ∷ 32 ∷ 32 ∷ []))
values_of_match out enough =
    let listed = Memᴰ.head refl in
    let met = is_given (values_none of nothing enough listed) (values of) in
    record { meets = met; alone = λ other exit p. outcome_determined one_values p met }

-- v0+c0 and v0+c1: v0 stands on both sides, so it is 19
abbrev shared : {Also : Type 0} → Also → SidesAsked Also
shared also = record { left = 0 ∷ 64 ∷ []; right = 0 ∷ 65 ∷ []; also = also }

first_19 : First (PairGiven limits (matching (0 ∷ 64 ∷ [])) (0 ∷ 64 ∷ []) (0 ∷ 65 ∷ [])) sides_numbers 19
first_19 = later not_7 (later not_8 (here (on_both_sides refl (record {
  variable = 0;
  is_variable = refl;
  on_left = Memᴰ.head refl;
  on_right = Memᴰ.head refl;
}))))
  where
    not_7 : PairGiven limits (matching (0 ∷ 64 ∷ [])) (0 ∷ 64 ∷ []) (0 ∷ 65 ∷ []) 7 → ⊥
    not_7 (side_length left wrong) = length_within limits.least_atoms (0 ∷ 64 ∷ []) refl wrong
    not_7 (side_length right wrong) = length_within limits.least_atoms (0 ∷ 65 ∷ []) refl wrong

    not_8 : PairGiven limits (matching (0 ∷ 64 ∷ [])) (0 ∷ 64 ∷ []) (0 ∷ 65 ∷ []) 8 → ⊥
    not_8 (no_atom left wrong) = omega (arith, wrong.above, byte_within limits.least_atoms (0 ∷ 64 ∷ []) refl wrong.held)
    not_8 (no_atom right wrong) = omega (arith, wrong.above, byte_within limits.least_atoms (0 ∷ 65 ∷ []) refl wrong.held)

pub shared_refused : (out : List ℕ) → rows_buffer ≤ length out
    → Answers (rows_question_by Matching) (shared tt) out (refused (said_of OnBothSides)) out
shared_refused out enough =
    let met = is_refused (refuses_other OnBothSides refl (first_of_sides rows_made enough [] first_19)) in
    record { meets = met; alone = λ other exit p. outcome_determined one_rows p met }

module _ (program : Program (rows_question_by Matching)) {out : List ℕ} (enough : rows_buffer ≤ length out) where
  -- It refuses everything.
  pub match_rows_refusing_fails : RefusesEverything program → MeetsAt program (asked tt) out → ⊥
  match_rows_refusing_fails = wrong.refusing_fails program (rows_of_match out enough)

  -- It has a constant result.
  pub match_constant_fails : ConstantResult program → MeetsAt program (asked tt) out → MeetsAt program (shared tt) out → ⊥
  match_constant_fails =
      wrong.constant_fails program (rows_of_match out enough) (shared_refused out enough)
      (λ e. refused_not_given (sym e))

  -- It invents row counts.
  pub match_sizes_fail : (balanced constants first second third fourth : ℕ)
      → (program (asked tt) out).outcome ≡ given (sizes_as balanced constants first second third fourth)
      → (sizes_as balanced constants first second third fourth ≡ sizes_as 0 2 3 2 0 0 → ⊥)
      → MeetsAt program (asked tt) out → ⊥
  match_sizes_fail balanced constants first second third fourth returns others =
      wrong.other_outcome_fails program (rows_of_match out enough) (λ e. others (cc (e, returns)))

module _ (program : Program (page_question_by Matching)) where
  abbrev first_page : SidesAsked Request
  first_page = asked (record { begin = start; wanted = 200 })

  pub match_page_refusing_fails : {out : List ℕ} → 200 ≤ length out → RefusesEverything program
      → MeetsAt program first_page out → ⊥
  match_page_refusing_fails {out} enough = wrong.refusing_fails program (page_of_match out enough)

  -- It writes nothing: where zeros are lent, the first key is missing.
  pub match_page_nothing_fails : WritesNothing program → MeetsAt program first_page (replicate 200 0) → ⊥
  match_page_nothing_fails =
      wrong.writing_nothing_fails program (page_of_match (replicate 200 0) (omega arith))
      (λ e. cc e)

module _ (program : Program (values_question_by Matching)) where
  pub match_values_refusing_fails : {out : List ℕ} → values_buffer ≤ length out → RefusesEverything program
      → MeetsAt program (asked 16777216) out → ⊥
  match_values_refusing_fails {out} enough = wrong.refusing_fails program (values_of_match out enough)

  -- It writes nothing: where zeros are lent, v0's one atom is missing.
  pub match_values_nothing_fails : WritesNothing program → MeetsAt program (asked 16777216) (replicate values_buffer 0) → ⊥
  match_values_nothing_fails =
      wrong.writing_nothing_fails program (values_of_match (replicate values_buffer 0) (omega arith))
      (λ e. cc e)
