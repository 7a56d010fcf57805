-- Sums with an identity (document 02, R-10): what the three questions answer of pairs worked by hand, by what they promise
-- alone, and wrong programs for them.
use Prim.Native.Nat.{ℕ, ◌≤◌}
use native.Mathlib.Omega.{arith}
use mathlib.Core.Path.{◌≡◌, refl, sym, ap, ◌∙◌}
use mathlib.Core.Bool.{true, false}
use mathlib.Core.List.Memᴰ
use mathlib.Core.List.{List, [], ◌∷◌, Memᴰ}
use lib.ListN.{length, get_or}
use Rattle.ac.specs.Lists.{receives}
use Rattle.ac.specs.Limits.{limits}
use Rattle.ac.specs.Pair.{identity}
use Rattle.ac.specs.Rows.{Groups, GroupsOf}
use Rattle.ac.specs.Keys.{layout, keys, start}
use Rattle.ac.specs.Search.{groups}
use Rattle.ac.proofs.Groups.{groups_exist}
use Rattle.numbers.specs.First.{NoneOf, here, later}
use Rattle.numbers.specs.Numbers.{said_of}
use Rattle.numbers.specs.Order.{sides_numbers, beginning_numbers}
use Rattle.numbers.specs.Outcome.{refused, given, is_refused, is_given}
use Rattle.numbers.specs.declared.Refusal.TheVariants.{SideLength, NoUnifier, NotListed}
use Rattle.numbers.proofs.Carried.{none_of}
use Rattle.numbers.proofs.Parts.{none_of_sides}
use Rattle.numbers.proofs.Promises.{refused_not_given, outcome_determined}
use Rattle.numbers.proofs.Said.{refuses_other}
use Rattle.pair.specs.Given.{PairGiven}
use Rattle.pair.specs.declared.ways.Way.TheVariants.{Identity}
use Rattle.list.specs.Given.{not_listed}
use Rattle.list.proofs.Given.{start_not_after, list_gives_none, not_13}
use Rattle.solver.specs.Rows.{sizes_as, sizes_of, all_rows, bytes_of, rows_buffer, rows}
use Rattle.solver.specs.Page.{next_keys, page_written, next}
use Rattle.solver.specs.Values.{values_buffer, values_of, values}
use Rattle.solver.proofs.Determined.{one_rows, one_page, one_values}
use Rattle.solver.proofs.Given.{rows_made, page_none, values_first, values_none}
use Rattle.worked.specs.Questions.{SidesAsked, Request, rows_question_by, page_question_by, values_question_by}
use Rattle.worked.specs.Answers.{Answers}
use Rattle.worked.specs.Programs.{Program, MeetsAt, RefusesEverything}
use Rattle.worked.proofs.Within.{within, never_given}
use Rattle.worked.proofs.Wrong as wrong

-- two sides, and what else a question is asked of them
abbrev of_sides : {Also : Type 0} → List ℕ → List ℕ → Also → SidesAsked Also
of_sides L R also = record { left = L; right = R; also = also }

abbrev first_page : List ℕ → List ℕ → SidesAsked Request
first_page L R = of_sides L R (record { begin = start; wanted = 200 })

-- What the questions answer of sides that keep the limits, whose groups of rows are computed.
module _ (L R : List ℕ) (passes : within identity L R ≡ true) where
  abbrev G : Groups
  G = groups identity L R

  of : GroupsOf identity L R G
  of = groups_exist identity L R

  nothing : NoneOf (PairGiven limits identity L R) sides_numbers
  nothing = none_of (λ n. never_given identity L R passes) sides_numbers

  rows_found : (out : List ℕ) → rows_buffer ≤ length out
      → Answers (rows_question_by Identity) (of_sides L R tt) out (given (sizes_of G)) (receives out (bytes_of (all_rows G)))
  rows_found out enough =
      let met = is_given (none_of_sides rows_made enough nothing) (rows of) in
      record { meets = met; alone = λ other exit p. outcome_determined one_rows p met }

  -- a page, where some key is listed
  page_found : (key : ℕ) → Memᴰ key (keys identity layout L R G) → (out : List ℕ) → 200 ≤ length out
      → Answers (page_question_by Identity) (first_page L R) out (given (page_written identity L R G start 200))
      (receives out (next_keys identity L R G start 200))
  page_found key listed out enough =
      let none_left = none_of (λ n. list_gives_none (λ k same. absurd (start_not_after same)) listed) beginning_numbers in
      let met = is_given (page_none of nothing enough none_left) (next of) in
      record { meets = met; alone = λ other exit p. outcome_determined one_page p met }

  -- the values of a listed key
  values_found : (key : ℕ) → Memᴰ key (keys identity layout L R G) → (out : List ℕ) → values_buffer ≤ length out
      → Answers (values_question_by Identity) (of_sides L R key) out (given (length (values_of identity L R G key)))
      (receives out (values_of identity L R G key))
  values_found key listed out enough =
      let met = is_given (values_none of nothing enough listed) (values of) in
      record { meets = met; alone = λ other exit p. outcome_determined one_values p met }

  -- of a key that is not listed though another is: 14
  values_unlisted : (key other : ℕ) → Memᴰ other (keys identity layout L R G)
      → (Memᴰ key (keys identity layout L R G) → ⊥) → (out : List ℕ) → values_buffer ≤ length out
      → Answers (values_question_by Identity) (of_sides L R key) out (refused (said_of NotListed)) out
  values_unlisted key other listed absent out enough =
      let met = is_refused (refuses_other NotListed refl
      (values_first of nothing enough (later (not_13 listed) (here (not_listed refl absent))))) in
      record { meets = met; alone = λ o exit p. outcome_determined one_values p met }

-- v0+v1 and v2+v3: four balanced rows,
pub rows_of_four : (out : List ℕ) → rows_buffer ≤ length out
    → Answers (rows_question_by Identity) (of_sides (0 ∷ 1 ∷ []) (2 ∷ 3 ∷ []) tt) out (given (sizes_as 4 0 0 0 0 0))
    (receives out (0 ∷ 1 ∷ 0 ∷ 1 ∷ 0 ∷ 1 ∷ 1 ∷ 0 ∷ 1 ∷ 0 ∷ 0 ∷ 1 ∷ 1 ∷ 0 ∷ 1 ∷ 0 ∷ []))
rows_of_four = rows_found (0 ∷ 1 ∷ []) (2 ∷ 3 ∷ []) refl

-- and all of them are taken: one key, the only candidate.
pub page_of_four : (out : List ℕ) → 200 ≤ length out
    → Answers (page_question_by Identity) (first_page (0 ∷ 1 ∷ []) (2 ∷ 3 ∷ [])) out
    (given (record { written = 1; more = false; weighed = 1 })) (receives out (15 ∷ []))
page_of_four = page_found (0 ∷ 1 ∷ []) (2 ∷ 3 ∷ []) refl 15 (Memᴰ.head refl)

-- Key 7, which lacks a row, is not on the list: 14.
pub seven_not_listed : (out : List ℕ) → values_buffer ≤ length out
    → Answers (values_question_by Identity) (of_sides (0 ∷ 1 ∷ []) (2 ∷ 3 ∷ []) 7) out (refused (said_of NotListed)) out
seven_not_listed = values_unlisted (0 ∷ 1 ∷ []) (2 ∷ 3 ∷ []) refl 7 15 (Memᴰ.head refl) absent
  where
    absent : Memᴰ {A = ℕ} 7 (15 ∷ []) → ⊥
    absent (Memᴰ.head e) = let z : ◌≡◌ {A = ℕ} 7 15 = e in omega arith
    absent (Memᴰ.tail m) = Memᴰ.not-nil m

-- c0+c1+c2 and v0+v1+v2: 27 keys, each of them a candidate.
pub page_of_three : (out : List ℕ) → 200 ≤ length out
    → Answers (page_question_by Identity) (first_page (64 ∷ 65 ∷ 66 ∷ []) (0 ∷ 1 ∷ 2 ∷ [])) out
    (given (record { written = 27; more = false; weighed = 27 }))
    (receives out (next_keys identity (64 ∷ 65 ∷ 66 ∷ []) (0 ∷ 1 ∷ 2 ∷ [])
    (groups identity (64 ∷ 65 ∷ 66 ∷ []) (0 ∷ 1 ∷ 2 ∷ [])) start 200))
page_of_three = page_found (64 ∷ 65 ∷ 66 ∷ []) (0 ∷ 1 ∷ 2 ∷ []) refl 0 (Memᴰ.head refl)

-- 2·v0+c0 and v1+v2+c1: four keys.
pub page_of_two_constants : (out : List ℕ) → 200 ≤ length out
    → Answers (page_question_by Identity) (first_page (0 ∷ 0 ∷ 64 ∷ []) (1 ∷ 2 ∷ 65 ∷ [])) out
    (given (record { written = 4; more = false; weighed = 4 }))
    (receives out (7 ∷ 16777223 ∷ 268435463 ∷ 285212679 ∷ []))
page_of_two_constants = page_found (0 ∷ 0 ∷ 64 ∷ []) (1 ∷ 2 ∷ 65 ∷ []) refl 7 (Memᴰ.head refl)

-- v0 and v0+v1: no row reaches v1, and there is a key,
pub page_of_unreached : (out : List ℕ) → 200 ≤ length out
    → Answers (page_question_by Identity) (first_page (0 ∷ []) (0 ∷ 1 ∷ [])) out
    (given (record { written = 1; more = false; weighed = 1 })) (receives out (1 ∷ []))
page_of_unreached = page_found (0 ∷ []) (0 ∷ 1 ∷ []) refl 1 (Memᴰ.head refl)

-- which gives v1 no atom: count 0.
pub values_of_unreached : (out : List ℕ) → values_buffer ≤ length out
    → Answers (values_question_by Identity) (of_sides (0 ∷ []) (0 ∷ 1 ∷ []) 1) out (given 5)
    (receives out (0 ∷ 1 ∷ 192 ∷ 1 ∷ 0 ∷ []))
values_of_unreached = values_found (0 ∷ []) (0 ∷ 1 ∷ []) refl 1 (Memᴰ.head refl)

-- v0 and nothing: a side may have no atoms, and v0 is empty.
pub page_of_nothing : (out : List ℕ) → 200 ≤ length out
    → Answers (page_question_by Identity) (first_page (0 ∷ []) []) out
    (given (record { written = 1; more = false; weighed = 1 })) (receives out (0 ∷ []))
page_of_nothing = page_found (0 ∷ []) [] refl 0 (Memᴰ.head refl)

pub values_of_nothing : (out : List ℕ) → values_buffer ≤ length out
    → Answers (values_question_by Identity) (of_sides (0 ∷ []) [] 0) out (given 2) (receives out (0 ∷ 0 ∷ []))
values_of_nothing = values_found (0 ∷ []) [] refl 0 (Memᴰ.head refl)

module _ (program : Program (page_question_by Identity)) {out : List ℕ} (enough : 200 ≤ length out) where
  pub identity_refusing_fails : RefusesEverything program → MeetsAt program (first_page (0 ∷ 1 ∷ []) (2 ∷ 3 ∷ [])) out → ⊥
  identity_refusing_fails = wrong.refusing_fails program (page_of_four out enough)

  -- It lists a key in which one bit of the mask is missing, or any other but 15.
  pub bit_missing_fails : (key : ℕ) → (key ≡ 15 → ⊥)
      → get_or (program (first_page (0 ∷ 1 ∷ []) (2 ∷ 3 ∷ [])) out).exit 0 0 ≡ key
      → MeetsAt program (first_page (0 ∷ 1 ∷ []) (2 ∷ 3 ∷ [])) out → ⊥
  bit_missing_fails key other first =
      wrong.other_exit_fails program (page_of_four out enough)
      (λ same. other (sym first ∙ ap (λ (b : List ℕ). get_or b 0 0) same))

  -- It keeps the test whether every variable is reached, and gives 13 where one is not.
  pub reach_test_fails : (program (first_page (0 ∷ []) (0 ∷ 1 ∷ [])) out).outcome ≡ refused (said_of NoUnifier)
      → MeetsAt program (first_page (0 ∷ []) (0 ∷ 1 ∷ [])) out → ⊥
  reach_test_fails refuses =
      wrong.other_outcome_fails program (page_of_unreached out enough) (λ same. refused_not_given (sym refuses ∙ same))

  -- It refuses a side that has no atoms.
  pub empty_side_fails : (program (first_page (0 ∷ []) []) out).outcome ≡ refused (said_of SideLength)
      → MeetsAt program (first_page (0 ∷ []) []) out → ⊥
  empty_side_fails refuses =
      wrong.other_outcome_fails program (page_of_nothing out enough) (λ same. refused_not_given (sym refuses ∙ same))

module _ (program : Program (values_question_by Identity)) {out : List ℕ} (enough : values_buffer ≤ length out) where
  pub identity_values_refusing_fails : RefusesEverything program → MeetsAt program (of_sides (0 ∷ []) (0 ∷ 1 ∷ []) 1) out → ⊥
  identity_values_refusing_fails = wrong.refusing_fails program (values_of_unreached out enough)

  -- It leaves out a variable whose value has no atoms.
  pub left_out_fails : (program (of_sides (0 ∷ []) (0 ∷ 1 ∷ []) 1) out).outcome ≡ given 3
      → MeetsAt program (of_sides (0 ∷ []) (0 ∷ 1 ∷ []) 1) out → ⊥
  left_out_fails returns =
      wrong.other_outcome_fails program (values_of_unreached out enough)
      (λ same. let z : ◌≡◌ {A = ℕ} 3 5 = cc (returns, same) in omega arith)
