-- Pairs that are alike get the same answers from Rows, Page and Values (document 02, R-6), and from Count (R-7):
-- `alike_answers`. What meets a promise on the one pair meets it on the other: `rows_carried`, `page_carried`,
-- `values_carried`, `count_carried`.
use Prim.Native.Nat.{ℕ}
use mathlib.Core.Path.{◌≡◌, sym, ap, subst, subst₂}
use mathlib.Core.List.{List}
use lib.ListN.{length}
use Rattle.std.specs.Prelude.{Result}
use Rattle.ac.specs.Lists.{receives}
use Rattle.ac.specs.Limits.{limits}
use Rattle.ac.specs.Pair.{Mode}
use Rattle.ac.specs.Rows.{Groups}
use Rattle.ac.specs.Selection.{taken, value_at, place_of}
use Rattle.ac.specs.Keys.{layout, keys, selection_at, Beginning}
use Rattle.ac.specs.Values.{laid_out, bindings}
use Rattle.ac.specs.Pages.{page, more}
use Rattle.ac.specs.Weighed.{weighed}
use Rattle.numbers.specs.Order.{rows_numbers, page_numbers, values_numbers, count_numbers}
use Rattle.numbers.specs.Outcome.{Outcome}
use Rattle.numbers.specs.declared.Refusal.{Refusal}
use Rattle.numbers.proofs.Alike.{Agree, promise_carried, outcomes_agree}
use Rattle.pair.specs.Given.{LowestFar, PairGiven}
use Rattle.list.specs.Given.{ListGiven}
use Rattle.solver.specs.Rows.{GroupSizes, told_rows, RowsGiven, RowsGives, RowsPromise, rows}
use Rattle.solver.specs.Rows as of_rows
use Rattle.solver.specs.Page.{PageGiven, PageWritten, told_page, PageGives, PagePromise, next, wanted_count}
use Rattle.solver.specs.Page as of_page
use Rattle.solver.specs.Values.{told_values, ValuesGiven, ValuesGives, ValuesPromise, values_of, values}
use Rattle.solver.specs.Values as of_values
use Rattle.solver.specs.Count.{told_count, CountGives, CountPromise, as_listed}
use Rattle.solver.specs.declared.rows.Sizes.{Sizes}
use Rattle.solver.specs.declared.page.Written.{Written}
use Rattle.solver.proofs.Determined.{one_rows, one_page, one_values, one_count, rows_determined, page_determined, values_determined, count_determined}
use Rattle.whole.specs.Alike.{Alike, SameAnswers}
use Rattle.whole.proofs.Alike.{alike_symmetric, lowest_alike}
use Rattle.whole.proofs.AlikeGroups.{groups_carried, keys_alike, candidates_alike, pair_given_alike}

-- ---- the numbers that a question gives of the one pair it gives of the other

module _ {M M' : Mode} {L R L' R' : List ℕ} (alike : Alike limits M L R M' L' R') where
  rows_given : {out : List ℕ} {n : ℕ} → RowsGiven M L R out n → RowsGiven M' L' R' out n
  rows_given (of_rows.of_the_sides given) = of_rows.of_the_sides ((pair_given_alike alike _).0 given)
  rows_given (of_rows.short_buffer short) = of_rows.short_buffer short

  -- the list's numbers, since the lists are the same
  list_given : {begin : Beginning} {n : ℕ} (G : Groups) → ListGiven (keys M layout L R G) begin n
      → ListGiven (keys M' layout L' R' G) begin n
  list_given {begin} {n} G given = subst (λ ks. ListGiven ks begin n) (keys_alike alike layout G) given

  page_given : {begin : Beginning} {wanted : ℕ} {out : List ℕ} {n : ℕ} → PageGiven M L R begin wanted out n
      → PageGiven M' L' R' begin wanted out n
  page_given (of_page.of_the_sides given) = of_page.of_the_sides ((pair_given_alike alike _).0 given)
  page_given (of_page.of_the_list {G = G} of given) =
      of_page.of_the_list (groups_carried alike of) (list_given G given)
  page_given (of_page.short_buffer short) = of_page.short_buffer short

  values_given : {key : ℕ} {out : List ℕ} {n : ℕ} → ValuesGiven M L R key out n → ValuesGiven M' L' R' key out n
  values_given (of_values.of_the_sides given) = of_values.of_the_sides ((pair_given_alike alike _).0 given)
  values_given (of_values.of_the_list {G = G} of given) =
      of_values.of_the_list (groups_carried alike of) (list_given G given)
  values_given (of_values.short_buffer short) = of_values.short_buffer short

  -- ---- and so are its results

  rows_result : {out : List ℕ} (sizes : GroupSizes) (exit : List ℕ) → RowsGives M L R out sizes exit
      → RowsGives M' L' R' out sizes exit
  rows_result _ _ (rows of) = rows (groups_carried alike of)

  page_result : {begin : Beginning} {wanted : ℕ} {out : List ℕ} (keys : PageWritten) (exit : List ℕ)
      → PageGives M L R begin wanted out keys exit → PageGives M' L' R' begin wanted out keys exit
  page_result {begin} {wanted} {out} _ _ (next {G = G} of) =
      subst₂
      (λ ks cs. PageGives M' L' R' begin wanted out
      (record {
        written = length (page begin (wanted_count wanted) ks);
        more = more begin (wanted_count wanted) ks;
        weighed = weighed begin (page begin (wanted_count wanted) ks) cs;
      }) (receives out (page begin (wanted_count wanted) ks)))
      (sym (keys_alike alike layout G)) (sym (candidates_alike alike layout G)) (next (groups_carried alike of))

  -- what is written of a key is the same
  pub bytes_alike : (G : Groups) (key : ℕ) → values_of M L R G key ≡ values_of M' L' R' G key
  bytes_alike G key =
      ap (λ xs. laid_out
      (bindings (λ x. value_at (taken layout.new G (selection_at layout G key)) (place_of x xs)) xs))
      alike.same_variables

  values_result : {key : ℕ} {out : List ℕ} (size : ℕ) (exit : List ℕ) → ValuesGives M L R key out size exit
      → ValuesGives M' L' R' key out size exit
  values_result {key} {out} _ _ (values {G = G} of) =
      subst (λ (bytes : List ℕ). ValuesGives M' L' R' key out (length bytes) (receives out bytes))
      (sym (bytes_alike G key)) (values (groups_carried alike of))

  count_result : (number : ℕ) (exit : Unit {0}) → CountGives M L R number exit → CountGives M' L' R' number exit
  count_result _ _ (as_listed {G = G} of) =
      subst (λ (ks : List ℕ). CountGives M' L' R' (length ks) tt) (sym (keys_alike alike layout G))
      (as_listed (groups_carried alike of))

-- ---- so each question agrees with itself on the two pairs

module _ {M M' : Mode} {L R L' R' : List ℕ} (alike : Alike limits M L R M' L' R') where
  back : Alike limits M' L' R' M L R
  back = alike_symmetric alike

  rows_agree : (out : List ℕ)
      → Agree (RowsGiven M L R out) (RowsGiven M' L' R' out) (LowestFar limits L R) (LowestFar limits L' R')
      rows_numbers (RowsGives M L R out) (RowsGives M' L' R' out)
  rows_agree out =
      record {
        same_numbers = λ n m. (rows_given alike, rows_given back);
        same_atom = λ a. (lowest_alike alike.nets_alike a).0;
        same_result = rows_result alike;
      }

  page_agree : (begin : Beginning) (wanted : ℕ) (out : List ℕ)
      → Agree (PageGiven M L R begin wanted out) (PageGiven M' L' R' begin wanted out) (LowestFar limits L R)
      (LowestFar limits L' R') page_numbers (PageGives M L R begin wanted out) (PageGives M' L' R' begin wanted out)
  page_agree begin wanted out =
      record {
        same_numbers = λ n m. (page_given alike, page_given back);
        same_atom = λ a. (lowest_alike alike.nets_alike a).0;
        same_result = page_result alike;
      }

  values_agree : (key : ℕ) (out : List ℕ)
      → Agree (ValuesGiven M L R key out) (ValuesGiven M' L' R' key out) (LowestFar limits L R)
      (LowestFar limits L' R') values_numbers (ValuesGives M L R key out) (ValuesGives M' L' R' key out)
  values_agree key out =
      record {
        same_numbers = λ n m. (values_given alike, values_given back);
        same_atom = λ a. (lowest_alike alike.nets_alike a).0;
        same_result = values_result alike;
      }

  count_agree : Agree (PairGiven limits M L R) (PairGiven limits M' L' R') (LowestFar limits L R)
      (LowestFar limits L' R') count_numbers (CountGives M L R) (CountGives M' L' R')
  count_agree =
      record {
        same_numbers = λ n m. pair_given_alike alike n;
        same_atom = λ a. (lowest_alike alike.nets_alike a).0;
        same_result = count_result alike;
      }

  -- Two outcomes, each with its buffer, that meet a question's promises on the two pairs are identical.
  pub rows_alike : {out : List ℕ} {o o' : Outcome GroupSizes} {b b' : List ℕ} → RowsPromise M L R out o b
      → RowsPromise M' L' R' out o' b'
      → (o ≡ o') × (b ≡ b')
  rows_alike {out} = outcomes_agree (rows_agree out) one_rows

  pub page_alike : {begin : Beginning} {wanted : ℕ} {out : List ℕ} {o o' : Outcome PageWritten} {b b' : List ℕ}
      → PagePromise M L R begin wanted out o b → PagePromise M' L' R' begin wanted out o' b'
      → (o ≡ o') × (b ≡ b')
  page_alike {begin} {wanted} {out} = outcomes_agree (page_agree begin wanted out) one_page

  pub values_alike : {key : ℕ} {out : List ℕ} {o o' : Outcome ℕ} {b b' : List ℕ} → ValuesPromise M L R key out o b
      → ValuesPromise M' L' R' key out o' b'
      → (o ≡ o') × (b ≡ b')
  values_alike {key} {out} = outcomes_agree (values_agree key out) one_values

  pub count_alike : {o o' : Outcome ℕ} → CountPromise M L R o → CountPromise M' L' R' o' → o ≡ o'
  count_alike promise promise' = (outcomes_agree count_agree one_count promise promise').0

  -- All of them together.
  pub alike_answers : SameAnswers M L R M' L' R'
  alike_answers =
      record { from_rows = rows_alike; from_page = page_alike; from_values = values_alike; from_count = count_alike }

  -- What meets a promise on the one pair meets it on the other, ..
  pub rows_carried : {out : List ℕ} {o : Outcome GroupSizes} {b : List ℕ} → RowsPromise M L R out o b
      → RowsPromise M' L' R' out o b
  rows_carried {out} = promise_carried (rows_agree out)

  pub page_carried : {begin : Beginning} {wanted : ℕ} {out : List ℕ} {o : Outcome PageWritten} {b : List ℕ}
      → PagePromise M L R begin wanted out o b → PagePromise M' L' R' begin wanted out o b
  page_carried {begin} {wanted} {out} = promise_carried (page_agree begin wanted out)

  pub values_carried : {key : ℕ} {out : List ℕ} {o : Outcome ℕ} {b : List ℕ} → ValuesPromise M L R key out o b
      → ValuesPromise M' L' R' key out o b
  values_carried {key} {out} = promise_carried (values_agree key out)

  pub count_carried : {o : Outcome ℕ} → CountPromise M L R o → CountPromise M' L' R' o
  count_carried = promise_carried count_agree

  -- .. so the answers that the functions return are identical, too.
  pub rows_answers : {out : List ℕ} {a a' : Result Sizes Refusal} {b b' : List ℕ} → RowsPromise M L R out (told_rows a) b
      → RowsPromise M' L' R' out (told_rows a') b'
      → (a ≡ a') × (b ≡ b')
  rows_answers promise promise' = rows_determined (rows_carried promise) promise'

  pub page_answers : {begin : Beginning} {wanted : ℕ} {out : List ℕ} {a a' : Result Written Refusal} {b b' : List ℕ}
      → PagePromise M L R begin wanted out (told_page a) b → PagePromise M' L' R' begin wanted out (told_page a') b'
      → (a ≡ a') × (b ≡ b')
  page_answers promise promise' = page_determined (page_carried promise) promise'

  pub values_answers : {key : ℕ} {out : List ℕ} {a a' : Result ℕ Refusal} {b b' : List ℕ}
      → ValuesPromise M L R key out (told_values a) b → ValuesPromise M' L' R' key out (told_values a') b'
      → (a ≡ a') × (b ≡ b')
  values_answers promise promise' = values_determined (values_carried promise) promise'

  pub count_answers : {a a' : Result ℕ Refusal} → CountPromise M L R (told_count a) → CountPromise M' L' R' (told_count a')
      → a ≡ a'
  count_answers promise promise' = count_determined (count_carried promise) promise'
