-- The contracts of Rows, Page and Values determine the answer and the buffer, and that of Count its answer.
use Prim.Native.Nat.{ℕ}
use mathlib.Core.Path.{◌≡◌, refl, sym, ap, ◌∙◌}
use mathlib.Core.List.{List}
use lib.ListN.{length}
use Rattle.std.specs.Prelude.{Result}
use Rattle.ac.specs.Lists.{receives}
use Rattle.ac.specs.Limits.{limits}
use Rattle.ac.specs.Pair.{Mode}
use Rattle.ac.specs.Rows.{Groups, GroupsOf}
use Rattle.ac.specs.Keys.{Beginning, layout, keys}
use Rattle.ac.proofs.Groups.{groups_unique}
use Rattle.numbers.specs.declared.Refusal.{Refusal}
use Rattle.numbers.proofs.Told.{result_determined}
use Rattle.numbers.proofs.Promises.{OneResult}
use Rattle.pair.specs.Given.{LowestFar}
use Rattle.pair.proofs.NetCounts.{lowest_unique}
use Rattle.solver.specs.Rows.{GroupSizes, told_rows, sizes_of, all_rows, bytes_of, RowsGives, RowsPromise}
use Rattle.solver.specs.Rows as its_rows
use Rattle.solver.specs.Page.{PageWritten, told_page, next_keys, page_written, PageGives, next, PagePromise}
use Rattle.solver.specs.Values.{told_values, values_of, ValuesGives, ValuesPromise}
use Rattle.solver.specs.Values as its_values
use Rattle.solver.specs.Count.{told_count, CountGives, as_listed, CountPromise}
use Rattle.solver.specs.declared.rows.Sizes.{Sizes}
use Rattle.solver.specs.declared.page.Written.{Written}

-- the sizes, and what is written of a page, in the program's words
sizes_told : GroupSizes → Sizes
sizes_told sizes =
    record {
      balanced = sizes.balanced;
      constants = sizes.constants;
      first = sizes.first;
      second = sizes.second;
      third = sizes.third;
      fourth = sizes.fourth;
    }

page_told : PageWritten → Written
page_told page = record { written = page.written; more = page.more; weighed = page.weighed }

-- a pair has one lowest atom and one set of groups, so each question has one result
module _ {M : Mode} {L R : List ℕ} where
  -- what groups give is one result
  one_of_groups : {Values Buffers : Type 0} {Gives : Values → Buffers → Type 0} (values : Groups → Values)
      (bytes : Groups → Buffers)
      → ((v : Values) (b : Buffers) → Gives v b → (G : Groups) × GroupsOf M L R G × (v ≡ values G) × (b ≡ bytes G))
      → OneResult (LowestFar limits L R) Gives
  one_of_groups values bytes of_groups =
      record {
        one_atom = lowest_unique;
        one_result = λ v v' b b' gives gives'.
            let found = of_groups v b gives in
            let found' = of_groups v' b' gives' in
            let same = groups_unique M L R found.1 found'.1 in
            (found.2 ∙ ap values same ∙ sym found'.2, found.3 ∙ ap bytes same ∙ sym found'.3);
      }

  pub one_rows : {out : List ℕ} → OneResult (LowestFar limits L R) (RowsGives M L R out)
  one_rows {out} = one_of_groups sizes_of (λ G. receives out (bytes_of (all_rows G))) from
    where
      from : (v : GroupSizes) (b : List ℕ) → RowsGives M L R out v b
          → (G : Groups) × GroupsOf M L R G × (v ≡ sizes_of G) × (b ≡ receives out (bytes_of (all_rows G)))
      from _ _ (its_rows.rows {G = G} of) = (G, of, refl, refl)

  pub one_page : {begin : Beginning} {wanted : ℕ} {out : List ℕ}
      → OneResult (LowestFar limits L R) (PageGives M L R begin wanted out)
  one_page {begin} {wanted} {out} =
      one_of_groups (λ G. page_written M L R G begin wanted) (λ G. receives out (next_keys M L R G begin wanted)) from
    where
      from : (v : PageWritten) (b : List ℕ) → PageGives M L R begin wanted out v b
          → (G : Groups) × GroupsOf M L R G × (v ≡ page_written M L R G begin wanted)
          × (b ≡ receives out (next_keys M L R G begin wanted))
      from _ _ (next {G = G} of) = (G, of, refl, refl)

  pub one_values : {key : ℕ} {out : List ℕ} → OneResult (LowestFar limits L R) (ValuesGives M L R key out)
  one_values {key} {out} =
      one_of_groups (λ G. length (values_of M L R G key)) (λ G. receives out (values_of M L R G key)) from
    where
      from : (v : ℕ) (b : List ℕ) → ValuesGives M L R key out v b
          → (G : Groups) × GroupsOf M L R G × (v ≡ length (values_of M L R G key))
          × (b ≡ receives out (values_of M L R G key))
      from _ _ (its_values.values {G = G} of) = (G, of, refl, refl)

  pub one_count : OneResult (LowestFar limits L R) (CountGives M L R)
  one_count = one_of_groups (λ G. length (keys M layout L R G)) (λ G. tt) from
    where
      from : (v : ℕ) (b : Unit {0}) → CountGives M L R v b
          → (G : Groups) × GroupsOf M L R G × (v ≡ length (keys M layout L R G)) × (b ≡ tt)
      from _ _ (as_listed {G = G} of) = (G, of, refl, refl)

  -- Two results, each with its buffer, that meet the promise are identical.
  pub rows_determined : {out : List ℕ} {a a' : Result Sizes Refusal} {b b' : List ℕ} → RowsPromise M L R out (told_rows a) b
      → RowsPromise M L R out (told_rows a') b'
      → (a ≡ a') × (b ≡ b')
  unfolding sizes_told
  rows_determined = result_determined sizes_told (λ sizes. refl) one_rows

  pub page_determined : {begin : Beginning} {wanted : ℕ} {out : List ℕ} {a a' : Result Written Refusal} {b b' : List ℕ}
      → PagePromise M L R begin wanted out (told_page a) b → PagePromise M L R begin wanted out (told_page a') b'
      → (a ≡ a') × (b ≡ b')
  unfolding page_told
  page_determined = result_determined page_told (λ page. refl) one_page

  pub values_determined : {key : ℕ} {out : List ℕ} {a a' : Result ℕ Refusal} {b b' : List ℕ}
      → ValuesPromise M L R key out (told_values a) b → ValuesPromise M L R key out (told_values a') b'
      → (a ≡ a') × (b ≡ b')
  values_determined = result_determined (λ length. length) (λ length. refl) one_values

  -- and two that meet Count's, which is lent none
  pub count_determined : {a a' : Result ℕ Refusal} → CountPromise M L R (told_count a) → CountPromise M L R (told_count a')
      → a ≡ a'
  count_determined promise promise' = (result_determined (λ unifiers. unifiers) (λ unifiers. refl) one_count promise promise').0
