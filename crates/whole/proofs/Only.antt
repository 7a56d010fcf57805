-- "None is given otherwise" (document 01, "Numbers given in place of a result"): a number that meets a
-- question's promise is one of the question's. That 19 is none of those of unifying is in Shared.antt.
use Prim.Native.Nat.{ℕ}
use mathlib.Core.Path.{◌≡◌, refl, subst}
use mathlib.Core.Bool.{true}
use mathlib.Core.List.{List, [], ◌∷◌, Memᴰ}
use Rattle.ac.specs.Pair.{Mode, unifying, matching}
use Rattle.ac.specs.Keys.{Beginning}
use Rattle.numbers.specs.Outcome.{Said, refused, Promise}
use Rattle.numbers.proofs.Carried.{elsewhere, not_elsewhere}
use Rattle.numbers.proofs.Promises.{refused_listed}
use Rattle.block.specs.Read.{ReadPromise}
use Rattle.solver.specs.Rows.{RowsPromise}
use Rattle.solver.specs.Page.{PagePromise}
use Rattle.solver.specs.Values.{ValuesPromise}
use Rattle.solver.specs.Count.{CountPromise}
use Rattle.whole.proofs.Shared.{rows_without_19, page_without_19, values_without_19, count_without_19}

-- a number that is none of a question's is never given
refused_otherwise : {Given Names : ℕ → Type 0} {numbers : List ℕ} {Values Buffers : Type 0}
    {Gives : Values → Buffers → Type 0} {entry exit : Buffers} {said : Said} {n : ℕ} → elsewhere n numbers ≡ true
    → Promise Given Names numbers Gives entry (refused said) exit → said.number ≡ n → ⊥
refused_otherwise {numbers = numbers} {said = said} its promise same =
    not_elsewhere numbers its (subst (λ n. Memᴰ n numbers) same (refused_listed promise))

module _ {said : Said} where
  -- Read gives 1 to 6 and 16.
  pub read_gives : {block : List ℕ} {number : ℕ} {left right left' right' : List ℕ}
      → ReadPromise block number left right (refused said) left' right'
      → Memᴰ said.number (16 ∷ 1 ∷ 2 ∷ 3 ∷ 4 ∷ 5 ∷ 6 ∷ [])
  read_gives = refused_listed

  -- Rows gives 7 to 12 and 16.
  pub rows_gives : {L R out out' : List ℕ} → RowsPromise unifying L R out (refused said) out'
      → Memᴰ said.number (16 ∷ 7 ∷ 8 ∷ 9 ∷ 10 ∷ 11 ∷ 12 ∷ [])
  rows_gives promise = refused_listed ((rows_without_19 refl).0 promise)

  -- Page gives 7 to 16.
  pub page_gives : {L R : List ℕ} {begin : Beginning} {wanted : ℕ} {out out' : List ℕ}
      → PagePromise unifying L R begin wanted out (refused said) out'
      → Memᴰ said.number (16 ∷ 7 ∷ 8 ∷ 9 ∷ 10 ∷ 11 ∷ 12 ∷ 13 ∷ 14 ∷ 15 ∷ [])
  page_gives promise = refused_listed ((page_without_19 refl).0 promise)

  -- Values gives 7 to 14 and 16, since 17 is out of the table (document 02, R-9).
  pub values_gives : {L R : List ℕ} {key : ℕ} {out out' : List ℕ}
      → ValuesPromise unifying L R key out (refused said) out'
      → Memᴰ said.number (16 ∷ 7 ∷ 8 ∷ 9 ∷ 10 ∷ 11 ∷ 12 ∷ 13 ∷ 14 ∷ [])
  values_gives promise = refused_listed ((values_without_19 refl).0 promise)

  -- Count gives 7 to 12 (document 02, R-7).
  pub count_gives : {L R : List ℕ} → CountPromise unifying L R (refused said)
      → Memᴰ said.number (7 ∷ 8 ∷ 9 ∷ 10 ∷ 11 ∷ 12 ∷ [])
  count_gives promise = refused_listed ((count_without_19 refl).0 promise)

  -- None gives 17 (document 02, R-9), in any mode.
  pub read_not_17 : {block : List ℕ} {number : ℕ} {left right left' right' : List ℕ}
      → ReadPromise block number left right (refused said) left' right' → said.number ≡ 17 → ⊥
  read_not_17 = refused_otherwise refl

  pub rows_not_17 : {M : Mode} {L R out out' : List ℕ} → RowsPromise M L R out (refused said) out' → said.number ≡ 17 → ⊥
  rows_not_17 = refused_otherwise refl

  pub page_not_17 : {M : Mode} {L R : List ℕ} {begin : Beginning} {wanted : ℕ} {out out' : List ℕ}
      → PagePromise M L R begin wanted out (refused said) out' → said.number ≡ 17 → ⊥
  page_not_17 = refused_otherwise refl

  pub values_not_17 : {M : Mode} {L R : List ℕ} {key : ℕ} {out out' : List ℕ}
      → ValuesPromise M L R key out (refused said) out' → said.number ≡ 17 → ⊥
  values_not_17 = refused_otherwise refl

  pub count_not_17 : {M : Mode} {L R : List ℕ} → CountPromise M L R (refused said) → said.number ≡ 17 → ⊥
  count_not_17 = refused_otherwise refl

  -- Matching, each gives 19 as well, after 8 (document 02, R-4).
  pub matching_rows_gives : {L R out out' : List ℕ} → RowsPromise (matching L) L R out (refused said) out'
      → Memᴰ said.number (16 ∷ 7 ∷ 8 ∷ 19 ∷ 9 ∷ 10 ∷ 11 ∷ 12 ∷ [])
  matching_rows_gives = refused_listed

  pub matching_page_gives : {L R : List ℕ} {begin : Beginning} {wanted : ℕ} {out out' : List ℕ}
      → PagePromise (matching L) L R begin wanted out (refused said) out'
      → Memᴰ said.number (16 ∷ 7 ∷ 8 ∷ 19 ∷ 9 ∷ 10 ∷ 11 ∷ 12 ∷ 13 ∷ 14 ∷ 15 ∷ [])
  matching_page_gives = refused_listed

  pub matching_values_gives : {L R : List ℕ} {key : ℕ} {out out' : List ℕ}
      → ValuesPromise (matching L) L R key out (refused said) out'
      → Memᴰ said.number (16 ∷ 7 ∷ 8 ∷ 19 ∷ 9 ∷ 10 ∷ 11 ∷ 12 ∷ 13 ∷ 14 ∷ [])
  matching_values_gives = refused_listed
