-- The longest value (document 02, R-9). Within the limits no value has more than 160 atoms, in any mode: an entry of a row
-- is at most 8, and at most 4 + 16 rows are taken. So no answer of Values holds a longer one (`answer_short`), and none has
-- more than 972 bytes (`answer_fits`). The atoms of a value are unbalanced constants and n0 to n15.
use Prim.Native.Nat.{ℕ, ◌+◌, ◌*◌, ◌≤◌}
use native.Mathlib.Omega.{arith}
use mathlib.Core.Path.{◌≡◌, refl, ap, subst, ◌∙◌}
use mathlib.Core.Logic.{◌⊎◌, inl, inr, ⊎_elim}
use mathlib.Core.List.{List, [], ◌∷◌, Memᴰ}
use lib.ListN.{length, take, drop, length-append}
use lib.Seq.{take-append_seam}
use Rattle.ac.specs.Limits.{limits}
use Rattle.ac.specs.Pair.{Mode, variables, unbalanced}
use Rattle.ac.specs.Rows.{Groups, GroupsOf}
use Rattle.ac.specs.Selection.{Selection, SelectionOf, value}
use Rattle.ac.specs.Keys.{layout, selection_at}
use Rattle.ac.specs.Values.{Binding, laid_out, bindings}
use Rattle.ac.proofs.Atoms.{value_atoms}
use Rattle.ac.proofs.Longest as longest
use Rattle.numbers.specs.First.{NoneOf}
use Rattle.numbers.specs.Order.{parting_numbers, row_limit_numbers, sides_numbers, rows_numbers, key_numbers, values_numbers}
use Rattle.numbers.specs.Outcome.{given, is_given}
use Rattle.numbers.proofs.Carried.{none_front}
use Rattle.pair.specs.Given.{PairGiven}
use Rattle.pair.proofs.Laws.{within_limits as within_the_limits, counts_near}
use Rattle.solver.specs.Values.{longest_value, values_buffer, ValuesGiven, of_the_sides, values_of, values, ValuesPromise}
use Rattle.solver.specs.Existence.{replacement_of}
use Rattle.solver.proofs.Limits.{within_limits, sides_give_none}
use Rattle.whole.specs.Whole.{taken_apart}
use Rattle.whole.proofs.ReadBack.{taken_apart-laid_out}

-- the most atoms of a value, and the bytes that Values asks for, as document 02 has them
pub longest_is_160 : (longest_value ≡ 160) × (values_buffer ≡ 972)
longest_is_160 = (refl, refl)

module _ {M : Mode} {L R : List ℕ} (none : NoneOf (PairGiven limits M L R) sides_numbers)
    {G : Groups} (of : GroupsOf M L R G) where
  -- No value has more than 160 atoms.
  pub value_short : (s : Selection) (x : ℕ) → length (value M layout.new L R G s x) ≤ longest_value
  value_short s x =
      let near = counts_near (within_the_limits (none_front parting_numbers row_limit_numbers none)) in
      let fits = (within_limits none).groups_fit G of in
      omega (arith, longest.value_short M L R (omega arith) near of layout.new s x, fits.few_constants, fits.few_balanced)

  -- In answers 192 to 207 are new variables n0 to n15; the other atoms of a value are unbalanced constants.
  pub answer_atoms : {s : Selection} → SelectionOf G s → (x : ℕ) {a : ℕ}
      → Memᴰ a (value M layout.new L R G s x)
      → Memᴰ a (unbalanced M L R) ⊎ ((192 ≤ a) × (a ≤ 207))
  answer_atoms selection x m =
      let few = ((within_limits none).groups_fit G of).few_balanced in
      ⊎_elim inl (λ fresh. inr (omega (arith, fresh), omega (arith, fresh, few)))
      (value_atoms M layout.new L R of selection x m)

-- where no value of a replacement is longer than a number
module _ {most : ℕ} (θ : ℕ → List ℕ) (short : (x : ℕ) → length (θ x) ≤ most) where
  -- none that stands with a variable is
  bindings_short : (xs : List ℕ) {b : Binding} → Memᴰ b (bindings θ xs) → length b.value ≤ most
  bindings_short [] {b = b} x' = elim x' [ ]
  bindings_short (x ∷ xs) (Memᴰ.head e) = rw e (short x)
  bindings_short (x ∷ xs) (Memᴰ.tail m) = bindings_short xs m

  -- and each variable with its value has at most two bytes more
  laid_out_short : (xs : List ℕ) → length (laid_out (bindings θ xs)) ≤ (2 + most) * length xs
  laid_out_short [] = omega arith
  laid_out_short (x ∷ xs) =
      omega (arith, length-append (θ x) (laid_out (bindings θ xs)), short x, laid_out_short xs)

-- What is written of an answer, in any mode.
module _ {M : Mode} {L R : List ℕ} {key : ℕ} {out : List ℕ} where
  -- the sides of an answer give no number
  sides_fine : NoneOf (ValuesGiven M L R key out) values_numbers → NoneOf (PairGiven limits M L R) sides_numbers
  sides_fine none = sides_give_none (λ n number. of_the_sides number) (none_front rows_numbers key_numbers none)

  -- No answer of Values holds a value of more than 160 atoms: so it is of what is taken apart from its bytes.
  pub answer_short : {n : ℕ} {out' : List ℕ} → ValuesPromise M L R key out (given n) out' → {b : Binding}
      → Memᴰ b (taken_apart 0 (take n out')) → length b.value ≤ longest_value
  answer_short (is_given none (values {G = G} of)) {b} m =
      let written = values_of M L R G key in
      bindings_short (replacement_of M L R G key) (value_short (sides_fine none) of (selection_at layout G key))
      (variables M L R)
      (subst (Memᴰ b)
      (ap (taken_apart 0) (take-append_seam written (drop (length written) out))
      ∙ taken_apart-laid_out (bindings (replacement_of M L R G key) (variables M L R))) m)

  -- No answer has more than 972 bytes.
  pub answer_fits : {n : ℕ} {out' : List ℕ} → ValuesPromise M L R key out (given n) out' → n ≤ values_buffer
  answer_fits (is_given none (values {G = G} of)) =
      let fine = sides_fine none in
      omega (
        arith,
        laid_out_short (replacement_of M L R G key) (value_short fine of (selection_at layout G key)) (variables M L R),
        (within_the_limits (none_front parting_numbers row_limit_numbers fine)).few_variables,
      )
