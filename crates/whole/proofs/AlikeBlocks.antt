-- The way the terms of a block are written (document 02, R-6): "for blocks, the first part holds of each term". The
-- swap is not claimed for blocks, since Read renumbers the right term; that it would be wrong is
-- `swapped_blocks_differ`, worked/proofs/SwappedBlocks.antt.
--
-- `block_answers`. Two blocks whose left terms have the same atoms equally often, and whose right terms do, and which
-- Read accepts, get the same answers from Rows, Page and Values in every way of listing, asked of the sides that Read
-- gave.
-- `block_answers_modulo`. The same in the words of source document 000 (Fages, RR-0287): the left terms are equal
-- modulo associativity and commutativity, and so are the right terms.
use Prim.Native.Nat.{ℕ}
use mathlib.Core.Path.{◌≡◌, sym, ap, ◌∙◌}
use mathlib.Core.List.{List}
use Rattle.ac.specs.Term.{Term, flatten}
use Rattle.ac.specs.Pair.{count}
use Rattle.ac.specs.Replacement.{SameSum}
use Rattle.ac.specs.Fages.{◌=AC◌, commutative, associative, congruent, reflexive, symmetric, transitive}
use Rattle.ac.proofs.Fages.{same_sum}
use Rattle.numbers.proofs.Promises.{given_gives}
use Rattle.block.specs.Front.{Writes, on_the_right}
use Rattle.block.specs.Block.{left_term, right_term}
use Rattle.pair.specs.Ways.{mode_of}
use Rattle.pair.specs.declared.ways.Way.{Way}
use Rattle.whole.specs.Alike.{SameAnswers, Reads, reads}
use Rattle.whole.specs.Unifiers.{renamed}
use Rattle.whole.proofs.Unifiers.{read_sides}
use Rattle.whole.proofs.Rewritten.{multisets_answers}

-- equal terms are equal under other names
renamed_equal : (name : ℕ → ℕ) {s t : Term} → s =AC t → renamed name s =AC renamed name t
renamed_equal name (commutative s t) = commutative (renamed name s) (renamed name t)
renamed_equal name (associative s t u) = associative (renamed name s) (renamed name t) (renamed name u)
renamed_equal name (congruent first second) = congruent (renamed_equal name first) (renamed_equal name second)
renamed_equal name (reflexive s) = reflexive (renamed name s)
renamed_equal name (symmetric equal) = symmetric (renamed_equal name equal)
renamed_equal name (transitive first second) = transitive (renamed_equal name first) (renamed_equal name second)

-- the sides that Read gives of a block are its terms flattened, the right one renamed
pub sides_are : {block L R : List ℕ} {s t : Term} → Reads block L R → Writes (left_term block) s
    → Writes (right_term block) t → (L ≡ flatten s) × (R ≡ flatten (renamed on_the_right t))
sides_are (reads read) of_left of_right = read_sides (given_gives read) of_left of_right

module _ {block block' L R L' R' : List ℕ} (read : Reads block L R) (read' : Reads block' L' R') {s t s' t' : Term}
    (of_left : Writes (left_term block) s) (of_right : Writes (right_term block) t)
    (of_left' : Writes (left_term block') s') (of_right' : Writes (right_term block') t') where
  -- Blocks whose left terms are equal modulo associativity and commutativity, and whose right terms are, get the same
  -- answers.
  pub block_answers_modulo : (way : Way) → s =AC s' → t =AC t'
      → SameAnswers (mode_of way L R) L R (mode_of way L' R') L' R'
  block_answers_modulo way lefts rights =
      let sides = sides_are read of_left of_right in
      let sides' = sides_are read' of_left' of_right' in
      let equal = (same_sum s s').0 lefts in
      let equal' = (same_sum (renamed on_the_right t) (renamed on_the_right t')).0 (renamed_equal on_the_right rights) in
      multisets_answers way (λ a. ap (count a) sides.0 ∙ equal a ∙ sym (ap (count a) sides'.0))
      (λ a. ap (count a) sides.1 ∙ equal' a ∙ sym (ap (count a) sides'.1))

  -- So do blocks whose left terms have the same atoms equally often, and whose right terms do.
  pub block_answers : (way : Way) → SameSum (flatten s) (flatten s') → SameSum (flatten t) (flatten t')
      → SameAnswers (mode_of way L R) L R (mode_of way L' R') L' R'
  block_answers way lefts rights = block_answers_modulo way ((same_sum s s').1 lefts) ((same_sum t t').1 rights)
