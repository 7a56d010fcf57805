-- The way a pair is written must not matter (document 02, R-6): what two pairs have in common that are two ways of
-- writing one, and that they get the same answers from Rows, Page and Values, and from Count (R-7).
use Rattle.std.specs.Prelude.{ℕ, ◌≤◌, ◌<◌, ◌≡◌, ◌↔◌, neg_ℤ, length, take}
use mathlib.Core.List.{List, ◌∷◌, Memᴰ}
use Rattle.ac.specs.Limits.{Limits, limits}
use Rattle.ac.specs.Pair.{Mode, net, variables, unbalanced}
use Rattle.ac.specs.Keys.{Beginning}
use Rattle.ac.specs.Replacement.{SameSum}
use Rattle.numbers.specs.Order.{uncounted_numbers}
use Rattle.numbers.specs.Outcome.{Outcome, given}
use Rattle.block.specs.Read.{SideLengths, ReadPromise}
use Rattle.pair.specs.Given.{PairGiven}
use Rattle.solver.specs.Rows.{GroupSizes, RowsPromise}
use Rattle.solver.specs.Page.{PageWritten, PagePromise}
use Rattle.solver.specs.Values.{ValuesPromise}
use Rattle.solver.specs.Count.{CountPromise}

-- Every net count of the one pair is that of the other, or every one is its opposite.
pub data NetsAlike (L R L' R' : List ℕ) : Type 0 where
  equal : ((atom : ℕ) → net L R atom ≡ net L' R' atom) → NetsAlike L R L' R'
  opposite : ((atom : ℕ) → net L R atom ≡ neg_ℤ (net L' R' atom)) → NetsAlike L R L' R'

-- Two pairs, each in its mode, are alike.
pub record Alike (limits : Limits) (M : Mode) (L R : List ℕ) (M' : Mode) (L' R' : List ℕ) : Type 0 where
  -- a variable may be replaced by nothing in both modes or in neither
  pub same_emptying : M.empties ≡ M'.empties
  -- they have the same variables and the same unbalanced constants
  pub same_variables : variables M L R ≡ variables M' L' R'
  pub same_constants : unbalanced M L R ≡ unbalanced M' L' R'
  -- and, up to a common sign, the same net counts
  pub nets_alike : NetsAlike L R L' R'
  -- the numbers that are settled before atoms are counted, 7 and 8, are given of both or of neither
  pub same_uncounted : (n : ℕ) → Memᴰ n uncounted_numbers
      → PairGiven limits M L R n ↔ PairGiven limits M' L' R' n
  -- and so is 19, a variable on both sides where none may stand there
  pub same_shared : PairGiven limits M L R 19 ↔ PairGiven limits M' L' R' 19

-- Two pairs get the same answers: asked with the same request or key, and with the same buffer lent, two outcomes,
-- results or refusals, each with its buffer at exit, that meet the promises of a question on the two pairs are
-- identical.
pub record SameAnswers (M : Mode) (L R : List ℕ) (M' : Mode) (L' R' : List ℕ) : Type 0 where
  pub from_rows : {out : List ℕ} {o o' : Outcome GroupSizes} {b b' : List ℕ}
      → RowsPromise M L R out o b → RowsPromise M' L' R' out o' b' → (o ≡ o') × (b ≡ b')
  pub from_page : {begin : Beginning} {wanted : ℕ} {out : List ℕ} {o o' : Outcome PageWritten} {b b' : List ℕ}
      → PagePromise M L R begin wanted out o b → PagePromise M' L' R' begin wanted out o' b' → (o ≡ o') × (b ≡ b')
  pub from_values : {key : ℕ} {out : List ℕ} {o o' : Outcome ℕ} {b b' : List ℕ}
      → ValuesPromise M L R key out o b → ValuesPromise M' L' R' key out o' b' → (o ≡ o') × (b ≡ b')
  pub from_count : {o o' : Outcome ℕ} → CountPromise M L R o → CountPromise M' L' R' o' → o ≡ o'

-- One constant is added to both sides, at whatever places.
pub record ConstantAdded (L R L' R' : List ℕ) : Type 0 where
  -- a constant, 64 to 127
  pub constant : ℕ
  pub from_64 : 64 ≤ constant
  pub to_127 : constant < 128
  -- each side has one more of it, and of every other atom as many as before
  pub on_left : SameSum L' (constant ∷ L)
  pub on_right : SameSum R' (constant ∷ R)
  -- neither side was empty, and both stay within 64 atoms
  pub left_some : 0 < length L
  pub right_some : 0 < length R
  pub left_within : length L' ≤ limits.most_atoms
  pub right_within : length R' ≤ limits.most_atoms

-- Read gives these sides of the block, whatever number it is asked for and whatever it is lent.
pub data Reads (block : List ℕ) : List ℕ → List ℕ → Type 0 where
  reads : {number : ℕ} {left right left' right' : List ℕ} {lengths : SideLengths}
      → ReadPromise block number left right (given lengths) left' right'
      → Reads block (take lengths.left left') (take lengths.right right')
