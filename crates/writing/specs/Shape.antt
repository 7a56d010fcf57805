-- Blocks that are already in the shape in which a block is written (document 02, R-3).
use Rattle.std.specs.Prelude.{ℕ, List}
use Rattle.ac.specs.Term.{Term, atom, plus}
use Rattle.block.specs.Front.{Writes}
use Rattle.block.specs.Block.{left_term, right_term}

-- 128, first atom, rest, down to the last atom
pub data InShape : Term → Type 0 where
  last : {a : ℕ} → InShape (atom a)
  first : {a : ℕ} {rest : Term} → InShape rest → InShape (plus (atom a) rest)

-- bytes are a term in this shape
pub record IsInShape (bytes : List ℕ) : Type 0 where
  pub term : Term
  pub writes : Writes bytes term
  pub in_shape : InShape term

-- so are both terms of the block
pub record BlockInShape (block : List ℕ) : Type 0 where
  pub left : IsInShape (left_term block)
  pub right : IsInShape (right_term block)
