-- A side of a line: a sum of words and of sums in brackets, joined by `+`, and the atoms that it stands for, in order.
-- Brackets have no meaning, and blanks may stand between the tokens.
use Rattle.std.specs.Prelude.{ℕ, suc, ◌≤◌, List, [], ◌∷◌, ◌++◌, length}
use Rattle.pattern.specs.Characters.{plus_sign, opening_bracket, closing_bracket, Digit, Blank, Stops}
use Rattle.pattern.specs.Word.{Word}

-- where a sum is read: an item must come, or one has ended
pub data Place : Type 0 where
  before_item : Place
  after_item : Place

-- A token where so many brackets are open, the atoms that it stands for, and how many brackets are open after it. What
-- follows is known too, since a word takes all of its digits.
pub data Token (more : List ℕ) : ℕ → Place → List ℕ → List ℕ → ℕ → Place → Type 0 where
  blank : {b depth : ℕ} {place : Place} → Blank b → Token more depth place (b ∷ []) [] depth place
  opening : {depth : ℕ} → Token more depth before_item (opening_bracket ∷ []) [] (suc depth) before_item
  word : {depth : ℕ} {bytes atoms : List ℕ} → Word bytes atoms → Stops Digit more
      → Token more depth before_item bytes atoms depth after_item
  plus : {depth : ℕ} → Token more depth after_item (plus_sign ∷ []) [] depth before_item
  closing : {depth : ℕ} → Token more (suc depth) after_item (closing_bracket ∷ []) [] depth after_item

-- Tokens read one after the other from the front of some bytes: the atoms that they stand for, where that leads, and
-- the bytes that are left.
pub data Reads : ℕ → Place → List ℕ → List ℕ → ℕ → Place → List ℕ → Type 0 where
  done : {depth : ℕ} {place : Place} {rest : List ℕ} → Reads depth place rest [] depth place rest
  next :
      {depth depth₁ depth₂ : ℕ} {place place₁ place₂ : Place} {token more rest atoms further : List ℕ} →
      Token more depth place token atoms depth₁ place₁ →
      Reads depth₁ place₁ more further depth₂ place₂ rest →
      Reads depth place (token ++ more) (atoms ++ further) depth₂ place₂ rest

-- The bytes are a side with these atoms: read whole they are a sum with every bracket closed. A sum has at least one
-- atom, and a side has at most 64.
pub record Side (bytes atoms : List ℕ) : Type 0 where
  pub sum : Reads 0 before_item bytes atoms 0 after_item []
  pub at_most : length atoms ≤ 64
