-- What is wrong with a line that is no pair, and where.
use Rattle.std.specs.Prelude.{ℕ, suc, ◌+◌, ◌<◌, ◌≡◌, List, [], ◌∷◌, ◌++◌, length}
use Rattle.pattern.specs.Characters.{plus_sign, opening_bracket, closing_bracket, equals_sign, Digit, Blank, Inside, Each, Stops}
use Rattle.pattern.specs.Word.{Word, Unwritable}
use Rattle.pattern.specs.Side.{Place, before_item, after_item, Reads, Side}
use Rattle.pattern.specs.Line.{Remark}
use Rattle.pattern.specs.declared.Fault.{Fault}
use Rattle.pattern.specs.declared.Fault.TheVariants.{NoAtom, NotWritten, ItemMissing, PlusMissing, NotOpened, NotClosed, EmptySide, TooManyAtoms, NoEquals, SecondEquals}

-- a byte that is no token by itself, and no blank
pub record OfWord (b : ℕ) : Type 0 where
  pub no_blank : Blank b → ⊥
  pub no_plus : b ≡ plus_sign → ⊥
  pub no_opening : b ≡ opening_bracket → ⊥
  pub no_closing : b ≡ closing_bracket → ⊥

-- the bytes begin with this word, which takes all of its digits
pub record Front (bytes word more : List ℕ) : Type 0 where
  pub splits : bytes ≡ word ++ more
  pub stops : Stops Digit more

-- no word, not even of v32 to v63, stands at the front of the bytes
pub record NoWord (bytes : List ℕ) : Type 0 where
  pub no_word : {word more atoms : List ℕ} → Front bytes word more → Word word atoms → ⊥
  pub no_unwritable : {word more : List ℕ} → Front bytes word more → Unwritable word → ⊥

-- Why reading ends where so many brackets are open and these atoms were read: no token stands at the front of the
-- rest, or the rest is empty before the sum is.
pub data Stuck : ℕ → Place → List ℕ → List ℕ → Fault → Type 0 where
  empty_side : Stuck 0 before_item [] [] EmptySide
  nothing_follows : {depth : ℕ} {atoms : List ℕ} → (0 < depth + length atoms)
      → Stuck depth before_item atoms [] ItemMissing
  plus_first : {depth : ℕ} {atoms more : List ℕ} → Stuck depth before_item atoms (plus_sign ∷ more) ItemMissing
  closing_first : {depth : ℕ} {atoms more : List ℕ} → Stuck depth before_item atoms (closing_bracket ∷ more) ItemMissing
  opening_after : {depth : ℕ} {atoms more : List ℕ} → Stuck depth after_item atoms (opening_bracket ∷ more) PlusMissing
  word_after : {depth b : ℕ} {atoms more : List ℕ} → OfWord b → Stuck depth after_item atoms (b ∷ more) PlusMissing
  not_opened : {atoms more : List ℕ} → Stuck 0 after_item atoms (closing_bracket ∷ more) NotOpened
  not_closed : {depth : ℕ} {atoms : List ℕ} → Stuck (suc depth) after_item atoms [] NotClosed
  no_atom : {depth b : ℕ} {atoms more : List ℕ} → OfWord b → NoWord (b ∷ more)
      → Stuck depth before_item atoms (b ∷ more) NoAtom
  not_written : {depth : ℕ} {atoms bytes word more : List ℕ} → Front bytes word more → Unwritable word
      → Stuck depth before_item atoms bytes NotWritten
  too_many : {depth : ℕ} {atoms bytes word more further : List ℕ} → Front bytes word more → Word word further
      → 64 < length atoms + length further → Stuck depth before_item atoms bytes TooManyAtoms

-- Reading a side ends so many bytes from its front, for this reason.
pub record SideFault (bytes : List ℕ) (place : ℕ) (why : Fault) : Type 0 where
  pub depth : ℕ
  pub due : Place
  pub atoms : List ℕ
  pub rest : List ℕ
  pub reads : Reads 0 before_item bytes atoms depth due rest
  pub stuck : Stuck depth due atoms rest why
  pub place_is : place + length rest ≡ length bytes

-- What is wrong with a line, and the column, from 1, at which it is: there is no `=`, or a second one, or else a side
-- is no sum, the left one first.
pub data LineFault : List ℕ → ℕ → Fault → Type 0 where
  no_equals : {text rest : List ℕ} → Each Inside text → (Each Blank text → ⊥) → Remark rest
      → LineFault (text ++ rest) (length text + 1) NoEquals
  second_equals : {first second : List ℕ} (rest : List ℕ) → Each Inside first → Each Inside second
      → LineFault (first ++ (equals_sign ∷ (second ++ (equals_sign ∷ rest))))
      (length first + 1 + length second + 1) SecondEquals
  left_side : {first second rest : List ℕ} {place : ℕ} {why : Fault} → Each Inside first → Each Inside second
      → Remark rest → SideFault first place why → LineFault (first ++ (equals_sign ∷ (second ++ rest))) (place + 1) why
  right_side : {first second rest left : List ℕ} {place : ℕ} {why : Fault} → Side first left → Each Inside second
      → Remark rest → SideFault second place why
      → LineFault (first ++ (equals_sign ∷ (second ++ rest))) (length first + 1 + place + 1) why
