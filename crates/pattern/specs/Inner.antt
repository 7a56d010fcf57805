-- What the functions that read a line give.
use Rattle.std.specs.Prelude.{ℕ, ◌+◌, ◌≤◌, ◌<◌, ◌≡◌, Bool, true, false, List, [], ◌∷◌, map, length, take, drop, replicate, Option, Some, None, Result, Ok, Err}
use Rattle.ac.specs.Apart.{renamed_apart}
use Rattle.ac.specs.Lists.{receives}
use Rattle.pattern.specs.Characters.{variable_letter, constant_letter, plus_sign, opening_bracket, closing_bracket, Blank}
use Rattle.pattern.specs.Word.{Word, Unwritable}
use Rattle.pattern.specs.Side.{Place, before_item, after_item, Token, Reads, Side}
use Rattle.pattern.specs.Fault.{OfWord, Front, NoWord, Stuck, SideFault}
use Rattle.pattern.specs.declared.Fault.{Fault}
use Rattle.pattern.specs.declared.Fault.TheVariants.{NoAtom, NotWritten}
use Rattle.block.specs.declared.Sides.{Sides}
use Rattle.pattern.specs.declared.Wrong.{Wrong}
use Rattle.pattern.specs.declared.word.Word as read
use Rattle.pattern.specs.declared.side.Character.{Character}
use Rattle.pattern.specs.declared.side.Character.TheVariants as character
use Rattle.pattern.specs.declared.side.Turn.{Turn}
use Rattle.pattern.specs.declared.side.Turn.TheVariants as turn
use Rattle.pattern.specs.declared.side.Reading.{Reading}

-- the number that the digits say, or none
pub data Tells (Says : ℕ → Type 0) : Option ℕ → Type 0 where
  tells : {n : ℕ} → Says n → Tells Says (Some n)
  tells_none : ((n : ℕ) → Says n → ⊥) → Tells Says None

-- the atom that a letter and a number name
pub data Names (letter number : ℕ) : Result ℕ Fault → Type 0 where
  variable : letter ≡ variable_letter → number < 32 → Names letter number (Ok number)
  constant : letter ≡ constant_letter → number < 64 → Names letter number (Ok (64 + number))
  unwritable : letter ≡ variable_letter → 32 ≤ number → number < 64 → Names letter number (Err NotWritten)
  no_atom : (letter ≡ variable_letter → number < 64 → ⊥) → (letter ≡ constant_letter → number < 64 → ⊥)
      → Names letter number (Err NoAtom)

-- the word that the bytes are, by how many atoms it stands for and how many bytes it takes, or why they are none
pub data Spelled (word : List ℕ) : Result read.Word Fault → Type 0 where
  a_word : {times atom : ℕ} → Word word (replicate times atom)
      → Spelled word (Ok (record { times = times; atom = atom; length = length word }))
  unwritable : Unwritable word → Spelled word (Err NotWritten)
  no_word : ((atoms : List ℕ) → Word word atoms → ⊥) → (Unwritable word → ⊥) → Spelled word (Err NoAtom)

-- the word at the front of the bytes, or why there is none
pub data Scans (bytes : List ℕ) : Result read.Word Fault → Type 0 where
  a_word : {times atom : ℕ} {word more : List ℕ} → Front bytes word more → Word word (replicate times atom)
      → Scans bytes (Ok (record { times = times; atom = atom; length = length word }))
  unwritable : {word more : List ℕ} → Front bytes word more → Unwritable word → Scans bytes (Err NotWritten)
  no_word : NoWord bytes → Scans bytes (Err NoAtom)

-- what a byte stands for in a side
abbrev pub Classified : ℕ → Character → Type 0
Classified b character.Blank = Blank b
Classified b character.Opening = b ≡ opening_bracket
Classified b character.Closing = b ≡ closing_bracket
Classified b character.Plus = b ≡ plus_sign
Classified b character.Other = OfWord b

-- where a sum is read, by whether an item has ended
abbrev pub place_of : Bool → Place
place_of true = after_item
place_of false = before_item

-- a byte leads from here to there by itself, whatever follows it
pub record Leads (b depth : ℕ) (ended : Bool) (depth₁ : ℕ) (ended₁ : Bool) : Type 0 where
  pub token : (more : List ℕ) → Token more depth (place_of ended) (b ∷ []) [] depth₁ (place_of ended₁)
  pub one_deeper : depth₁ ≤ depth + 1

-- Where a byte leads by itself, that it begins a word where one may stand, or why it cannot stand there.
abbrev pub Turns : ℕ → ℕ → Bool → Result Turn Fault → Type 0
Turns b depth ended (Ok (turn.To depth₁ ended₁)) = Leads b depth ended depth₁ ended₁
Turns b depth ended (Ok turn.Word) = (ended ≡ false) × OfWord b
Turns b depth ended (Err why) = (atoms more : List ℕ) → Stuck depth (place_of ended) atoms (b ∷ more) why

-- How far a side has been read: the atoms so far stand at the front of the buffer.
pub record Reached (bytes : List ℕ) (r : Reading) (atoms : List ℕ) : Type 0 where
  pub reads : Reads 0 before_item bytes (take r.count atoms) r.depth (place_of r.ended) (drop r.at bytes)
  pub within : r.at ≤ length bytes
  pub few_open : r.depth ≤ r.at
  pub few_atoms : r.count ≤ 64
  pub room : length atoms ≡ 64

-- A token more was read, or reading ends here.
pub data Goes (bytes : List ℕ) (from : ℕ) : Result Reading Fault → List ℕ → Type 0 where
  goes_on : {r : Reading} {atoms : List ℕ} → from < r.at → Reached bytes r atoms → Goes bytes from (Ok r) atoms
  is_wrong : {why : Fault} {atoms : List ℕ} → SideFault bytes from why → Goes bytes from (Err why) atoms

-- The bytes were read to their end: a side, or one that is wrong there.
pub data Finishes (bytes : List ℕ) (end : ℕ) : Result ℕ Fault → List ℕ → Type 0 where
  a_side : {count : ℕ} {atoms : List ℕ} → count ≤ length atoms → Side bytes (take count atoms)
      → Finishes bytes end (Ok count) atoms
  is_wrong : {why : Fault} {atoms : List ℕ} → SideFault bytes end why → Finishes bytes end (Err why) atoms

-- The atoms of a side stand at the front of the buffer, or it is told what is wrong with it and at which column of the
-- line, in which so many bytes come before it.
pub data ReadsSide (bytes : List ℕ) (start : ℕ) : Result ℕ Wrong → List ℕ → Type 0 where
  a_side : {count : ℕ} {atoms : List ℕ} → count ≤ length atoms → Side bytes (take count atoms)
      → ReadsSide bytes start (Ok count) atoms
  is_wrong : {place : ℕ} {why : Fault} {atoms : List ℕ} → SideFault bytes place why
      → ReadsSide bytes start (Err (record { column = start + place + 1; why = why })) atoms

-- What two sides say, with `=` between them: a pair, or that the left one is wrong, or else the right one.
pub data SidesSay (first second left right : List ℕ) : Result Sides Wrong → List ℕ → List ℕ → Type 0 where
  a_pair : {L R : List ℕ} → Side first L → Side second R
      → SidesSay first second left right (Ok (record { left = length L; right = length R })) (receives left L)
      (receives right (map renamed_apart R))
  left_wrong : {place : ℕ} {why : Fault} → SideFault first place why
      → SidesSay first second left right (Err (record { column = place + 1; why = why })) left right
  right_wrong : {L : List ℕ} {place : ℕ} {why : Fault} → Side first L → SideFault second place why
      → SidesSay first second left right (Err (record { column = length first + 1 + place + 1; why = why })) left right
