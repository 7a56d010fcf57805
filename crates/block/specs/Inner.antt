-- What the functions that Read calls give (document 01, "A library block"): a byte's kind, a term taken
-- apart, the header and the filler settled.
use Rattle.std.specs.Prelude.{◌≡◌, ℕ, ◌<◌, ◌≤◌, Bool, ◌⊎◌, List, ◌++◌, length, ◌==◌}
use Rattle.std.specs.List.{list_all}
use Rattle.ac.specs.Lists.{receives}
use Rattle.ac.specs.Term.{Term, flatten}
use Rattle.numbers.specs.Numbers.{number_of}
use Rattle.numbers.specs.First.{First}
use Rattle.numbers.specs.Order.{block_numbers}
use Rattle.numbers.specs.declared.Refusal.{Refusal}
use Rattle.block.specs.Front.{encode, Writable, Writes}
use Rattle.block.specs.Block.{block_number, left_length, right_length, check, check_of_bytes}
use Rattle.block.specs.Table.{ReadGiven}
use Rattle.block.specs.declared.header.TermLengths.{TermLengths}
use Rattle.block.specs.declared.term.ByteKind.{ByteKind}
use Rattle.block.specs.declared.term.ByteKind.TheVariants.{Variable, Constant, Plus, Refused}
use Rattle.block.specs.declared.term.Flattened.{Flattened}

-- A byte 32 to 63 or 129 to 255 is no term.
abbrev pub BeginsNoTerm : ℕ → Type 0
BeginsNoTerm byte = ((32 ≤ byte) × (byte < 64)) ⊎ (128 < byte)

-- 0 to 31 are variables, 64 to 127 are constants, 128 is followed by two terms, and every other byte is no term.
abbrev pub Classified : ℕ → ByteKind → Type 0
Classified byte Variable = byte < 32
Classified byte Constant = (64 ≤ byte) × (byte < 128)
Classified byte Plus = byte ≡ 128
Classified byte Refused = BeginsNoTerm byte

-- The bytes begin with this term.
pub record Begins (bytes : List ℕ) (t : Term) : Type 0 where
  pub rest : List ℕ
  pub splits : bytes ≡ encode t ++ rest
  pub writable : Writable t

-- The bytes begin with a term, by how many bytes it takes and how many atoms it has, which stand at the start of the
-- buffer.
pub record FoundTerm (bytes buffer : List ℕ) (found : Flattened) (after : List ℕ) : Type 0 where
  pub term : Term
  pub begins : Begins bytes term
  pub bytes_is : found.bytes ≡ length (encode term)
  pub atoms_is : found.atoms ≡ length (flatten term)
  pub after_is : after ≡ receives buffer (flatten term)

-- The bytes begin with no term.
abbrev pub BeginsNone : List ℕ → Type 0
BeginsNone bytes = (t : Term) → Begins bytes t → ⊥

-- The bytes are a term, by how many atoms it has, which stand at the start of the buffer.
pub record SideTerm (bytes buffer : List ℕ) (count : ℕ) (after : List ℕ) : Type 0 where
  pub term : Term
  pub writes : Writes bytes term
  pub count_is : count ≡ length (flatten term)
  pub after_is : after ≡ receives buffer (flatten term)

-- It is 1 to 127.
abbrev pub IsLength : ℕ → Type 0
IsLength n = (1 ≤ n) × (n ≤ 127)

-- whether every byte is 0
abbrev pub all_zero : List ℕ → Bool
all_zero bytes = list_all (λ b. b == 0) bytes

-- The block is refused with this number, whatever the buffers: it is the first that the block itself gives.
pub record BlockRefuses (block : List ℕ) (number : ℕ) (refusal : Refusal) : Type 0 where
  pub first : (left right : List ℕ) → First (ReadGiven block number left right) block_numbers (number_of refusal)

-- Nothing is wrong with the block before its terms.
pub record GoodHeader (block : List ℕ) (number : ℕ) : Type 0 where
  pub whole : length block ≡ 512
  pub checked : check block ≡ check_of_bytes block
  pub numbered : block_number block ≡ number
  pub left_length : IsLength (left_length block)
  pub right_length : IsLength (right_length block)

-- Nothing is wrong before the terms, and these are their lengths.
pub record HeaderLengths (block : List ℕ) (number : ℕ) (lengths : TermLengths) : Type 0 where
  pub good : GoodHeader block number
  pub left_is : lengths.left ≡ left_length block
  pub right_is : lengths.right ≡ right_length block
