-- What lines are packed to, and how far that has gone.
use Rattle.std.specs.Prelude.{◌≡◌, ℕ, ◌+◌, ◌%◌, ◌^◌, ◌<◌, ◌≤◌, Bool, true, false, ◌||◌, List, [], ◌∷◌, ◌++◌, length, ℤ, Result, Ok, Err}
use Rattle.library.specs.Library.{Call, came, EndedBy}
use Rattle.library.specs.declared.Next.{Next}
use Rattle.library.specs.declared.Next.TheVariants as next
use Rattle.numbers.specs.Outcome.{Said}
use Rattle.numbers.specs.Outcome as outcome
use Rattle.output.specs.Room.{StillHeld}
use Rattle.writing.specs.Written.{block_of}
use Rattle.writing.specs.Write.{WritePromise}
use Rattle.pattern.specs.Line.{PairLine, SaysNothing}
use Rattle.pattern.specs.Fault.{LineFault}
use Rattle.pattern.specs.declared.Fault.{Fault}
use Rattle.pack.specs.Cut.{most_bytes, Lines}
use Rattle.pack.specs.Held.{Holds}
use Rattle.pack.specs.declared.cut.Line.{Line}
use Rattle.pack.specs.declared.packing.Packing.{Packing}
use Rattle.pack.specs.declared.Stopped.{Stopped}
use Rattle.pack.specs.declared.Stopped.TheVariants as stopped

-- the block of a pair, with this number: the one that Write writes
pub record PairBlock (left right : List ℕ) (number : ℕ) (block : List ℕ) : Type 0 where
  pub the_block : block ≡ block_of number left right
  pub whole : length block ≡ 512

-- Write refuses the pair, though the buffer is long enough
pub record WriteRefuses (left right : List ℕ) (number : ℕ) : Type 0 where
  pub lent : List ℕ
  pub enough : 512 ≤ length lent
  pub said : Said
  pub promised : WritePromise left right number lent (outcome.refused said) lent

-- What a line is packed to, where the next block has this number: a block, or none; the number of the block after it;
-- and whether the line is wrong. Blocks are numbered on modulo 65,536.
pub data LinePacked (number : ℕ) (line : List ℕ) : List ℕ → ℕ → Bool → Type 0 where
  a_block : {left right block : List ℕ} → length line ≤ most_bytes → PairLine line left right
      → PairBlock left right number block → LinePacked number line block ((number + 1) % 65536) false
  no_block : length line ≤ most_bytes → SaysNothing line → LinePacked number line [] number false
  is_wrong : {column : ℕ} {why : Fault} → length line ≤ most_bytes → LineFault line column why
      → LinePacked number line [] number true
  too_long : most_bytes < length line → LinePacked number line [] number true

-- What lines are packed to, one after the other: the blocks of them; the number of the next block; and whether one of
-- them is wrong.
pub data LinesPacked : List (List ℕ) → List ℕ → ℕ → Bool → Type 0 where
  none : LinesPacked [] [] 0 false
  one_more : {lines : List (List ℕ)} {line blocks block : List ℕ} {number number' : ℕ} {wrong wrong' : Bool}
      → LinesPacked lines blocks number wrong → LinePacked number line block number' wrong'
      → LinesPacked (lines ++ (line ∷ [])) (blocks ++ block) number' (wrong || wrong')

-- nothing was packed yet
abbrev pub nothing_packed : Packing
nothing_packed = record { line = 1; number = 0; at = 0; wrong = false }

-- the next line, ..
abbrev pub after_line : Packing → Packing
after_line p = record { line = (p.line + 1) % 2 ^ 64; number = p.number; at = p.at; wrong = p.wrong }

-- .. after one that is wrong, ..
abbrev pub after_wrong : Packing → Packing
after_wrong p = record { line = (p.line + 1) % 2 ^ 64; number = p.number; at = p.at; wrong = true }

-- .. after one whose block ends at a place
abbrev pub after_block : ℕ → Packing → Packing
after_block end p =
    record { line = (p.line + 1) % 2 ^ 64; number = (p.number + 1) % 65536; at = end; wrong = p.wrong }

-- the same with another place in the output buffer
abbrev pub placed_at : ℕ → Packing → Packing
placed_at at p = record { line = p.line; number = p.number; at = at; wrong = p.wrong }

-- What stood before the place in the output buffer is kept: it stands there still, or was written out, and these
-- bytes come behind it.
abbrev pub Behind : List ℕ → ℕ → List ℕ → ℕ → List ℕ → Type 0
Behind out at bytes at' out' = (text : List ℕ) → StillHeld text out at [] → StillHeld (text ++ bytes) out' at' []

-- The block of a pair was put behind the others, or it was refused, or a write failed.
pub data PairGoes (left right : List ℕ) (p : Packing) (out : List ℕ) : Result Packing ℤ → List ℕ → Type 0 where
  made : {block out' : List ℕ} {end : ℕ} → PairBlock left right p.number block → end ≤ length out
      → Behind out p.at block end out' → PairGoes left right p out (Ok (after_block end p)) out'
  refused : {out' : List ℕ} {at : ℕ} → WriteRefuses left right p.number → at ≤ length out
      → Behind out p.at [] at out'
      → PairGoes left right p out (Ok (after_wrong (placed_at at p))) out'
  not_written : {error : ℤ} {out' : List ℕ} → PairGoes left right p out (Err error) out'

-- A line was packed: what it is packed to stands behind the others.
pub record LineDone (line : List ℕ) (p : Packing) (out : List ℕ) (p' : Packing) (out' : List ℕ) : Type 0 where
  pub block : List ℕ
  pub wrong : Bool
  pub packed : LinePacked p.number line block p'.number wrong
  pub told : p'.wrong ≡ (p.wrong || wrong)
  pub counted : p'.line ≡ (p.line + 1) % 2 ^ 64
  pub put : Behind out p.at block p'.at out'

-- The line that is held was packed; or a write failed.
pub data LineGoes (l : Line) (p : Packing) (out : List ℕ) : Result Packing ℤ → List ℕ → Type 0 where
  goes_on : {p' : Packing} {out' : List ℕ} → p'.at ≤ length out
      → ((line : List ℕ) → Holds l line → LineDone line p out p' out')
      → LineGoes l p out (Ok p') out'
  not_written : {error : ℤ} {out' : List ℕ} → LineGoes l p out (Err error) out'

-- How far the lines have been packed of what came: those that have ended are packed, and the rest is held.
pub record Far (bytes : List ℕ) (l : Line) (p : Packing) (out : List ℕ) : Type 0 where
  pub lines : List (List ℕ)
  pub last : List ℕ
  pub blocks : List ℕ
  pub cut : Lines bytes lines last
  pub holds : Holds l last
  pub packed : LinesPacked lines blocks p.number p.wrong
  pub numbered : p.line ≡ (length lines + 1) % 2 ^ 64
  pub stands : StillHeld blocks out p.at []

-- the place lies in the output buffer, which has room for lines
pub record Ready (p : Packing) (size : ℕ) : Type 0 where
  pub place : p.at ≤ size
  pub room : 8192 ≤ size

-- The next bytes came, and packing has gone so far; or a write failed.
pub data PieceGoes (bytes : List ℕ) (l : Line) (p : Packing) (out : List ℕ)
    : Result Packing ℤ → Line → List ℕ → Type 0 where
  goes_on : {p' : Packing} {l' : Line} {out' : List ℕ} → p'.at ≤ length out
      → ((before : List ℕ) → Far before l p out → Far (before ++ bytes) l' p' out')
      → PieceGoes bytes l p out (Ok p') l' out'
  not_written : {error : ℤ} {l' : Line} {out' : List ℕ} → PieceGoes bytes l p out (Err error) l' out'

-- the input is read in so many pieces of 512 bytes at most, which are more than there will ever be
abbrev pub most_pieces : ℕ
most_pieces = 1000000000000000

-- How packing ended: all lines of the input, of which the last may lack its line feed, were packed; or only those
-- that ended in what was read before a read failed; and the blocks stand in the output buffer, but for what was
-- written out. Or a write failed.
pub data PackedTo (out : List ℕ) : Result Packing Stopped → Type 0 where
  all : {calls : List Call} {lines : List (List ℕ)} {last blocks : List ℕ} {p : Packing}
      → EndedBy calls → Lines (came calls) lines last → LinesPacked (lines ++ (last ∷ [])) blocks p.number p.wrong
      → p.at ≤ length out → StillHeld blocks out p.at [] → PackedTo out (Ok p)
  not_read : (calls : List Call) (more : List ℕ) {lines : List (List ℕ)} {bytes last blocks : List ℕ} {at number : ℕ}
      {wrong : Bool} → came calls ≡ bytes ++ more → Lines bytes lines last → LinesPacked lines blocks number wrong
      → at ≤ length out → StillHeld blocks out at [] → PackedTo out (Err (stopped.Unread at))
  not_written : {error : ℤ} → PackedTo out (Err (stopped.Unwritten error))

-- The end of the input: the line that has not ended is packed too. Where a read failed nothing more is packed.
pub data Finishes (n : Next) (l : Line) (p : Packing) (out : List ℕ) : Result Packing Stopped → List ℕ → Type 0 where
  at_end : {p' : Packing} {out' : List ℕ} → n ≡ next.End → p'.at ≤ length out
      → ((line : List ℕ) → Holds l line → LineDone line p out p' out')
      → Finishes n l p out (Ok p') out'
  failed : Finishes n l p out (Err (stopped.Unread p.at)) out
  not_written : {error : ℤ} {out' : List ℕ} → Finishes n l p out (Err (stopped.Unwritten error)) out'
