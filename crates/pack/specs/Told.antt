-- What is told of a wrong line: which line it is, where it is wrong and why.
use Rattle.std.specs.Prelude.{ℕ, List, ◌++◌}
use Rattle.text.specs.Ascii.{ascii}
use Rattle.text.specs.Decimal.{decimal}
use Rattle.pattern.specs.declared.Fault.{Fault}
use Rattle.pattern.specs.declared.Fault.TheVariants.{NoAtom, NotWritten, ItemMissing, PlusMissing, NotOpened, NotClosed, EmptySide, TooManyAtoms, NoEquals, SecondEquals}

-- what is wrong, in words
abbrev pub words_of : Fault → List ℕ
words_of NoAtom = ascii "no atom; atoms are v0 to v31 and c0 to c63, and 3v0 is three of them"
words_of NotWritten = ascii "v32 to v63 cannot be written, only v0 to v31; answers call the right side's variables so"
words_of ItemMissing = ascii "an atom or a bracket must stand here"
words_of PlusMissing = ascii "a + must stand here"
words_of NotOpened = ascii "a bracket is closed that was not opened"
words_of NotClosed = ascii "a bracket is not closed"
words_of EmptySide = ascii "the side is empty"
words_of TooManyAtoms = ascii "more than 64 atoms; a block holds at most 64 of a side"
words_of NoEquals = ascii "a pair has one =, and here is none"
words_of SecondEquals = ascii "a pair has one =, and here is another"

-- the line of this number
abbrev pub line_named : ℕ → List ℕ
line_named line = ascii "line " ++ decimal line

-- and the column of this number in it
abbrev pub column_named : ℕ → ℕ → List ℕ
column_named line column = line_named line ++ ascii ", column " ++ decimal column ++ ascii ": "

-- there it is wrong
abbrev pub wrong_line : ℕ → ℕ → Fault → List ℕ
wrong_line line column why = column_named line column ++ words_of why ++ ascii "\n"

-- it is too long
abbrev pub long_line : ℕ → List ℕ
long_line line = line_named line ++ ascii ": the line is too long; a line has at most 4,096 bytes\n"
