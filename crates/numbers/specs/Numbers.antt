-- Document 01, "Numbers given in place of a result": the number of each refusal, and what it says.
use Rattle.std.specs.Prelude.{ℕ}
use Rattle.std.proofs.Math.Option.{Option, none, some}
use Rattle.numbers.specs.Outcome.{Said}
use Rattle.numbers.specs.declared.Refusal.{Refusal}
use Rattle.numbers.specs.declared.Refusal.TheVariants.{BlockLength, Check, BlockNumber, TermLength, Term, Filler, SideLength, NoAtom, Variables, NetCount, Constants, Rows, NoUnifier, NotListed, LastKey, ShortBuffer, WrongSide, OnBothSides}

-- the column No. of the table, row by row, without 17 (document 02, R-9), and the rows that document 02 adds to it: 18
-- (R-3) and 19 (R-4)
abbrev pub number_of : Refusal → ℕ
number_of BlockLength = 1
number_of Check = 2
number_of BlockNumber = 3
number_of TermLength = 4
number_of Term = 5
number_of Filler = 6
number_of SideLength = 7
number_of NoAtom = 8
number_of Variables = 9
number_of (NetCount atom) = 10
number_of Constants = 11
number_of Rows = 12
number_of NoUnifier = 13
number_of NotListed = 14
number_of LastKey = 15
number_of ShortBuffer = 16
number_of WrongSide = 18
number_of OnBothSides = 19

-- the atom that 10 names (document 02, R-2)
abbrev pub atom_of : Refusal → Option ℕ
atom_of BlockLength = none
atom_of Check = none
atom_of BlockNumber = none
atom_of TermLength = none
atom_of Term = none
atom_of Filler = none
atom_of SideLength = none
atom_of NoAtom = none
atom_of Variables = none
atom_of (NetCount atom) = some atom
atom_of Constants = none
atom_of Rows = none
atom_of NoUnifier = none
atom_of NotListed = none
atom_of LastKey = none
atom_of ShortBuffer = none
atom_of WrongSide = none
atom_of OnBothSides = none

-- what a refusal says
abbrev pub said_of : Refusal → Said
said_of refusal = record { number = number_of refusal; atom = atom_of refusal }
