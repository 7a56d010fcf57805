-- The table of pairs worked by hand says what document 01 says, and all of it.
use mathlib.Core.Path.{◌≡◌, refl}
use mathlib.Core.List.{map}
use Rattle.ac.specs.Worked.{pairs}
use Rattle.text.specs.Decimal.{decimal}
use Rattle.worked.specs.Document.{lines, line_of}

-- Pairs 1 to 12 in the document's words are the document's lines.
pub as_in_the_document : map line_of pairs ≡ lines
unfolding decimal
as_in_the_document = refl
