-- Reading a block after its header (document 01, "A library block" and "The questions", Read).
use Rattle.std.specs.Prelude.{ℕ, List}
use Rattle.numbers.specs.Outcome.{Outcome}
use Rattle.block.specs.Read.{SideLengths, ReadPromise}
use Rattle.block.specs.Inner.{HeaderLengths}
use Rattle.block.specs.declared.header.TermLengths.{TermLengths}

-- the promise of Read, whatever number is expected, where the header is good and has these lengths
abbrev pub ReadsTerms : List ℕ → TermLengths → List ℕ → List ℕ → Outcome SideLengths → List ℕ → List ℕ → Type 0
ReadsTerms block lengths left right outcome left' right' =
    (number : ℕ) → HeaderLengths block number lengths → ReadPromise block number left right outcome left' right'
