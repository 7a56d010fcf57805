-- Invented lines and counts of the nightly program: at document 01's example they do not meet the tally's contract.
use Prim.Native.Nat.{ℕ}
use mathlib.Core.Path.{◌≡◌, sym, ◌∙◌}
use mathlib.Core.Bool.{Bool, false}
use Rattle.std.specs.Prelude.{Option, Result, Ok, Err}
use Rattle.numbers.specs.declared.Refusal.TheVariants as refusal
use Rattle.numbers.specs.declared.Refusal.{Refusal}
use Rattle.block.specs.declared.Sides.{Sides}
use Rattle.solver.specs.declared.rows.Sizes.{Sizes}
use Rattle.solver.specs.declared.page.Written.{Written}
use Rattle.tally.specs.Line.{told_block}
use Rattle.tally.specs.Counts.{totals, Tallies}
use Rattle.tally.specs.declared.Answers.{Answers}
use Rattle.tally.specs.declared.Answers.TheVariants.{Listing}
use Rattle.tally.specs.declared.Line.TheVariants.{Listed, NoUnifier}
use Rattle.tally.specs.declared.Line.TheVariants as line
use Rattle.tally.specs.declared.Totals.{Totals}
use Rattle.tally.specs.declared.Tallied.{Tallied}

-- any program for the tally: from the counts so far and what Read and the other questions returned for a block
abbrev Tally : Type 0
Tally = Totals → Result Sides Refusal → Answers → Tallied

-- Read gave sides of these lengths
abbrev read : ℕ → ℕ → Result Sides Refusal
read left right = Ok (record { left = left; right = right })

-- Rows gave groups of these sizes
abbrev sizes : ℕ → ℕ → ℕ → ℕ → Result Sizes Refusal
sizes balanced constants first second =
    Ok (record { balanced = balanced; constants = constants; first = first; second = second; third = 0; fourth = 0 })

-- Page gave so many keys and no more, with so many candidates weighed
abbrev page : ℕ → ℕ → Result Written Refusal
page written weighed = Ok (record { written = written; more = false; weighed = weighed })

-- the counts B, L, U and F
abbrev counts : ℕ → ℕ → ℕ → ℕ → Totals
counts b l u f = totals b l u f 0

module _ (program : Tally) where
  -- at these counts and returns the program meets the contract
  abbrev MeetsAt : Totals → Result Sides Refusal → Answers → Type 0
  MeetsAt so_far sides answers = Tallies so_far (told_block sides answers) (program so_far sides answers)

  -- block 0 of the example, v0+v1 and c0+c1: no balanced row, two for each of two constants, two keys and no more,
  -- the second of them the third of four candidates
  abbrev first : Tallied
  first = program (counts 0 0 0 0) (read 2 2) (Listing (sizes 0 2 2 2) (page 2 3))

  -- it meets the promise at the first block of the example
  abbrev MeetsFirst : Type 0
  MeetsFirst = MeetsAt (counts 0 0 0 0) (read 2 2) (Listing (sizes 0 2 2 2) (page 2 3))

  -- block 1, v0+v0 and c0: one constant without rows, and no unifier
  abbrev second : Tallied
  second = program (counts 1 1 0 0) (read 2 1) (Listing (sizes 0 1 0 0) (Err refusal.NoUnifier))

  -- and at the second
  abbrev MeetsSecond : Type 0
  MeetsSecond = MeetsAt (counts 1 1 0 0) (read 2 1) (Listing (sizes 0 1 0 0) (Err refusal.NoUnifier))

  -- It invents the numbers of a line: block 0 has `rows 0 4`, and `end 2` after its page.
  pub invented_line_fails : (balanced constants lines : ℕ) (more : Bool)
      → first.line ≡ Listed balanced constants lines more
      → ((balanced ≡ 0) × (constants ≡ 4) × (lines ≡ 2) × (more ≡ false) → ⊥) → MeetsFirst → ⊥
  invented_line_fails balanced constants lines more says others meets =
      let same : Listed balanced constants lines more ≡ Listed 0 4 2 false = sym says ∙ meets.the_line in
      others (cc same, cc same, cc same, cc same)

  -- It invents the counts: after block 0 they are 1, 1, 0 and 0.
  pub invented_counts_fail : (first.counts ≡ counts 1 1 0 0 → ⊥) → MeetsFirst → ⊥
  invented_counts_fail others meets = others meets.the_counts

  -- It refuses every block, with whatever numbers: block 0 is listed.
  pub refusing_fails : (n : ℕ) (atom : Option ℕ) → first.line ≡ line.Refused n atom → MeetsFirst → ⊥
  refusing_fails n atom says meets = cc (says, meets.the_line)

  -- It says the same of every block: block 0 is listed, block 1 has no unifier.
  pub constant_fails : first.line ≡ second.line → MeetsFirst → MeetsSecond → ⊥
  constant_fails same meets meets' =
      let differs : Listed 0 4 2 false ≡ NoUnifier = sym meets.the_line ∙ same ∙ meets'.the_line in
      cc differs
