-- T is the sum itself: over as many blocks as may be read it is a number of 64 bits.
use Prim.Native.Nat.{ℕ, ◌+◌, ◌*◌, ◌-◌, ◌^◌, ◌≤◌}
use native.Mathlib.Omega.{arith}
use native.Mathlib.Nat.{le_trans, mul-le-mul_right}
use mathlib.Core.Path.{◌≡◌, refl}
use mathlib.Core.Bool.{Bool, true, false, cond}
use mathlib.Core.List.{List}
use mathlib.Core.Option.{Option}
use mathlib.Core.Option as option
use lib.ListN.{length}
use Rattle.std.specs.Prelude.{◌==◌, None}
use Rattle.ac.specs.Keys.{layout}
use Rattle.ac.specs.Values.{Binding}
use Rattle.numbers.specs.Outcome.{Outcome}
use Rattle.whole.proofs.Counted.{count_fits}
use Rattle.tally.specs.Line.{BlockFound, line_with, line_of}
use Rattle.tally.specs.declared.Line.{Line}
use Rattle.tally.specs.declared.Line.TheVariants.{NoUnifier, Refused}
use Rattle.tally.specs.declared.Report.{Report}
use Rattle.tally.specs.declared.Report.TheVariants.{Listing, Census}
use Rattle.lines.specs.Library.{most_blocks, rows_refused, page_refused, a_page, SidesFound, listed, count_refused, a_count, Returns, read_refused, sides, BlocksText, no_more, one_more, unifiers_in, total}

-- the most that a line says: as many as keys can be written
abbrev most : Report → ℕ
most (Listing way) = 0
most Census = 2 ^ (layout.index_bits * layout.constants + layout.rows)

-- a refused block's line says none
refused_says_none : (atom : Option ℕ) (n : ℕ) → unifiers_in (line_with atom n) ≡ 0
refused_says_none (option.some atom) n = refl
refused_says_none option.none n = go (n == 13)
  where
    go : (b : Bool) → unifiers_in (cond b NoUnifier (Refused n None)) ≡ 0
    go true = refl
    go false = refl

refused_within : (atom : Option ℕ) (n : ℕ) {k : ℕ} → unifiers_in (line_with atom n) ≤ k
refused_within atom n = omega (arith, refused_says_none atom n)

sides_within : {L R : List ℕ} {report : Report} {returned : Outcome BlockFound} {page : List (List Binding)}
    → SidesFound L R report returned page → unifiers_in (line_of returned) ≤ most report
sides_within (listed (rows_refused {said = said} f)) = refused_within said.atom said.number
sides_within (listed (page_refused {said = said} f g)) = refused_within said.atom said.number
sides_within (listed (a_page f g of)) = omega arith
sides_within (count_refused {said = said} f) = refused_within said.atom said.number
sides_within (a_count f) = count_fits f

block_within : {report : Report} {block : List ℕ} {number : ℕ} {returned : Outcome BlockFound} {page : List (List Binding)}
    → Returns report block number returned page → unifiers_in (line_of returned) ≤ most report
block_within (read_refused {said = said} f) = refused_within said.atom said.number
block_within (sides f found) = sides_within found

-- the sum over blocks
total_within : {report : Report} {place : ℕ} {blocks : List (List ℕ)} {lines : List Line} {text : List ℕ}
    → BlocksText report place blocks lines text → total lines ≤ length blocks * most report
total_within no_more = omega arith
total_within (one_more found rest) = omega (arith, block_within found, total_within rest)

-- T is a number of 64 bits.
pub total_fits : {report : Report} {place : ℕ} {blocks : List (List ℕ)} {lines : List Line} {text : List ℕ}
    → BlocksText report place blocks lines text → length blocks ≤ most_blocks report → total lines ≤ 2 ^ 64 - 1
total_fits {report} text few =
    le_trans (le_trans (total_within text) (mul-le-mul_right (most report) few)) (by_report report)
  where
    by_report : (report : Report) → most_blocks report * most report ≤ 2 ^ 64 - 1
    by_report (Listing way) = omega arith
    by_report Census = omega arith
