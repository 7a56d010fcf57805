-- A library's text is determined: two texts of the same blocks for one report are identical.
use Rattle.std.proofs.Common.{ℕ, ◌≡◌, refl, ap, ap₂, sym, subst₂, ◌∙◌, Bool, List, [], ◌∷◌, ◌++◌, take}
use Rattle.ac.specs.Values.{Binding}
use Rattle.ac.proofs.Groups.{groups_unique}
use Rattle.numbers.specs.Outcome.{Said, Outcome, refused, given}
use Rattle.numbers.proofs.Promises.{outcome_determined, refused_not_given, same_values}
use Rattle.block.specs.Read.{SideLengths}
use Rattle.pair.specs.Ways.{mode_of}
use Rattle.pair.specs.declared.ways.Way.{Way}
use Rattle.block.proofs.Determined.{one_read}
use Rattle.solver.specs.Rows.{GroupSizes}
use Rattle.solver.specs.Page.{PageWritten}
use Rattle.solver.proofs.Determined.{one_rows, one_page, one_count}
use Rattle.output.specs.Step.{lines_joined}
use Rattle.tally.specs.Line.{BlockFound, a_list, a_number, line_of}
use Rattle.tally.specs.Counts.{closing_of}
use Rattle.tally.specs.declared.Line.{Line}
use Rattle.tally.specs.declared.Report.{Report}
use Rattle.lines.specs.Lines.{block_lines, closing_lines}
use Rattle.lines.specs.Library.{found_by, PairFound, rows_refused, page_refused, a_page, SidesFound, listed, count_refused, a_count, Returns, read_refused, sides, BlocksText, no_more, one_more, counts_of, LibraryText}

-- what two sides come to
pub record SameFound (r r' : Outcome BlockFound) (p p' : List (List Binding)) : Type 0 where
  pub same_returned : r ≡ r'
  pub same_page : p ≡ p'

-- the same number is said, and nothing is listed
same-refusal : {Values : Type 0} {said said' : Said} → ◌≡◌ {A = Outcome Values} (refused said) (refused said')
    → SameFound (refused said) (refused said') [] []
same-refusal {said = said} {said'} e =
    let same : said ≡ said' = cc e in
    record { same_returned = ap refused same; same_page = refl }

pub pair_determined : {way : Way} {L R : List ℕ} {r r' : Outcome BlockFound} {p p' : List (List Binding)}
    → PairFound way L R r p → PairFound way L R r' p' → SameFound r r' p p'
pair_determined (rows_refused f) (rows_refused g) = same-refusal (outcome_determined one_rows f g).0
pair_determined (rows_refused f) (page_refused g page) =
    absurd (refused_not_given (outcome_determined one_rows f g).0)
pair_determined (rows_refused f) (a_page g page of) =
    absurd (refused_not_given (outcome_determined one_rows f g).0)
pair_determined (page_refused f page) (rows_refused g) =
    absurd (refused_not_given (outcome_determined one_rows g f).0)
pair_determined (page_refused f page) (page_refused g page') =
    same-refusal (outcome_determined one_page page page').0
pair_determined (page_refused f page) (a_page g page' of) =
    absurd (refused_not_given (outcome_determined one_page page page').0)
pair_determined (a_page f page of) (rows_refused g) =
    absurd (refused_not_given (outcome_determined one_rows g f).0)
pair_determined (a_page f page of) (page_refused g page') =
    absurd (refused_not_given (outcome_determined one_page page' page).0)
pair_determined {way} {L} {R} (a_page {sizes = z} {page = w} {keys = keys} {G = G} f page of)
    (a_page {sizes = z'} {page = w'} {keys = keys'} {G = H} g page' of') =
    let same_groups : G ≡ H = groups_unique (mode_of way L R) L R of of' in
    let same_sizes : z ≡ z' = same_values (outcome_determined one_rows f g).0 in
    let both = outcome_determined one_page page page' in
    let same_written : w ≡ w' = same_values both.0 in
    let same_count : w.written ≡ w'.written = ap (λ (w : PageWritten). w.written) same_written in
    let same_keys : keys ≡ keys' = both.1 in
    record {
      same_returned = ap₂ (λ (z : GroupSizes) (w : PageWritten). given (a_list (found_by z w))) same_sizes same_written;
      same_page = cc (same_groups, same_count, same_keys);
    }

pub sides_determined : {L R : List ℕ} {report : Report} {r r' : Outcome BlockFound} {p p' : List (List Binding)}
    → SidesFound L R report r p → SidesFound L R report r' p' → SameFound r r' p p'
sides_determined (listed f) (listed g) = pair_determined f g
sides_determined (count_refused f) (count_refused g) = same-refusal (outcome_determined one_count f g).0
sides_determined (count_refused f) (a_count g) = absurd (refused_not_given (outcome_determined one_count f g).0)
sides_determined (a_count f) (count_refused g) = absurd (refused_not_given (outcome_determined one_count g f).0)
sides_determined (a_count f) (a_count g) =
    record {
      same_returned = ap (λ (n : ℕ). given (a_number n)) (same_values (outcome_determined one_count f g).0);
      same_page = refl;
    }

-- what a block comes to
pub found_determined : {report : Report} {block : List ℕ} {number : ℕ} {r r' : Outcome BlockFound} {p p' : List (List Binding)}
    → Returns report block number r p → Returns report block number r' p' → SameFound r r' p p'
found_determined (read_refused f) (read_refused g) = same-refusal (outcome_determined one_read f g).0
found_determined (read_refused f) (sides g pair) =
    absurd (refused_not_given (outcome_determined one_read f g).0)
found_determined (sides f pair) (read_refused g) =
    absurd (refused_not_given (outcome_determined one_read g f).0)
found_determined {report} {r = r} {r'} {p} {p'}
    (sides {lengths = n} {left = left} {right = right} f pair)
    (sides {lengths = n'} {left = left'} {right = right'} g pair') =
    let same = outcome_determined one_read f g in
    let lengths : n ≡ n' = same_values same.0 in
    let left_length = ap (λ (n : SideLengths). n.left) lengths in
    let right_length = ap (λ (n : SideLengths). n.right) lengths in
    let same_left = ap₂ (λ (k : ℕ) (l : List ℕ). take k l) left_length (ap (λ b. b.0) same.1) in
    let same_right = ap₂ (λ (k : ℕ) (l : List ℕ). take k l) right_length (ap (λ b. b.1) same.1) in
    sides_determined (subst₂ (λ L R. SidesFound L R report r p) same_left same_right pair) pair'

-- the lines and the text of blocks
pub record SameText (ls ls' : List Line) (t t' : List ℕ) : Type 0 where
  pub same_lines : ls ≡ ls'
  pub same_text : t ≡ t'

pub blocks_determined : {report : Report} {place : ℕ} {blocks : List (List ℕ)} {ls ls' : List Line} {t t' : List ℕ}
    → BlocksText report place blocks ls t → BlocksText report place blocks ls' t' → SameText ls ls' t t'
blocks_determined no_more no_more = record { same_lines = refl; same_text = refl }
blocks_determined {place = place} (one_more {returned = r} {page = p} found rest)
    (one_more {returned = r'} {page = p'} found' rest') =
    let same = found_determined found found' in
    let others = blocks_determined rest rest' in
    let first : block_lines place (line_of r) p ≡ block_lines place (line_of r') p' =
    ap₂ (λ r p. block_lines place (line_of r) p) same.same_returned same.same_page in
    record {
      same_lines = ap₂ (λ (r : Outcome BlockFound) (ls : List Line). line_of r ∷ ls) same.same_returned others.same_lines;
      same_text = ap₂ (λ (ls : List (List ℕ)) (t : List ℕ). lines_joined ls ++ t) first others.same_text;
    }

-- Two texts of the same blocks are identical.
pub library_determined : {report : Report} {blocks : List (List ℕ)} {remains : Bool} {text text' : List ℕ}
    → LibraryText report blocks remains text → LibraryText report blocks remains text' → text ≡ text'
library_determined {report} {remains = remains} first second =
    let same = blocks_determined first.of_blocks second.of_blocks in
    first.whole
    ∙ ap₂ (λ (t : List ℕ) (ls : List Line). t ++ closing_lines (closing_of report (counts_of ls) remains))
    same.same_text same.same_lines
    ∙ sym second.whole
