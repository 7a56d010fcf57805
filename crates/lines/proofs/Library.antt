-- Laws of the text of blocks: one block more behind the others, and what is counted then.
use Rattle.std.proofs.Common.{ℕ, suc, ◌+◌, ◌-◌, ◌^◌, ◌%◌, ◌<◌, ◌≤◌, arith, ◌≡◌, refl, ap, sym, subst, ◌∙◌, Bool, true, false, List, [], ◌∷◌, ◌++◌, append_assoc, append-nil, length, length-append}
use Rattle.ac.specs.Lists.{keep, filter}
use Rattle.ac.specs.Values.{Binding}
use Rattle.output.specs.Step.{lines_joined}
use Rattle.tally.specs.Line.{BlockFound, line_of}
use Rattle.numbers.specs.Outcome.{Outcome}
use Rattle.tally.specs.Counts.{totals, counted}
use Rattle.tally.specs.declared.Line.{Line}
use Rattle.tally.specs.declared.Line.TheVariants.{Listed, Counted, NoUnifier, Refused}
use Rattle.tally.specs.declared.Report.{Report}
use Rattle.lines.specs.Lines.{block_lines}
use Rattle.lines.specs.Library.{Returns, BlocksText, no_more, one_more, is_listed, is_none, is_refused, how_many, unifiers_in, total, counts_of}

-- every block has one line
pub line_each : {report : Report} {place : ℕ} {blocks : List (List ℕ)} {lines : List Line} {text : List ℕ}
    → BlocksText report place blocks lines text → length lines ≡ length blocks
line_each no_more = refl
line_each (one_more found rest) = ap suc (line_each rest)

-- one block more stands at the place after the others
pub blocks_more : {report : Report} {place : ℕ} {blocks : List (List ℕ)} {lines : List Line} {text : List ℕ}
    {block : List ℕ} {returned : Outcome BlockFound} {page : List (List Binding)}
    → BlocksText report place blocks lines text → Returns report block ((place + length blocks) % 65536) returned page
    → BlocksText report place (blocks ++ (block ∷ [])) (lines ++ (line_of returned ∷ []))
    (text ++ lines_joined (block_lines (place + length blocks) (line_of returned) page))
blocks_more {report} {place} {block = block} {returned = returned} {page = page} no_more found =
    let same : place + 0 ≡ place = omega arith in
    subst (λ (t : List ℕ). BlocksText report place (block ∷ []) (line_of returned ∷ []) t)
    (append-nil (lines_joined (block_lines place (line_of returned) page))
    ∙ ap (λ (k : ℕ). lines_joined (block_lines k (line_of returned) page)) (sym same))
    (one_more (subst (λ (k : ℕ). Returns report block (k % 65536) returned page) same found) no_more)
blocks_more {report} {place} {blocks = first ∷ blocks} {block = block} {returned = returned} {page = page}
    (one_more {returned = r} {page = p} {lines = lines} {text = text} found_first rest) found =
    let same : place + suc (length blocks) ≡ place + 1 + length blocks = omega arith in
    let own = lines_joined (block_lines place (line_of r) p) in
    let more = blocks_more rest (subst (λ (k : ℕ). Returns report block (k % 65536) returned page) same found) in
    subst
    (λ (t : List ℕ). BlocksText report place (first ∷ blocks ++ (block ∷ [])) (line_of r ∷ lines ++ (line_of returned ∷ [])) t)
    (sym (append_assoc own text _)
    ∙ ap (λ (k : ℕ). own ++ text ++ lines_joined (block_lines k (line_of returned) page)) (sym same))
    (one_more found_first more)

-- the lines of a kind, with one line more
module _ (kind : Line → Bool) where
  many_more : (lines : List Line) (line : Line)
      → how_many kind (lines ++ (line ∷ [])) ≡ how_many kind lines + how_many kind (line ∷ [])
  many_more [] line = omega arith
  many_more (first ∷ lines) line = go (kind first) (many_more lines line)
    where
      go : (b : Bool) → how_many kind (lines ++ (line ∷ [])) ≡ how_many kind lines + how_many kind (line ∷ [])
          → length (keep b first (filter kind (lines ++ (line ∷ []))))
          ≡ length (keep b first (filter kind lines)) + how_many kind (line ∷ [])
      go true rest = omega (arith, rest)
      go false rest = rest

  -- they are no more than all lines
  many_within : (lines : List Line) → how_many kind lines ≤ length lines
  many_within [] = omega arith
  many_within (first ∷ lines) = go (kind first) (many_within lines)
    where
      go : (b : Bool) → how_many kind lines ≤ length lines
          → length (keep b first (filter kind lines)) ≤ suc (length lines)
      go true rest = omega (arith, rest)
      go false rest = omega (arith, rest)

-- the sum, with one line more
total-more : (lines : List Line) (line : Line) → total (lines ++ (line ∷ [])) ≡ total lines + unifiers_in line
total-more [] line = omega arith
total-more (first ∷ lines) line = omega (arith, total-more lines line)

-- counts are the same where each is
same_counts : {b b' l l' n n' r r' t t' : ℕ} → b ≡ b' → l ≡ l' → n ≡ n' → r ≡ r' → t ≡ t'
    → totals b l n r t ≡ totals b' l' n' r' t'
same_counts b l n r t = cc (b, l, n, r, t)

-- each kind of line is counted, and the sum is the sum itself where it is a number of 64 bits
pub counts_more : (lines : List Line) (line : Line) → length lines < 2 ^ 64 - 1
    → total (lines ++ (line ∷ [])) ≤ 2 ^ 64 - 1 → counted (counts_of lines) line ≡ counts_of (lines ++ (line ∷ []))
counts_more lines line few small = go line (total-more lines line) small
  where
    -- the counts of all lines, and of each kind, with this line behind them
    all : (line : Line) → length (lines ++ (line ∷ [])) ≡ length lines + 1
    all line = length-append lines (line ∷ [])

    go : (line : Line) → total (lines ++ (line ∷ [])) ≡ total lines + unifiers_in line
        → total (lines ++ (line ∷ [])) ≤ 2 ^ 64 - 1
        → counted (counts_of lines) line ≡ counts_of (lines ++ (line ∷ []))
    go (Listed H K N more) sum small =
        let line = Listed H K N more in
        same_counts (omega (arith, all line)) (omega (arith, many_more is_listed lines line, many_within is_listed lines))
        (omega (arith, many_more is_none lines line)) (omega (arith, many_more is_refused lines line)) (omega (arith, sum))
    go (Counted N) sum small =
        let line = Counted N in
        same_counts (omega (arith, all line)) (omega (arith, many_more is_listed lines line))
        (omega (arith, many_more is_none lines line)) (omega (arith, many_more is_refused lines line))
        (omega (arith, sum, small))
    go NoUnifier sum small =
        same_counts (omega (arith, all NoUnifier)) (omega (arith, many_more is_listed lines NoUnifier))
        (omega (arith, many_more is_none lines NoUnifier, many_within is_none lines))
        (omega (arith, many_more is_refused lines NoUnifier)) (omega (arith, sum))
    go (Refused X atom) sum small =
        let line = Refused X atom in
        same_counts (omega (arith, all line)) (omega (arith, many_more is_listed lines line))
        (omega (arith, many_more is_none lines line))
        (omega (arith, many_more is_refused lines line, many_within is_refused lines)) (omega (arith, sum))
