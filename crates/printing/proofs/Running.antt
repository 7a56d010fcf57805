-- Laws of printing block after block.
use Prim.Native.Nat.{ℕ, ◌+◌, ◌-◌, ◌^◌, ◌%◌, ◌≤◌, ◌<◌}
use native.Mathlib.Omega.{arith}
use mathlib.Core.Path.{◌≡◌, refl, ap, sym, subst, subst₂, ◌∙◌}
use mathlib.Core.Bool.{Bool, true, false}
use Rattle.std.specs.Prelude.{Result, Ok, Err, IsErr, IsErrAnd, MatchResult}
use mathlib.Core.List.{List, [], ◌∷◌, ◌++◌, append-nil}
use lib.ListN.{length, take, length-append}
use lib.IntN.{ℤ}
use Rattle.buffer.proofs.Puts.{put-length}
use Rattle.tally.specs.Line.{line_of}
use Rattle.tally.specs.Counts.{counted, closing_of}
use Rattle.tally.specs.declared.Line.{Line}
use Rattle.tally.specs.declared.Totals.{Totals}
use Rattle.tally.specs.declared.Report.{Report}
use Rattle.tally.specs.declared.Report.TheVariants as asks
use Rattle.pair.specs.declared.ways.Way.{Way}
use Rattle.library.specs.Reading.{opened, part}
use Rattle.library.specs.Library.{Call, HandsOn, Run}
use Rattle.library.proofs.Handed.{handed_on}
use Rattle.library.proofs.Following.{run_block, run_end, run_limit, run_failure}
use Rattle.library.specs.declared.Reader.{Reader}
use Rattle.library.specs.declared.Next.{Next}
use Rattle.library.specs.declared.Next.TheVariants as next
use Rattle.output.specs.Step.{lines_joined}
use Rattle.output.specs.Room.{HasRoom, StillHeld}
use Rattle.output.proofs.Steps.{stepped_left}
use Rattle.output.proofs.Held.{holds_as, holds_more, holds_put, holds_then, holds_nothing}
use Rattle.lines.specs.Lines.{block_lines, closing_lines}
use Rattle.lines.specs.Library.{most_blocks, Returns, BlocksText, no_more, counts_of, LibraryText}
use Rattle.lines.proofs.Library.{line_each, blocks_more, counts_more}
use Rattle.printing.specs.Printed.{lines_of, Prints, StartsBlock, BlockPut, lines_put, not_put}
use Rattle.printing.specs.Library.{no_counts, Started, PutInSteps, Over, at_end, input_remains, failed, Closes, Finishes, PrintedTo, LibraryPrinted, all, too_long, not_read, not_written}
use Rattle.printing.proofs.Total.{total_fits}
use Rattle.printing.specs.declared.print.Listing.{Listing}
use Rattle.printing.specs.declared.Stopped.{Stopped}
use Rattle.printing.specs.declared.Stopped.TheVariants.{Unread, Unwritten}

-- writing out a block's lines failed
pub put_failed : {l : Listing} {out out' : List ℕ} {at : ℕ} (p : Result ℕ ℤ) → IsErr p → BlockPut l out at p out'
put_failed (Ok next) is = cc is
put_failed (Err error) is = not_put

-- what is told of the library, of how a block's lines were put
abbrev Told : Result ℕ ℤ → Result ℕ Stopped → Type 0
Told p told = MatchResult p (λ next. told ≡ Ok next) (λ error. IsErrAnd told (λ why. why ≡ Unwritten error))

-- that they were put
pub told_put : (p : Result ℕ ℤ) {told : Result ℕ Stopped} {next : ℕ} → Told p told → told ≡ Ok next → p ≡ Ok next
told_put (Ok at) tells e = cc (tells, e)
told_put (Err error) tells e = absurd (subst (λ t. IsErrAnd t (λ why. why ≡ Unwritten error)) e tells)

-- or that writing failed
pub told_failed : (p : Result ℕ ℤ) {told : Result ℕ Stopped} {why : Stopped} {report : Report} {out : List ℕ} (end : Result ℕ Stopped)
    → Told p told → told ≡ Err why → IsErrAnd end (λ given. given ≡ why) → LibraryPrinted report end out
told_failed (Ok at) end tells e is = cc (tells, e)
told_failed (Err error) (Ok at) tells e is = absurd is
told_failed (Err error) {report = report} {out = out} (Err given) tells e is =
    let unwritten = is ∙ subst (λ t. IsErrAnd t (λ why. why ≡ Unwritten error)) e tells in
    subst (λ why. LibraryPrinted report (Err why) out) (sym unwritten) not_written

-- what blocks that were started come to
pub record StartedText (report : Report) (blocks : List (List ℕ)) (text : List ℕ) (c : Totals) : Type 0 where
  pub lines : List Line
  pub of_blocks : BlocksText report 0 blocks lines text
  pub the_counts : c ≡ counts_of lines

-- no report is of so many blocks that their number is none of 64 bits
few_read : (report : Report) → most_blocks report < 2 ^ 64
few_read (asks.Listing way) = omega arith
few_read asks.Census = omega arith

-- one block more
started_more : {report : Report} {blocks : List (List ℕ)} {text : List ℕ} {before after : Totals} {block : List ℕ} {l : Listing}
    → length (blocks ++ (block ∷ [])) ≤ most_blocks report → StartedText report blocks text before
    → (starts : StartsBlock report block before l after)
    → StartedText report (blocks ++ (block ∷ [])) (text ++ lines_joined (lines_of starts.way starts.left starts.right l)) after
started_more {report} {blocks} {text} {before} {after} {block} few so_far starts =
    let lines = so_far.lines in
    let line = line_of starts.returned in
    let each = line_each so_far.of_blocks in
    let place : before.blocks ≡ 0 + length blocks = ap (λ (c : Totals). c.blocks) so_far.the_counts ∙ omega (arith, each) in
    let found = subst (λ (k : ℕ). Returns report block (k % 65536) starts.returned starts.page) place starts.found in
    let same_text = ap lines_joined
    (starts.the_lines ∙ ap (λ (k : ℕ). block_lines k line starts.page) place) in
    let more = blocks_more so_far.of_blocks found in
    let fewer : length lines < 2 ^ 64 - 1 = omega (arith, each, length-append blocks (block ∷ []), few_read report) in
    record {
      lines = lines ++ (line ∷ []);
      of_blocks = subst (λ (t : List ℕ). BlocksText report 0 (blocks ++ (block ∷ [])) (lines ++ (line ∷ [])) (text ++ t))
          (sym same_text) more;
      the_counts = starts.the_counts ∙ ap (λ (c : Totals). counted c line) so_far.the_counts
          ∙ counts_more lines line fewer (total_fits more few);
    }

-- The text of blocks that were started one after the other from counts of 0 is the definition's.
pub started_text : {report : Report} {blocks : List (List ℕ)} {text : List ℕ} {c : Totals} → Started report blocks text c
    → length blocks ≤ most_blocks report → StartedText report blocks text c
started_text Started.nothing few = record { lines = []; of_blocks = no_more; the_counts = refl }
started_text (Started.a_block {blocks = blocks} {block = block} so_far starts) few =
    let more = length-append blocks (block ∷ []) in
    started_more few (started_text so_far (omega arith)) starts

-- What is put in steps, joined, is what is left to put when printing begins.
in_steps : {report : Report} {blocks : List (List ℕ)} {text : List ℕ} {c : Totals} → PutInSteps report blocks text c → Started report blocks text c
in_steps PutInSteps.nothing = Started.nothing
in_steps {report} (PutInSteps.a_block {blocks = blocks} {text = text} {after = after} {block = block} so_far starts steps) =
    subst (λ (t : List ℕ). Started report (blocks ++ (block ∷ [])) (text ++ t) after) (stepped_left steps)
    (Started.a_block (in_steps so_far) starts)

-- So it is the definition's text of those blocks.
pub text_in_steps : {report : Report} {blocks : List (List ℕ)} {text : List ℕ} {c : Totals} → PutInSteps report blocks text c
    → length blocks ≤ most_blocks report → StartedText report blocks text c
text_in_steps steps few = started_text (in_steps steps) few

-- where no block and no read comes next, it is over
pub over : (n : Next) → ((start size : ℕ) → n ≡ next.Block start size → ⊥) → (n ≡ next.Wanted → ⊥) → Over n
over (next.Block start size) no_block no_read = absurd (no_block start size refl)
over next.End no_block no_read = at_end
over next.Remains no_block no_read = input_remains
over (next.Failed error) no_block no_read = failed
over next.Wanted no_block no_read = absurd (no_read refl)

-- and nothing else
pub not_over : (n : Next) → (n ≡ next.End → ⊥) → (n ≡ next.Remains → ⊥) → ((error : ℤ) → n ≡ next.Failed error → ⊥)
    → Over n → ⊥
not_over next.End no_end not_remaining no_failure at_end = no_end refl
not_over next.Remains no_end not_remaining no_failure input_remains = not_remaining refl
not_over (next.Failed error) no_end not_remaining no_failure failed = no_failure error refl
not_over (next.Block start size) no_end not_remaining no_failure over = elim over [ ]
not_over next.Wanted no_end not_remaining no_failure over = elim over [ ]

-- what is put at the end, where it is known what comes next
pub finish_as : {report : Report} {c : Totals} {out out' : List ℕ} {at : ℕ} {n n' : Next} {p : Result ℕ Stopped} → n ≡ n'
    → Finishes report c out at n' p out' → Finishes report c out at n p out'
finish_as {report} {c} {out} {out'} {at} {p = p} e finishes = subst (λ n. Finishes report c out at n p out') (sym e) finishes

pub finish_failed : {report : Report} {c : Totals} {out : List ℕ} {at : ℕ} {n : Next} {error told : ℤ} → n ≡ next.Failed error
    → error ≡ told → Finishes report c out at n (Err (Unread at told)) out
finish_failed {report} {c} {out} {at} {error = error} e same =
    finish_as e (subst (λ t. Finishes report c out at (next.Failed error) (Err (Unread at t)) out) same Finishes.not_read)

-- What is so as long as the program goes on: the blocks handed on so far were started one after the other, and their
-- text stands in the buffer before the place, but for what was written out.
pub record Running (report : Report) (input : List ℕ) (r : Reader) (c : Totals) (out : List ℕ) (at : ℕ) : Type 0 where
  pub calls : List Call
  pub blocks : List (List ℕ)
  pub text : List ℕ
  pub run : Run (most_blocks report) calls blocks r input
  pub started : Started report blocks text c
  pub holds : StillHeld text out at []

-- before the first block
pub running_start : {report : Report} {input : List ℕ} (out : List ℕ) {r : Reader} {c : Totals} → 512 ≤ length input
    → r ≡ opened (most_blocks report) → c ≡ no_counts → Running report input r c out 0
running_start {report} {input} out room opened_library nothing_counted =
    subst₂ (λ r c. Running report input r c out 0) (sym opened_library) (sym nothing_counted)
    (record {
      calls = [];
      blocks = [];
      text = [];
      run = Run.start room;
      started = Started.nothing;
      holds = holds_nothing out;
    })

-- what the lines of a block leave
pub record PutTo (l : Listing) (out : List ℕ) (at next : ℕ) (out' : List ℕ) : Type 0 where
  pub room : HasRoom (length out) next
  pub holds : (way : Way) (L R : List ℕ) → Prints way L R l → StillHeld (take at out ++ lines_joined (lines_of way L R l)) out' next []

pub put_to : {l : Listing} {out out' : List ℕ} {at next : ℕ} {p : Result ℕ ℤ} → BlockPut l out at p out' → p ≡ Ok next
    → PutTo l out at next out'
put_to {l} {out} {out'} {at} {next} (lines_put {next = n} room holds) e =
    let same : n ≡ next = cc e in
    record {
      room = omega arith;
      holds = λ way L R prints. subst (λ (k : ℕ). StillHeld (take at out ++ lines_joined (lines_of way L R l)) out' k []) same
          (holds way L R prints);
    }
put_to not_put e = absurd (cc e)

module _ {report : Report} {input : List ℕ} {r : Reader} {c : Totals} {out : List ℕ} {at : ℕ} (running : Running report input r c out at) where
  -- one block more
  pub running_block : {input' out' : List ℕ} {r' : Reader} {c' : Totals} {n : Next} {start size place : ℕ} {l : Listing}
      → HandsOn input r n r' input' → n ≡ next.Block start size
      → StartsBlock report (part start (start + size - start) input') c l c' → PutTo l out at place out'
      → Running report input' r' c' out' place
  running_block {input'} {c' = c'} {start = start} {size = size} {l = l} handed e starts to =
      let same : start + size - start ≡ size = omega arith in
      let begun = subst (λ (k : ℕ). StartsBlock report (part start k input') c l c') same starts in
      record {
        calls = handed.calls ++ running.calls;
        blocks = running.blocks ++ (part start size input' ∷ []);
        text = running.text ++ lines_joined (lines_of begun.way begun.left begun.right l);
        run = run_block running.run handed e;
        started = Started.a_block running.started begun;
        holds = holds_then (lines_joined (lines_of begun.way begun.left begun.right l)) running.holds
            (to.holds begun.way begun.left begun.right begun.prints);
      }

  -- no more blocks are handed on than may be, and their text is the definition's
  few_blocks : length running.blocks ≤ most_blocks report
  few_blocks = omega (arith, (handed_on running.run).counted)

  done : StartedText report running.blocks running.text c
  done = started_text running.started few_blocks

  -- with the closing lines behind it, it is the library's
  closed_text : (remains : Bool) → (remains ≡ true → length running.blocks ≡ most_blocks report)
      → LibraryText report running.blocks remains (running.text ++ closing_lines (closing_of report c remains))
  closed_text remains all_read =
      record {
        at_most = few_blocks;
        only_after_most = all_read;
        lines = done.lines;
        before = running.text;
        of_blocks = done.of_blocks;
        whole = ap (λ (c : Totals). running.text ++ closing_lines (closing_of report c remains)) done.the_counts;
      }

  module _ (room : HasRoom (length out) at) where
    -- a text was put behind it
    put_behind : {remains : Bool} {out' : List ℕ} {end : ℕ} → Closes report c remains out at end out'
        → PrintedTo (running.text ++ closing_lines (closing_of report c remains)) out' end
    put_behind {remains} closes =
        let more = closing_lines (closing_of report c remains) in
        record {
          inside = omega (arith, closes.within, put-length closes.put);
          holds = holds_put {left = []} (holds_as (sym (append-nil more)) (holds_more more running.holds))
              closes.put (omega (arith, closes.within));
        }

    -- the end
    pub running_ends : {input' out' : List ℕ} {r' : Reader} {n : Next} {p : Result ℕ Stopped}
        → HandsOn input r n r' input' → Finishes report c out at n p out' → LibraryPrinted report p out'
    running_ends last (Finishes.ended put) =
        all (run_end running.run last refl)
        (closed_text false (λ e. absurd (cc e)))
        (put_behind put)
    running_ends last (Finishes.remains put) =
        let limit = run_limit running.run last refl in
        too_long limit (closed_text true (λ e. limit.counted)) (put_behind put)
    running_ends last Finishes.not_read =
        let inside : at ≤ length out = omega arith in
        not_read (run_failure running.run last refl) done.of_blocks
        (record { inside = inside; holds = running.holds })
