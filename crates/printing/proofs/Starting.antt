-- Laws of what is printed of a block: the lines of what its questions return.
use Prim.Native.Nat.{ℕ, ◌%◌, ◌≤◌}
use native.Mathlib.Omega.{arith}
use mathlib.Core.Path.{◌≡◌, refl, sym, ap, subst, ◌∙◌}
use mathlib.Core.Option.{Option as Named}
use mathlib.Core.Option as option
use mathlib.Core.Bool.{Bool, true, false, cond}
use mathlib.Core.List.Memᴰ
use mathlib.Core.List.{List, [], map, Memᴰ}
use lib.ListN.{length, take, drop, replicate, length-append, length-take, take-append-drop}
use lib.Seq.{take-append_seam}
use Rattle.ac.specs.Pair.{Mode, unifying}
use Rattle.ac.specs.Rows.{Groups, GroupsOf}
use Rattle.ac.specs.Keys.{Beginning, start, layout, keys, remaining}
use Rattle.ac.specs.Values.{Binding}
use Rattle.ac.proofs.Groups.{groups_unique}
use Rattle.std.specs.Prelude.{◌==◌, Option, Result, Ok, Err, Some, None, IsSome, IsSomeAnd}
use Rattle.block.specs.declared.Sides.{Sides}
use Rattle.solver.specs.declared.rows.Sizes.{Sizes}
use Rattle.numbers.specs.declared.Refusal.{Refusal}
use Rattle.numbers.specs.Outcome.{Said, Outcome, refused, given, is_given}
use Rattle.solver.specs.Count.{told_count, CountPromise}
use Rattle.solver.specs.Page.{wanted_count, PagePromise, next_keys, PageWritten}
use Rattle.solver.specs.Page as keyed
use Rattle.solver.specs.declared.page.Written.{Written}
use Rattle.pair.specs.Ways.{mode_of}
use Rattle.pair.specs.declared.ways.Way.{Way}
use Rattle.pair.specs.declared.ways.Way.TheVariants.{Unifying}
use Rattle.table.specs.Table.{groups_in}
use Rattle.table.specs.declared.Table.{Table}
use Rattle.tally.specs.Line.{BlockFound, a_list, told_list, told_number, told_block, line_with, line_of}
use Rattle.tally.specs.Counts.{Tallies, counted}
use Rattle.tally.specs.declared.Line.TheVariants.{Listed, NoUnifier, Refused}
use Rattle.tally.specs.declared.Totals.{Totals}
use Rattle.tally.specs.declared.Report.{Report}
use Rattle.tally.specs.declared.Report.TheVariants as asks
use Rattle.tally.specs.declared.Answers.{Answers}
use Rattle.tally.specs.declared.Tallied.{Tallied}
use Rattle.lines.specs.Library.{bindings_of, SidesFound, listed, count_refused, a_count, Returns, read_refused, sides, rows_refused, page_refused, a_page}
use Rattle.printing.specs.Asked.{SolvedPair, PairListed, SidesAsked, BlockAsked}
use Rattle.printing.specs.Printed.{groups_of, key_count, StartsBlock}
use Rattle.printing.specs.declared.ask.Asked.{Asked}
use Rattle.printing.specs.declared.print.Listing.{Listing}

-- a page has at most as many keys as are wanted
page_fits : {M : Mode} {L R : List ℕ} {begin : Beginning} {wanted : ℕ} {out out' : List ℕ} {page : PageWritten} →
    PagePromise M L R begin wanted out (given page) out' → page.written ≤ wanted_count wanted
page_fits {M} {L} {R} {begin} {wanted} (is_given none (keyed.next {G = G} groups)) =
    omega (arith, length-take (wanted_count wanted) (remaining begin (keys M layout L R G)))

-- they stand in its buffer
page_held : {M : Mode} {L R : List ℕ} {begin : Beginning} {wanted : ℕ} {out out' : List ℕ} {page : PageWritten} →
    PagePromise M L R begin wanted out (given page) out' → page.written ≤ length out'
page_held {M} {L} {R} {begin} {wanted} {out} (is_given none (keyed.next {G = G} groups)) =
    let next = next_keys M L R G begin wanted in
    omega (arith, length-append next (drop (length next) out))

-- the keys that Page wrote from the start on are on the list
page-listed : {M : Mode} {L R out out' : List ℕ} {G : Groups} {page : PageWritten} → GroupsOf M L R G →
    PagePromise M L R start 200 out (given page) out' →
    (key : ℕ) → Memᴰ key (take page.written out') → Memᴰ key (keys M layout L R G)
page-listed {M} {L} {R} {out} of (is_given none (keyed.next {G = H} groups)) key m =
    subst (λ K. Memᴰ key (keys M layout L R K)) (groups_unique M L R groups of)
    (subst (Memᴰ key) (take-append-drop 200 list) (Memᴰ.append_left (drop 200 list) on_page))
  where
    list : List ℕ
    list = keys M layout L R H

    on_page : Memᴰ key (take 200 list)
    on_page = subst (Memᴰ key) (take-append_seam (take 200 list) (drop (length (take 200 list)) out)) m

-- under the line of a refusal no keys are printed
no_keys : (atom : Named ℕ) (n : ℕ) → key_count (line_with atom n) ≡ 0
no_keys (option.some atom) n = refl
no_keys option.none n = go (n == 13)
  where
    go : (b : Bool) → key_count (cond b NoUnifier (Refused n None)) ≡ 0
    go true = refl
    go false = refl

module _ {report : Report} {block : List ℕ} {c : Totals} {l : Listing} {after : Totals} (same_place : l.place ≡ c.blocks) where
  -- a block without a page
  starts_alone : (returned : Outcome BlockFound) → Returns report block (c.blocks % 65536) returned []
      → key_count (line_of returned) ≡ 0 → l.line ≡ line_of returned
      → after ≡ counted c (line_of returned) → StartsBlock report block c l after
  starts_alone returned found alone same_line counts =
      let none : key_count l.line ≡ 0 = ap key_count same_line ∙ alone in
      record {
        way = Unifying;
        left = [];
        right = [];
        returned = returned;
        page = [];
        found = found;
        the_lines = cc (same_place, same_line);
        the_counts = counts;
        prints =
            record {
              enough = omega arith;
              solved = λ some. absurd (omega arith);
              listed = λ key m. absurd (Memᴰ.not-nil
                  (subst (λ (k : ℕ). Memᴰ key (take k l.keys)) none m));
            };
        ready = record { few = omega arith; there = λ some. absurd (omega arith) };
      }

  -- a refused one
  starts_refused : (said : Said) → Returns report block (c.blocks % 65536) (refused said) []
      → l.line ≡ line_of (refused said)
      → after ≡ counted c (line_of (refused said)) → StartsBlock report block c l after
  starts_refused said found = starts_alone (refused said) found (no_keys said.atom said.number)

  -- a block with a page
  starts_page : {way : Way} {L R out : List ℕ} {balanced constants written weighed : ℕ} {more : Bool} {table : Table}
      → l.table ≡ Some table → SolvedPair way L R table
      → PagePromise (mode_of way L R) L R start 200 out
      (given (record { written = written; more = more; weighed = weighed })) l.keys
      → Returns report block (c.blocks % 65536)
      (given (a_list (record { balanced = balanced; constants = constants; written = written; more = more })))
      (map (bindings_of way L R (groups_in table)) (take written l.keys))
      → l.line ≡ Listed balanced constants written more
      → after ≡ counted c (Listed balanced constants written more) → StartsBlock report block c l after
  starts_page {way} {L} {R} {written = written} {more = more} there solved promise found same_line counts =
      let count : key_count l.line ≡ written = ap key_count same_line in
      let same_groups = ap groups_of there in
      let same_page = ap (λ (k : ℕ). map (bindings_of way L R (groups_of l.table)) (take k l.keys)) count
      ∙ ap (λ (G : Groups). map (bindings_of way L R G) (take written l.keys)) same_groups in
      record {
        way = way;
        left = L;
        right = R;
        returned = _;
        page = _;
        found = found;
        the_lines = cc (same_place, same_line, same_page);
        the_counts = counts;
        prints =
            record {
              enough = omega (arith, page_held promise);
              solved = λ some. subst (λ t. IsSomeAnd t (SolvedPair way L R)) (sym there) solved;
              listed = λ key m. subst (λ (G : Groups). Memᴰ key (keys (mode_of way L R) layout L R G)) (sym same_groups)
                  (page-listed solved.the_table.the_groups promise key
                  (subst (λ (k : ℕ). Memᴰ key (take k l.keys)) count m));
            };
        ready =
            record {
              few = omega (arith, page_fits promise);
              there = λ some. subst IsSome (sym there) refl;
            };
      }

-- What was asked of a block and tallied is printed.

-- what is printed, from what was tallied, the keys and the table
abbrev printed : Tallied → List ℕ → Option Table → Listing
printed t keys table = record { place = t.place; line = t.line; table = table; keys = keys }

-- what is found of two sides is found of the block
abbrev FoundOf : Report → List ℕ → ℕ → List ℕ → List ℕ → Type 0
FoundOf report block number L R =
    (r : Outcome BlockFound) (p : List (List Binding)) → SidesFound L R report r p → Returns report block number r p

module _ {block keys : List ℕ} {c : Totals} {t : Tallied} where
  list_starts : {way : Way} {L R : List ℕ} (rows : Result Sizes Refusal) (page : Result Written Refusal) (table : Option Table)
      → FoundOf (asks.Listing way) block (c.blocks % 65536) L R → PairListed way L R (replicate 200 0) rows page table keys
      → Tallies c (told_list rows page) t → StartsBlock (asks.Listing way) block c (printed t keys table) t.counts
  list_starts (Err why) page table found asked tallied =
      starts_refused tallied.the_place _ (found _ _ (listed (rows_refused asked.rows_promise)))
      tallied.the_line tallied.the_counts
  list_starts (Ok sizes) (Err why) table found asked tallied =
      starts_refused tallied.the_place _
      (found _ _ (listed (page_refused asked.rows_promise asked.page_promise)))
      tallied.the_line tallied.the_counts
  list_starts (Ok sizes) (Ok page) (Some table) found asked tallied =
      let solved = asked.solved refl in
      starts_page tallied.the_place refl solved asked.page_promise
      (found _ _ (listed (a_page asked.rows_promise asked.page_promise solved.the_table.the_groups)))
      tallied.the_line tallied.the_counts
  list_starts (Ok sizes) (Ok page) None found asked tallied = absurd (asked.solved refl)

  count_starts : {L R : List ℕ} (count : Result ℕ Refusal) (table : Option Table)
      → FoundOf asks.Census block (c.blocks % 65536) L R
      → CountPromise unifying L R (told_count count) → Tallies c (told_number count) t
      → StartsBlock asks.Census block c (printed t keys table) t.counts
  count_starts (Err why) table found promise tallied =
      starts_refused tallied.the_place _ (found _ _ (count_refused promise)) tallied.the_line tallied.the_counts
  count_starts (Ok unifiers) table found promise tallied =
      starts_alone tallied.the_place _ (found _ _ (a_count promise)) refl tallied.the_line tallied.the_counts

  sides_start : {report : Report} {L R : List ℕ} {a : Answers} {table : Option Table} (lengths : Sides) → FoundOf report block (c.blocks % 65536) L R
      → SidesAsked L R (replicate 200 0) report a table keys → Tallies c (told_block (Ok lengths) a) t
      → StartsBlock report block c (printed t keys table) t.counts
  sides_start lengths found (SidesAsked.listing {rows = rows} {page = page} {table = table} asked) tallied =
      list_starts rows page table found asked tallied
  sides_start lengths found (SidesAsked.census {count = count} {table = table} promise) tallied =
      count_starts count table found promise tallied

  pub starts : {report : Report} {number : ℕ} (a : Asked) → number ≡ c.blocks % 65536
      → BlockAsked report block number (replicate 200 0) a keys → Tallies c (told_block a.read a.answers) t
      → StartsBlock report block c (printed t keys a.table) t.counts
  starts {report} {number} a same_number asked tallied = go a.read a.answers a.table asked tallied
    where
      numbered : {r : Outcome BlockFound} {p : List (List Binding)} → Returns report block number r p
          → Returns report block (c.blocks % 65536) r p
      numbered {r} {p} found = subst (λ k. Returns report block k r p) same_number found

      go : (read : Result Sides Refusal) (its : Answers) (table : Option Table)
          → BlockAsked report block number (replicate 200 0) (record { read = read; answers = its; table = table }) keys
          → Tallies c (told_block read its) t → StartsBlock report block c (printed t keys table) t.counts
      go (Err why) its table asked tallied =
          starts_refused tallied.the_place _ (numbered (read_refused asked.read_promise))
          tallied.the_line tallied.the_counts
      go (Ok lengths) its table asked tallied =
          sides_start lengths (λ r p found. numbered (sides asked.read_promise found)) asked.pair.sides tallied
