-- A library's blocks are handed on in order, none lost and none twice, however the calls of read cut the
-- input; and what is told at the end is so. Of the contracts alone: of any run of calls, whatever they
-- answer, and of blocks.
use Rattle.std.proofs.Common.{ℕ, suc, ◌+◌, ◌*◌, ◌-◌, ◌<◌, ◌≤◌, arith, ◌≡◌, refl, ap, ap₂, sym, subst, ◌∙◌, ◌⊎◌, inl, inr, List, [], ◌∷◌, ◌++◌, length, take, drop, length-append, length-drop, drop_of_length-le, take-add, take-take, take_all, drop_at, drop-drop, length-take-le, ℤ}
use lib.Seq.{drop-append-le}
use Rattle.library.specs.Reading.{patience, part, waits, waiting, handed, ReaderFits, Comes}
use Rattle.library.specs.Library.{blocks_of, all_bytes, Call, came, brought, Going, Reads, Run}
use Rattle.library.specs.Library.{HandedOn, AtEnd, AtLimit, AtFailure}
use Rattle.library.specs.declared.Reader.{Reader}
use Rattle.library.specs.declared.Input.{Input}
use Rattle.library.specs.declared.Input.TheVariants as input
use Rattle.library.specs.declared.Next.TheVariants as next
use Rattle.library.proofs.Coming.{wanted_most, comes_more}
use Rattle.library.proofs.Calling.{waiting-length, read_waiting, read_left}
use Rattle.library.proofs.Blocks.{blocks_more, blocks_next, blocks_all, blocks_joined}
use Rattle.library.proofs.Said.{Told, told_takes, goes_on, ended_by, failed_by}

-- What is kept all along a run: the first fields of `HandedOn`; that no short block was handed on before the
-- input had ended; and what the calls say of the input.
record Holds (most : ℕ) (calls : List Call) (blocks : List (List ℕ)) (r : Reader) (buffer : List ℕ) : Type 0 where
  pub fits : ReaderFits buffer r
  pub counted : length blocks + r.left ≡ most
  pub in_order : blocks ≡ blocks_of (length blocks) (came calls)
  pub rest : waiting buffer r ≡ drop (512 * length blocks) (came calls)
  pub whole : (512 * length blocks ≤ length (came calls)) ⊎ (r.input ≡ input.Ended)
  pub told : Told r.input r.retries calls

-- as long as the input has not ended, only whole blocks were handed on
whole_before : {n k : ℕ} {said : Input} → (n ≤ k) ⊎ (said ≡ input.Ended) → (said ≡ input.Ended → ⊥) → n ≤ k
whole_before (inl h) goes_on = h
whole_before (inr over) goes_on = absurd (goes_on over)

-- A call where a read is wanted: what it brought comes behind what came before.
module _ {most : ℕ} {calls : List Call} {blocks : List (List ℕ)} {r r' : Reader} {buffer after : List ℕ} {c : Call}
    (h : Holds most calls blocks r buffer) (a : Reads buffer r c r' after) (still : r.input ≡ input.More)
    (few : waits r < 512) where
  enough : 512 * length blocks ≤ length (came calls)
  enough = whole_before h.whole (λ over. cc (over, still))

  lent : 0 < length c.room
  lent =
      omega (
        arith,
        a.same_length,
        ap length a.behind,
        length-append (waiting buffer r) c.room,
        waiting-length h.fits,
        h.fits.room,
      )

  holds_call : Holds most (c ∷ calls) blocks r' after
  holds_call =
      let left = read_left h.fits a in
      let g = goes_on h.told still in
      record {
        fits = left.fits;
        counted = omega (arith, left.same_left, h.counted);
        in_order =
            h.in_order ∙ sym (blocks_more (length blocks) (came calls) (brought c.answered c.room) enough);
        rest =
            read_waiting h.fits a
            ∙ ap (λ (l : List ℕ). l ++ brought c.answered c.room) h.rest
            ∙ sym (drop-append-le (512 * length blocks) (came calls) (brought c.answered c.room) enough);
        whole = inl (omega (arith, length-append (came calls) (brought c.answered c.room), enough));
        told = told_takes r c g.going g.budget still lent a.takes;
      }

-- the bytes that wait are the next ones, and those that wait behind them
wait_behind : (buffer : List ℕ) (r : Reader) (size : ℕ) → r.at + size ≤ r.filled →
    waiting buffer r ≡ part r.at size buffer ++ waiting buffer (handed size r)
wait_behind buffer r size h =
    ap (λ (k : ℕ). take k (drop r.at buffer))
    (let e : waits r ≡ size + waits (handed size r) = omega arith in e)
    ∙ take-add size (waits (handed size r)) (drop r.at buffer)
    ∙ ap (λ (l : List ℕ). part r.at size buffer ++ take (waits (handed size r)) l)
    (drop-drop size r.at buffer)

-- A block is handed on: the next 512 of what came, or as many as are left.
module _ {most : ℕ} {calls : List Call} {blocks : List (List ℕ)} {r : Reader} {buffer : List ℕ}
    (h : Holds most calls blocks r buffer) where
  -- how much of what came waits
  came_length : length (came calls) - 512 * length blocks ≡ waits r
  came_length =
      sym (length-drop (512 * length blocks) (came calls)) ∙ sym (ap length h.rest) ∙ waiting-length h.fits

  one_more : (block : List ℕ) → length (blocks ++ (block ∷ [])) ≡ suc (length blocks)
  one_more block = omega (arith, length-append blocks (block ∷ []))

  holds_block : (size : ℕ) → 0 < r.left → r.at + size ≤ r.filled → 0 < waits r →
      part r.at size buffer ≡ take 512 (waiting buffer r) →
      waiting buffer (handed size r) ≡ drop 512 (waiting buffer r) →
      (512 * suc (length blocks) ≤ length (came calls)) ⊎ (r.input ≡ input.Ended) →
      Holds most calls (blocks ++ (part r.at size buffer ∷ [])) (handed size r) buffer
  holds_block size may within some first behind whole =
      let block = part r.at size buffer in
      record {
        fits = record { ordered = within; within = h.fits.within; room = h.fits.room };
        counted = omega (arith, one_more block, h.counted);
        in_order =
            ap₂ {C = List (List ℕ)} (λ l b. l ++ (b ∷ [])) h.in_order (first ∙ ap (take 512) h.rest)
            ∙ sym (blocks_next (length blocks) (came calls) (omega (arith, came_length)))
            ∙ ap (λ (k : ℕ). blocks_of k (came calls)) (sym (one_more block));
        rest =
            behind
            ∙ ap (drop 512) h.rest
            ∙ drop-drop 512 (512 * length blocks) (came calls)
            ∙ ap (λ (k : ℕ). drop k (came calls))
            (let e : 512 * length blocks + 512 ≡ 512 * length (blocks ++ (block ∷ [])) =
            omega (arith, one_more block) in e);
        whole =
            subst (λ (k : ℕ). (512 * k ≤ length (came calls)) ⊎ (r.input ≡ input.Ended)) (sym (one_more block))
            whole;
        told = h.told;
      }

  -- a whole one
  holds_whole : 0 < r.left → 512 ≤ waits r →
      Holds most calls (blocks ++ (part r.at 512 buffer ∷ [])) (handed 512 r) buffer
  holds_whole may many =
      let within : r.at + 512 ≤ r.filled = omega arith in
      let size : length (part r.at 512 buffer) ≡ 512 =
      length-take-le 512 (drop r.at buffer) (omega (arith, length-drop r.at buffer, h.fits.within)) in
      holds_block 512 may within (omega arith) (sym (take-take 512 (waits r) (drop r.at buffer) many))
      (sym (ap (drop 512) (wait_behind buffer r 512 within)
      ∙ drop_at (part r.at 512 buffer) (waiting buffer (handed 512 r)) 512 size))
      (inl (omega (arith, came_length)))

  -- a short one
  holds_short : 0 < r.left → 0 < waits r → waits r < 512 → r.input ≡ input.Ended →
      Holds most calls (blocks ++ (part r.at (waits r) buffer ∷ [])) (handed (waits r) r) buffer
  holds_short may some few over =
      let size : length (waiting buffer r) ≡ waits r = waiting-length h.fits in
      let none : waits (handed (waits r) r) ≡ 0 = omega (arith, h.fits.ordered) in
      holds_block (waits r) may (omega (arith, h.fits.ordered)) some
      (sym (take_all 512 (waiting buffer r) (omega arith)))
      (ap (λ (k : ℕ). take k (drop (r.at + waits r) buffer)) none
      ∙ sym (drop_of_length-le (waiting buffer r) {i = 512} (omega arith)))
      (inr over)

-- what comes next is handed on
holds_comes : {most : ℕ} {calls : List Call} {blocks : List (List ℕ)} {r r' : Reader} {buffer : List ℕ}
    {start size : ℕ} → Holds most calls blocks r buffer → Comes r (next.Block start size) r' →
    Holds most calls (blocks ++ (part start size buffer ∷ [])) r' buffer
holds_comes h (Comes.a_block may many) = holds_whole h may many
holds_comes h (Comes.a_short_block may some few over) = holds_short h may some few over

holds : {most : ℕ} {calls : List Call} {blocks : List (List ℕ)} {r : Reader} {buffer : List ℕ} →
    Run most calls blocks r buffer → Holds most calls blocks r buffer
holds (Run.start room) =
    record {
      fits = record { ordered = omega arith; within = omega arith; room = room };
      counted = omega arith;
      in_order = refl;
      rest = refl;
      whole = inl (omega arith);
      told = Told.more {retries = patience} {n = 0} Going.none refl;
    }
holds (Run.call {r = r} run comes a) =
    let wants = comes_more comes in
    holds_call (holds run) a wants.1 (omega (arith, wants.0, wanted_most r.left))
holds (Run.block run comes) = holds_comes (holds run) comes

-- The theorems: of a run of any calls and blocks, however the calls cut the input.
module _ {most : ℕ} {calls : List Call} {blocks : List (List ℕ)} {r : Reader} {buffer : List ℕ}
    (run : Run most calls blocks r buffer) where
  -- The blocks handed on are the first ones of all that came, in order, and what waits is the rest.
  pub handed_on : HandedOn most calls blocks r buffer
  handed_on =
      let h = holds run in
      record {
        fits = h.fits;
        counted = h.counted;
        in_order = h.in_order;
        rest = h.rest;
        none_lost =
            ap₂ {C = List ℕ} (λ l w. all_bytes l ++ w) h.in_order h.rest
            ∙ blocks_joined (length blocks) (came calls);
      }

  -- The end is told only after an answer of 0, and when all of the library was handed on.
  pub at_end : {r' : Reader} → Comes r next.End r' → AtEnd most calls blocks
  at_end (Comes.the_end none over) =
      let h = holds run in
      let no_more : length (came calls) ≤ 512 * length blocks = omega (arith, came_length h) in
      record {
        ended = ended_by h.told over;
        all =
            h.in_order
            ∙ sym (blocks_all (length blocks) most (came calls) no_more (omega (arith, h.counted)));
        no_more = omega (arith, h.counted, no_more);
      }

  -- That input remains is told only where all blocks that may be read were handed on, and more came.
  pub at_limit : {r' : Reader} → Comes r next.Remains r' → AtLimit most calls blocks
  at_limit (Comes.remains none_left some) =
      let h = holds run in
      let all_read : length blocks ≡ most = omega (arith, h.counted) in
      let more : 512 * most < length (came calls) = omega (arith, came_length h) in
      record {
        counted = all_read;
        more = more;
        all =
            λ rest.
            h.in_order
            ∙ ap (λ (k : ℕ). blocks_of k (came calls)) all_read
            ∙ sym (blocks_more most (came calls) rest (omega arith));
      }

  -- A failure is told only where a call failed with that error, and one that was interrupted only after a
  -- million.
  pub at_failure : {r' : Reader} {error : ℤ} → Comes r (next.Failed error) r' → AtFailure error calls blocks
  at_failure (Comes.failed few told) =
      let h = holds run in
      record {
        failed = failed_by h.told told;
        in_order = h.in_order;
        whole = whole_before h.whole (λ over. cc (over, told));
        no_other = omega (arith, came_length h, wanted_most r.left);
      }
