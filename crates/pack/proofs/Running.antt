-- The run of the program: pieces of the input come one after the other, and the lines of what came are packed.
use Rattle.std.proofs.Common.{◌≡◌, ℕ, ◌+◌, ◌-◌, ◌≤◌, List, [], ◌∷◌, ◌++◌, length, take, drop, sym, refl, ap, ◌∙◌, subst, append_assoc, append-nil, arith, drop_of_length-le, ℤ, Result, Ok, Err, MatchResult, IsErrAnd}
use Rattle.library.specs.Reading.{opened, part}
use Rattle.library.specs.Library.{Call, came, blocks_of, all_bytes, HandsOn, Run}
use Rattle.library.specs.declared.Reader.{Reader}
use Rattle.library.specs.declared.Next.{Next}
use Rattle.library.specs.declared.Next.TheVariants as next
use Rattle.library.proofs.Blocks.{blocks_joined}
use Rattle.library.proofs.Handed.{handed_on}
use Rattle.library.proofs.Following.{run_block, run_end}
use Rattle.output.proofs.Held.{holds_nothing}
use Rattle.pattern.specs.Characters.{none}
use Rattle.pack.specs.Cut.{no_line}
use Rattle.pack.specs.Packing.{most_pieces, LinesPacked, nothing_packed, Far, LineGoes, PieceGoes, goes_on, not_written, Finishes, PackedTo, all, not_read}
use Rattle.std.proofs.lemmas.Result.{err_from_is_err_and}
use Rattle.pack.specs.Held.{Holds}
use Rattle.pack.specs.declared.cut.Line.{Line}
use Rattle.pack.specs.declared.Stopped.{Stopped}
use Rattle.pack.specs.declared.Stopped.TheVariants as stopped
use Rattle.pack.specs.declared.packing.Packing.{Packing}
use Rattle.pack.proofs.Going.{packed_more}

-- some pieces came, and packing has gone so far
pub record Running (input : List ℕ) (r : Reader) (l : Line) (p : Packing) (out : List ℕ) : Type 0 where
  pub calls : List Call
  pub pieces : List (List ℕ)
  pub run : Run most_pieces calls pieces r input
  pub far : Far (all_bytes pieces) l p out

-- nothing came yet
pub running_start : {input out : List ℕ} {r : Reader} {l : Line} {p : Packing} → 512 ≤ length input
    → r ≡ opened most_pieces → Holds l [] → p ≡ nothing_packed → Running input r l p out
running_start {out = out} room unread empty begin =
    rw (unread, begin) (record {
      calls = [];
      pieces = [];
      run = Run.start room;
      far =
          record {
            lines = [];
            last = [];
            blocks = [];
            cut = no_line none;
            holds = empty;
            packed = LinesPacked.none;
            numbered = refl;
            stands = holds_nothing out;
          };
    })

-- the bytes of one piece more
bytes_more : (pieces : List (List ℕ)) (piece : List ℕ) → all_bytes (pieces ++ (piece ∷ [])) ≡ all_bytes pieces ++ piece
bytes_more [] piece = append-nil piece
bytes_more (first ∷ pieces) piece =
    ap (λ (l : List ℕ). first ++ l) (bytes_more pieces piece) ∙ sym (append_assoc first (all_bytes pieces) piece)

-- a piece as it is lent
pub lent_piece : (start size : ℕ) (input : List ℕ)
    → take (start + size - start) (drop start input) ≡ part start size input
lent_piece start size input =
    ap (λ (n : ℕ). take n (drop start input)) (let e : start + size - start ≡ size = omega arith in e)

-- where packing goes on after a piece
pub record PieceOn (bytes : List ℕ) (l : Line) (p : Packing) (out : List ℕ) (q : Packing) (l' : Line) (out' : List ℕ)
    : Type 0 where
  pub inside : q.at ≤ length out
  pub far : (before : List ℕ) → Far before l p out → Far (before ++ bytes) l' q out'

pub when_on : {bytes out out' : List ℕ} {l l' : Line} {p q : Packing} {r : Result Packing ℤ}
    → PieceGoes bytes l p out r l' out' → r ≡ Ok q → PieceOn bytes l p out q l' out'
when_on {bytes} {out} {out'} {l} {l'} {p} {q} (goes_on {p' = p'} inside far) e =
    subst (λ x. PieceOn bytes l p out x l' out') (let same : p' ≡ q = cc e in same)
    (record { inside = inside; far = far })
when_on not_written e = cc e

module _ {input after out : List ℕ} {l : Line} {r r' : Reader} {p : Packing} {n : Next}
    (running : Running input r l p out) (h : HandsOn input r n r' after) where
  -- a piece came, and its lines were packed
  pub running_piece : {start size : ℕ} {q : Packing} {l' : Line} {out' : List ℕ} → n ≡ next.Block start size
      → PieceOn (part start size after) l p out q l' out' → Running after r' l' q out'
  running_piece {start} {size} {q} {l'} {out'} e on =
      record {
        calls = h.calls ++ running.calls;
        pieces = running.pieces ++ (part start size after ∷ []);
        run = run_block running.run h e;
        far = rw (bytes_more running.pieces (part start size after))
            (on.far (all_bytes running.pieces) running.far);
      }

  -- at the end all that came was packed
  all_came : n ≡ next.End → all_bytes running.pieces ≡ came (h.calls ++ running.calls)
  all_came e =
      let over = run_end running.run h e in
      let bytes = came (h.calls ++ running.calls) in
      ap all_bytes over.all
      ∙ sym (append-nil (all_bytes (blocks_of most_pieces bytes)))
      ∙ ap (λ (l : List ℕ). all_bytes (blocks_of most_pieces bytes) ++ l) (sym (drop_of_length-le bytes over.no_more))
      ∙ blocks_joined most_pieces bytes

  pub running_ends : {out' : List ℕ} {r : Result Packing Stopped} → p.at ≤ length out → length out' ≡ length out
      → Finishes n l p out r out' → PackedTo out' r
  running_ends {out'} inside same (Finishes.at_end {p' = q} e within done) =
      let far = running.far in
      let d = done far.last far.holds in
      let within' : q.at ≤ length out' = omega (arith, within, same) in
      all (run_end running.run h e).ended (rw (all_came e) at far.cut) (packed_more far.packed d)
      within' (d.put far.blocks far.stands)
  running_ends inside same Finishes.failed =
      let far = running.far in
      not_read running.calls _ (sym (handed_on running.run).none_lost) far.cut far.packed inside
      far.stands
  running_ends inside same Finishes.not_written = PackedTo.not_written

-- the last line was packed
pub last_packed : {n : Next} {l : Line} {p : Packing} {out out' : List ℕ} (r : Result Packing ℤ)
    {m : Result Packing Stopped} (P : ℤ → Stopped → Type 0) → MatchResult r (λ q. m ≡ Ok q) (λ e. IsErrAnd m (P e))
    → ((e : ℤ) (s : Stopped) → P e s → s ≡ stopped.Unwritten e) → n ≡ next.End → LineGoes l p out r out'
    → Finishes n l p out m out'
last_packed _ P known told is (LineGoes.goes_on within done) = rw known (Finishes.at_end is within done)
last_packed _ {m} P known told is LineGoes.not_written =
    let failed = err_from_is_err_and m known in rw (failed.1, told _ _ failed.2) Finishes.not_written

-- a write failed
pub write_failed : {out : List ℕ} (r : Result Packing ℤ) {m : Result Packing Stopped} (P : ℤ → Stopped → Type 0)
    {s : Stopped} → MatchResult r (λ q. m ≡ Ok q) (λ e. IsErrAnd m (P e))
    → ((e : ℤ) (s : Stopped) → P e s → s ≡ stopped.Unwritten e) → m ≡ Err s → PackedTo out (Err s)
write_failed (Ok q) P known told is = cc (is, known)
write_failed (Err e) {m} P {s} known told is =
    let failed = err_from_is_err_and m known in
    let same : s ≡ failed.0 = cc (is, failed.1) in
    rw (same, told _ _ failed.2) PackedTo.not_written
