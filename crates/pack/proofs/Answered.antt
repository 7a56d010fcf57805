-- A line that has ended is packed: what its answer says, and what is told of it.
use Rattle.std.proofs.Common.{◌≡◌, ℕ, ◌<◌, ◌≤◌, Bool, true, false, ◌||◌, List, [], length, take, drop, refl, subst, append-nil, ℤ, Option, Some, None, Result, Ok, Err}
use lib.Seq.{take-append_seam}
use Rattle.pattern.specs.Line.{PairLine, SaysNothing}
use Rattle.pattern.specs.Fault.{LineFault}
use Rattle.pattern.specs.Answer.{LineSays}
use Rattle.block.specs.declared.Sides.{Sides}
use Rattle.pattern.specs.declared.Wrong.{Wrong}
use Rattle.ac.specs.Lists.{receives}
use Rattle.pack.specs.Cut.{most_bytes}
use Rattle.pack.specs.Held.{Holds}
use Rattle.pack.specs.Packing.{LinePacked, after_line, after_wrong, Behind, PairGoes, LineGoes, goes_on}
use Rattle.pack.specs.declared.packing.Packing.{Packing}
use Rattle.pack.specs.declared.cut.Line.{Line}
use Rattle.pack.proofs.Accepts.{never_refused}

-- whether a line was wrong so far
or_wrong : (b : Bool) → true ≡ (b || true)
or_wrong true = refl
or_wrong false = refl

or_good : (b : Bool) → b ≡ (b || false)
or_good true = refl
or_good false = refl

-- nothing is put
nothing_put : (out : List ℕ) (at : ℕ) → Behind out at [] at out
nothing_put out at text held = rw (append-nil text) held

-- what an answer tells
when_nothing : {line left right left' right' : List ℕ} {a : Result (Option Sides) Wrong}
    → LineSays line left right a left' right' → a ≡ Ok None → SaysNothing line
when_nothing (LineSays.a_pair p) e = cc e
when_nothing (LineSays.nothing n) e = n
when_nothing (LineSays.wrong f none_is some low high) e = cc e

when_wrong : {line left right left' right' : List ℕ} {a : Result (Option Sides) Wrong} {w : Wrong}
    → LineSays line left right a left' right' → a ≡ Err w → LineFault line w.column w.why
when_wrong (LineSays.a_pair p) e = cc e
when_wrong (LineSays.nothing n) e = cc e
when_wrong {line} {w = w} (LineSays.wrong {column = c} {why = y} f none_is some low high) e =
    let same : record { column = c; why = y } ≡ w = cc e in
    subst (λ (x : Wrong). LineFault line x.column x.why) same f

-- the sides stand at the front of the buffers
pub when_pair : {line left right left' right' : List ℕ} {a : Result (Option Sides) Wrong} {s : Sides}
    → LineSays line left right a left' right'
    → a ≡ Ok (Some s) → PairLine line (take s.left left') (take s.right right')
when_pair {line} {left} {right} {s = s} (LineSays.a_pair {L} {R} p) e =
    let same : record { left = length L; right = length R } ≡ s = cc e in
    subst (λ (x : Sides). PairLine line (take x.left (receives left L)) (take x.right (receives right R))) same
    (rw (take-append_seam L (drop (length L) left), take-append_seam R (drop (length R) right)) p)
when_pair (LineSays.nothing n) e = cc e
when_pair (LineSays.wrong f none_is some low high) e = cc e

module _ {l : Line} {out : List ℕ} {p : Packing} (inside : p.at ≤ length out) where
  -- a line that is too long
  pub long_goes : {r : Packing} → ((line : List ℕ) → Holds l line → most_bytes < length line) → r ≡ after_wrong p
      → LineGoes l p out (Ok r) out
  long_goes long after =
      rw after (goes_on inside (λ line holds.
      record {
        block = [];
        wrong = true;
        packed = LinePacked.too_long (long line holds);
        told = or_wrong p.wrong;
        counted = refl;
        put = nothing_put out p.at;
      }))

  module _ {bytes left right left' right' : List ℕ} {a : Result (Option Sides) Wrong}
      (held : (line : List ℕ) → Holds l line → (bytes ≡ line) × (length line ≤ most_bytes))
      (read : LineSays bytes left right a left' right') where
    -- one that says nothing
    pub nothing_goes : {r : Packing} → a ≡ Ok None → r ≡ after_line p → LineGoes l p out (Ok r) out
    nothing_goes is after =
        rw after (goes_on inside (λ line holds.
        let known = held line holds in
        record {
          block = [];
          wrong = false;
          packed = LinePacked.no_block known.1 (subst SaysNothing known.0 (when_nothing read is));
          told = or_good p.wrong;
          counted = refl;
          put = nothing_put out p.at;
        }))

    -- one that is wrong
    pub wrong_goes : {w : Wrong} {r : Packing} → a ≡ Err w → r ≡ after_wrong p → LineGoes l p out (Ok r) out
    wrong_goes {w} is after =
        rw after (goes_on inside (λ line holds.
        let known = held line holds in
        record {
          block = [];
          wrong = true;
          packed = LinePacked.is_wrong known.1 (subst (λ l. LineFault l w.column w.why) known.0 (when_wrong read is));
          told = or_wrong p.wrong;
          counted = refl;
          put = nothing_put out p.at;
        }))

    -- and a pair
    pub pair_goes : {s : Sides} {r : Result Packing ℤ} {out' : List ℕ} → a ≡ Ok (Some s)
        → PairGoes (take s.left left') (take s.right right') p out r out' → LineGoes l p out r out'
    pair_goes {s} is (PairGoes.made block within put) =
        goes_on within (λ line holds.
        let known = held line holds in
        record {
          block = _;
          wrong = false;
          packed = LinePacked.a_block known.1
              (subst (λ l. PairLine l (take s.left left') (take s.right right')) known.0 (when_pair read is)) block;
          told = or_good p.wrong;
          counted = refl;
          put = put;
        })
    pair_goes is (PairGoes.refused refuses within put) = absurd (never_refused (when_pair read is) refuses)
    pair_goes is PairGoes.not_written = LineGoes.not_written
