-- How far a side has been read: one token more, why there is none, and the end.
use Rattle.std.proofs.Common.{ℕ, suc, ◌+◌, ◌-◌, ◌≤◌, ◌<◌, ◌≡◌, refl, ap, sym, subst, ◌∙◌, Bool, true, false, List, [], ◌∷◌, ◌++◌, append-nil, arith, length, get_or, take, drop, replicate, length-append, length-take, length-drop, drop_of_length-le, length-take-le, take_at, drop_at, drop-drop, Result, Ok, Err, MatchResult, IsErrAnd}
use Rattle.std.proofs.lemmas.List.{drop_more}
use lib.ListN.{length-replicate}
use Rattle.buffer.specs.Put.{Put}
use Rattle.buffer.proofs.Puts.{put-length, put_pasted}
use Rattle.pattern.specs.Word.{Word}
use Rattle.pattern.specs.Side.{before_item, after_item, word, Reads, done, Side}
use Rattle.pattern.specs.Fault.{OfWord, Front, Stuck, empty_side, nothing_follows, not_closed, no_atom, not_written, too_many, SideFault}
use Rattle.pattern.specs.Inner.{Scans, a_word, unwritable, no_word, place_of, Leads, Reached, Goes, goes_on, is_wrong, Finishes, a_side, ReadsSide}
use Rattle.pattern.specs.declared.Fault.{Fault}
use Rattle.pattern.specs.declared.Fault.TheVariants as fault
use Rattle.pattern.specs.declared.word.Word as read
use Rattle.std.proofs.lemmas.Result.{err_from_is_err_and}
use Rattle.pattern.specs.declared.Wrong.{Wrong}
use Rattle.pattern.specs.declared.side.Reading.{Reading}
use Rattle.pattern.proofs.Words.{word_some}
use Rattle.pattern.proofs.Readings.{reads_then, reads_one}

-- the word at the front, where one was found
pub record WordFound (bytes : List ℕ) (w : read.Word) : Type 0 where
  pub token : List ℕ
  pub more : List ℕ
  pub front : Front bytes token more
  pub is_word : Word token (replicate w.times w.atom)
  pub size_is : w.length ≡ length token

pub when_word : {bytes : List ℕ} {s : Result read.Word Fault} {w : read.Word} → Scans bytes s → s ≡ Ok w
    → WordFound bytes w
when_word {bytes} {w = w} (a_word {times = t} {atom = a} {word = token} {more = more} front is) e =
    subst (WordFound bytes) (let same : record { times = t; atom = a; length = length token } ≡ w = cc e in same)
    (record { token = token; more = more; front = front; is_word = is; size_is = refl })
when_word (unwritable front u) e = cc e
when_word (no_word none_is) e = cc e

-- reading is stuck where none was
pub when_wrong : {b depth : ℕ} {more : List ℕ} {s : Result read.Word Fault} {why : Fault} → OfWord b → Scans (b ∷ more) s
    → s ≡ Err why
    → (atoms : List ℕ) → Stuck depth before_item atoms (b ∷ more) why
when_wrong of (a_word front is) e = cc e
when_wrong {why = why} of (unwritable front u) e =
    let same : fault.NotWritten ≡ why = cc e in λ atoms. rw (← same) (not_written front u)
when_wrong {why = why} of (no_word none_is) e =
    let same : fault.NoAtom ≡ why = cc e in λ atoms. rw (← same) (no_atom of none_is)

module _ {bytes atoms : List ℕ} {r : Reading} (reached : Reached bytes r atoms) where
  -- where reading is stuck, a fault is told
  pub stuck_fault : {why : Fault} → Stuck r.depth (place_of r.ended) (take r.count atoms)
      (drop r.at bytes) why
      → SideFault bytes r.at why
  stuck_fault stuck = record {
    depth = r.depth;
    due = place_of r.ended;
    atoms = take r.count atoms;
    rest = drop r.at bytes;
    reads = reached.reads;
    stuck = stuck;
    place_is = omega (arith, length-drop r.at bytes, reached.within);
  }

  module _ (more : r.at < length bytes) where
    -- the byte at the place stands first in what is left
    first_left : drop r.at bytes ≡ get_or bytes r.at 0 ∷ drop (r.at + 1) bytes
    first_left = drop_more bytes r.at 0 more

    -- it is stuck there
    pub byte_fault : {why : Fault}
        → ((a m : List ℕ) → Stuck r.depth (place_of r.ended) a (get_or bytes r.at 0 ∷ m) why)
        → SideFault bytes r.at why
    byte_fault stuck = stuck_fault (rw first_left (stuck _ _))

    -- it leads on
    byte_more : {depth : ℕ} {ended : Bool} → Leads (get_or bytes r.at 0) r.depth r.ended depth ended
        → Reached bytes (record { at = r.at + 1; depth = depth; ended = ended; count = r.count }) atoms
    byte_more {depth} {ended} leads =
        let one : Reads r.depth (place_of r.ended) (drop r.at bytes) [] depth (place_of ended)
        (drop (r.at + 1) bytes) =
        rw first_left (reads_one (leads.token (drop (r.at + 1) bytes))) in
        record {
          reads = rw (append-nil (take r.count atoms)) at (reads_then reached.reads one);
          within = omega arith;
          few_open = omega (arith, leads.one_deeper, reached.few_open);
          few_atoms = reached.few_atoms;
          room = reached.room;
        }

    pub byte_goes : {depth : ℕ} {ended : Bool} → Leads (get_or bytes r.at 0) r.depth r.ended depth ended
        → Goes bytes r.at (Ok (record { at = r.at + 1; depth = depth; ended = ended; count = r.count })) atoms
    byte_goes leads = goes_on (let on : r.at < r.at + 1 = omega arith in on) (byte_more leads)

    -- no word stands there
    pub word_fault : {s : Result read.Word Fault} {why : Fault} → r.ended ≡ false → OfWord (get_or bytes r.at 0)
        → Scans (drop r.at bytes) s → s ≡ Err why → SideFault bytes r.at why
    word_fault before of scans e =
        stuck_fault (rw (before, first_left) (when_wrong of (rw first_left at scans) e (take r.count atoms)))

    module _ {w : read.Word} (found : WordFound (drop r.at bytes) w)
        (before : r.ended ≡ false) where
      -- an item must come here
      due : place_of r.ended ≡ before_item
      due = ap place_of before

      -- its bytes are among those left
      pub word_within : r.at + w.length ≤ length bytes
      word_within =
          omega (
            arith,
            length-drop r.at bytes,
            ap length found.front.splits,
            length-append found.token found.more,
            found.size_is,
          )

      -- the word stands for too many atoms
      pub word_too_many : 64 - r.count < w.times → SideFault bytes r.at fault.TooManyAtoms
      word_too_many many =
          let over : 64 < length (take r.count atoms) + length (replicate w.times w.atom) =
          omega (
            arith,
            length-replicate w.times w.atom,
            length-take-le r.count atoms (omega (arith, reached.few_atoms, reached.room)),
            reached.few_atoms,
          ) in
          stuck_fault (rw due (too_many found.front found.is_word over))

      -- what is left behind it
      left_behind : drop (r.at + w.length) bytes ≡ found.more
      left_behind =
          sym (drop-drop w.length r.at bytes) ∙ ap (drop w.length) found.front.splits
          ∙ drop_at found.token found.more w.length (sym found.size_is)

      module _ {after : List ℕ} {end : ℕ} (put : Put atoms r.count (replicate w.times w.atom) end after)
          (few : r.count + w.times ≤ 64)
        where
          -- the atoms so far, and the word's
          atoms_so_far : take (r.count + w.times) after ≡ take r.count atoms ++ replicate w.times w.atom
          atoms_so_far =
              let many = length-replicate w.times w.atom in
              let front = length-take-le r.count atoms (omega (arith, reached.few_atoms, reached.room)) in
              ap (take (r.count + w.times))
              (put_pasted put (omega (arith, many, reached.room)))
              ∙ take_at (take r.count atoms ++ replicate w.times w.atom)
              (drop (r.count + length (replicate w.times w.atom)) atoms)
              (r.count + w.times)
              (length-append (take r.count atoms) (replicate w.times w.atom) ∙ cc (front, many))

          word_more : Reached bytes
              (record { at = r.at + w.length; depth = r.depth; ended = true; count = r.count + w.times }) after
          word_more =
              let one : Reads r.depth (place_of r.ended) (drop r.at bytes) (replicate w.times w.atom)
              r.depth after_item
              (drop (r.at + w.length) bytes) =
              rw (found.front.splits, due, left_behind) (reads_one (word found.is_word found.front.stops)) in
              record {
                reads = rw atoms_so_far (reads_then reached.reads one);
                within = word_within;
                few_open = omega (arith, reached.few_open);
                few_atoms = few;
                room = put-length put ∙ reached.room;
              }

          pub word_goes : Goes bytes r.at
              (Ok (record { at = r.at + w.length; depth = r.depth; ended = true; count = end })) after
          word_goes =
              let on : r.at < r.at + w.length = omega (arith, found.size_is, word_some found.is_word) in
              let all : end ≡ r.count + w.times = omega (arith, put.place, length-replicate w.times w.atom) in
              rw all (goes_on on word_more)

  module _ (all : length bytes ≤ r.at) where
    -- nothing is left
    nothing_left : drop r.at bytes ≡ []
    nothing_left = drop_of_length-le bytes all

    -- an item is missing: in a side of blanks alone, or after something
    pub empty_fault : r.ended ≡ false → (r.depth ≡ 0) × (r.count ≡ 0) → SideFault bytes r.at fault.EmptySide
    empty_fault before none_read = stuck_fault (rw (before, none_read.0, none_read.1, nothing_left) empty_side)

    pub item_fault : r.ended ≡ false → 0 < r.depth + r.count → SideFault bytes r.at fault.ItemMissing
    item_fault before some_read =
        let some : 0 < r.depth + length (take r.count atoms) =
        omega (arith, some_read, length-take-le r.count atoms (omega (arith, reached.few_atoms, reached.room))) in
        stuck_fault (rw (before, nothing_left) (nothing_follows some))

    -- a bracket is open
    pub open_fault : r.ended ≡ true → 0 < r.depth → SideFault bytes r.at fault.NotClosed
    open_fault after some =
        let deep : r.depth ≡ suc (r.depth - 1) = omega arith in
        stuck_fault (rw (after, deep, nothing_left) not_closed)

    -- or the side is read
    whole_side : r.ended ≡ true → r.depth ≡ 0 → Side bytes (take r.count atoms)
    whole_side after none_open = record {
      sum = rw (after, none_open, nothing_left) at reached.reads;
      at_most = omega (arith, length-take r.count atoms, reached.few_atoms);
    }

    pub side_read : r.ended ≡ true → r.depth ≡ 0 → Finishes bytes r.at (Ok r.count) atoms
    side_read after none_open =
        let has_room : r.count ≤ length atoms = omega (arith, reached.few_atoms, reached.room) in
        a_side has_room (whole_side after none_open)

-- nothing was read yet
pub nothing_read : (bytes : List ℕ) {atoms : List ℕ} → length atoms ≡ 64
    → Reached bytes (record { at = 0; depth = 0; ended = false; count = 0 }) atoms
nothing_read bytes room = record {
  reads = done;
  within = omega arith;
  few_open = omega arith;
  few_atoms = omega arith;
  room = room;
}

-- where a step leads
pub when_on : {bytes atoms : List ℕ} {from : ℕ} {s : Result Reading Fault} {r : Reading} → Goes bytes from s atoms → s ≡ Ok r
    → (from < r.at) × Reached bytes r atoms
when_on {bytes} {atoms} {from} {r = r} (goes_on {r = r'} on reached) e =
    let same : r' ≡ r = cc e in
    (subst (λ x. from < x.at) same on, subst (λ x. Reached bytes x atoms) same reached)
when_on (is_wrong fault) e = cc e

-- a side is wrong where no step goes on, at a column
pub step_fails : {bytes atoms : List ℕ} {start from : ℕ} (r : Result Reading Fault) {m : Result Reading Wrong}
    (P : Fault → Wrong → Type 0) {w : Wrong} → MatchResult r (λ y. m ≡ Ok y) (λ e. IsErrAnd m (P e))
    → ((why : Fault) (w : Wrong) → P why w → w ≡ record { column = start + from + 1; why = why })
    → m ≡ Err w → Goes bytes from r atoms → ReadsSide bytes start (Err w) atoms
step_fails _ P known told e (goes_on on reached) = cc (e, known)
step_fails _ {m} P {w} known told e (is_wrong fault) =
    let p = err_from_is_err_and m known in
    let same : w ≡ p.0 = cc (e, p.1) in
    rw (same, told _ _ p.2) (ReadsSide.is_wrong fault)

-- what a side is that was read to its end
pub read_to_end : {bytes atoms : List ℕ} {start end : ℕ} (r : Result ℕ Fault) {m : Result ℕ Wrong}
    (P : Fault → Wrong → Type 0) → MatchResult r (λ y. m ≡ Ok y) (λ e. IsErrAnd m (P e))
    → ((why : Fault) (w : Wrong) → P why w → w ≡ record { column = start + end + 1; why = why })
    → Finishes bytes end r atoms → ReadsSide bytes start m atoms
read_to_end _ P known told (Finishes.a_side within is) = rw known (ReadsSide.a_side within is)
read_to_end _ {m} P known told (Finishes.is_wrong fault) =
    let p = err_from_is_err_and m known in rw (p.1, told _ _ p.2) (ReadsSide.is_wrong fault)
