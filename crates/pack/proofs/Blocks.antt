-- The block of a pair, put behind the others.
use Rattle.std.proofs.Common.{◌≡◌, ℕ, ◌+◌, ◌-◌, ◌≤◌, List, [], ◌++◌, length, take, drop, sym, ap, ◌∙◌, subst, append_assoc, append-nil, arith, length-append, length-drop, length-take, length-take-le, take_at, ℤ, Result, Ok, Err}
use borrow.Rule.Slice.PartMut.{put_mid, post_of, take_put}
use lib.Seq.{drop-length}
use Rattle.numbers.specs.Numbers.{said_of}
use Rattle.numbers.specs.Outcome as outcome
use Rattle.numbers.specs.declared.Refusal.{Refusal}
use Rattle.numbers.proofs.Promises.{given_none, given_gives, refused_unchanged}
use Rattle.writing.specs.Written.{block_of}
use Rattle.writing.specs.Write.{WriteGives, written, told_write, WritePromise}
use Rattle.writing.proofs.Accepted.{accepted}
use Rattle.writing.proofs.Sides.{block_length}
use Rattle.output.specs.Room.{MakesRoom}
use Rattle.output.proofs.Held.{roomy, holds_room}
use Rattle.pack.specs.Packing.{after_wrong, after_block, placed_at, Behind, WriteRefuses, PairGoes, made, refused}
use Rattle.pack.specs.declared.packing.Packing.{Packing}

-- a lent buffer of 512 bytes receives the block and nothing else
received : {left right lent : List ℕ} {number : ℕ} {block : List ℕ} {nothing : Unit {0}} → length lent ≡ length (block_of number left right)
    → WriteGives left right number lent nothing block → block ≡ block_of number left right
received {left} {right} {lent} {number = number} size written =
    ap (λ (n : ℕ). block_of number left right ++ drop n lent) (sym size)
    ∙ ap (λ (l : List ℕ). block_of number left right ++ l) (drop-length lent)
    ∙ append-nil (block_of number left right)

-- what Write wrote into it is the block of the sides, ..
written_block : {left right lent block : List ℕ} {number : ℕ} → length lent ≡ 512
    → WritePromise left right number lent (told_write (Ok tt)) block → block ≡ block_of number left right
written_block {number = number} whole given =
    received (whole ∙ sym (block_length (accepted (given_none given)).within number)) (given_gives given)

-- .. or it refused them
refused_pair : {left right lent block : List ℕ} {number : ℕ} (why : Refusal) → length lent ≡ 512
    → WritePromise left right number lent (told_write (Err why)) block → WriteRefuses left right number
refused_pair {left} {right} {lent} {number = number} why whole refusing =
    record {
      lent = lent;
      enough = omega (arith, whole);
      said = said_of why;
      promised = subst (λ b. WritePromise left right number lent (outcome.refused (said_of why)) b)
          (refused_unchanged refusing) refusing;
    }

module _ (out : List ℕ) (p : Packing) {place : ℕ} {made_at : Result ℕ ℤ} (makes : MakesRoom (length out) p.at made_at)
    (is : made_at ≡ Ok place) where
  -- where there is room for a line there is room for a block
  pub block_room : place + 512 ≤ length out
  block_room = let room = roomy makes is in omega arith

  -- the buffer with the block in it
  abbrev with_block : List ℕ → List ℕ
  with_block block = put_mid place (place + 512 - place) out block

  -- what stood before the place, and the block
  block_behind : (block : List ℕ) → length block ≡ 512 → Behind out p.at block (place + 512) (with_block block)
  block_behind block whole text held =
      let here = holds_room held makes is in
      let stood : length (take place out ++ block) ≡ place + 512 =
      omega (
        arith,
        length-append (take place out) block,
        length-take-le place out
            (omega (arith, block_room)),
        whole,
      ) in
      let rest = post_of place (place + 512 - place) out in
      let front : take (place + 512) (with_block block) ≡ take place out ++ block =
      ap (take (place + 512)) (sym (append_assoc (take place out) block rest))
      ∙ take_at (take place out ++ block) rest (place + 512) stood in
      record {
        gone = here.gone;
        whole =
            ap (λ (l : List ℕ). l ++ block) (here.whole ∙ append-nil (here.gone ++ take place out))
            ∙ append_assoc here.gone (take place out) block
            ∙ ap (λ (l : List ℕ). here.gone ++ l) (sym front)
            ∙ sym (append-nil (here.gone ++ take (place + 512) (with_block block)));
      }

  -- and without it
  nothing_behind : (block : List ℕ) → Behind out p.at [] place (with_block block)
  nothing_behind block text held =
      let here = holds_room held makes is in
      record {
        gone = here.gone;
        whole =
            append-nil text ∙ here.whole
            ∙ ap (λ (l : List ℕ). here.gone ++ l ++ [])
            (sym (take_put place (place + 512 - place) out block (omega (arith, block_room))));
      }

  module _ (block : List ℕ) (kept : length block ≡ length (take (place + 512 - place) (drop place out))) where
    -- the block is whole
    block_whole : length block ≡ 512
    block_whole =
        omega (arith, kept, length-take (place + 512 - place) (drop place out), length-drop place out, block_room)

    -- the buffer that Write was lent is whole
    abbrev lent : List ℕ
    lent = take (place + 512 - place) (drop place out)

    pub block_is : {left right : List ℕ} {number : ℕ} → WritePromise left right number lent (told_write (Ok tt)) block
        → block ≡ block_of number left right
    block_is promise = written_block (omega (arith, kept, block_whole)) promise

    pub refuses : {left right : List ℕ} {number : ℕ} (why : Refusal)
        → WritePromise left right number lent (told_write (Err why)) block → WriteRefuses left right number
    refuses why promise = refused_pair why (omega (arith, kept, block_whole)) promise

    pub pair_made : {left right : List ℕ} {r : Packing} → block ≡ block_of p.number left right
        → r ≡ after_block (place + 512) p
        → PairGoes left right p out (Ok r) (with_block block)
    pair_made its after =
        rw after (made (record { the_block = its; whole = block_whole }) block_room (block_behind block block_whole))

    pub pair_refused : {left right : List ℕ} {r : Packing} → WriteRefuses left right p.number
        → r ≡ after_wrong (placed_at place p)
        → PairGoes left right p out (Ok r) (with_block block)
    pair_refused its after =
        let inside : place ≤ length out = omega (arith, block_room) in
        rw after (refused its inside (nothing_behind block))
