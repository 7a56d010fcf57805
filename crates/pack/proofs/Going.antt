-- How far the lines have been packed, as more of the input comes.
use Rattle.std.proofs.Common.{◌≡◌, ℕ, ◌+◌, ◌%◌, ◌^◌, ◌≤◌, List, [], ◌∷◌, ◌++◌, length, take, drop, sym, ap, ◌∙◌, subst, append_assoc, arith, length-append, take-append-drop, ℤ, Result, Ok}
use Rattle.pattern.specs.Characters.{Each}
use Rattle.pattern.proofs.Texts.{First, from_first}
use Rattle.pack.specs.Cut.{line_feed, NoFeed}
use Rattle.pack.specs.Held.{Holds}
use Rattle.pack.specs.Packing.{LinesPacked, one_more, LineDone, LineGoes, goes_on, not_written, Far}
use Rattle.pack.specs.declared.cut.Line.{Line}
use Rattle.pack.specs.declared.packing.Packing.{Packing}
use Rattle.pack.proofs.Cutting.{lines_longer, lines_next}

-- where packing goes on after a line
pub record LineOn (l : Line) (p : Packing) (out : List ℕ) (p' : Packing) (out' : List ℕ) : Type 0 where
  pub inside : p'.at ≤ length out
  pub done : (line : List ℕ) → Holds l line → LineDone line p out p' out'

pub when_on : {l : Line} {out out' : List ℕ} {p q : Packing} {r : Result Packing ℤ} → LineGoes l p out r out' → r ≡ Ok q
    → LineOn l p out q out'
when_on {l} {out} {out'} {p} {q} (goes_on {p' = p'} inside done) e =
    subst (λ x. LineOn l p out x out') (let same : p' ≡ q = cc e in same) (record { inside = inside; done = done })
when_on not_written e = cc e

-- a line more, packed
pub packed_more : {lines : List (List ℕ)} {line blocks out out' : List ℕ} {p p' : Packing}
    → LinesPacked lines blocks p.number p.wrong → (d : LineDone line p out p' out')
    → LinesPacked (lines ++ (line ∷ [])) (blocks ++ d.block) p'.number p'.wrong
packed_more packed d = rw d.told (one_more packed d.packed)

-- and counted
counted_on : (lines : List (List ℕ)) (line : List ℕ) {number number' : ℕ} → number ≡ (length lines + 1) % 2 ^ 64
    → number' ≡ (number + 1) % 2 ^ 64 → number' ≡ (length (lines ++ (line ∷ [])) + 1) % 2 ^ 64
counted_on lines line is next = omega (arith, is, next, length-append lines (line ∷ []))

-- what it is to take in bytes of a line
abbrev pub TakesIn : Line → List ℕ → Line → Type 0
TakesIn l bytes l' = (line : List ℕ) → Holds l line → Holds l' (line ++ bytes)

module _ {before part : List ℕ} {l l' : Line} {p : Packing} {out : List ℕ} (far : Far before l p out)
    (plain : Each NoFeed part) (takes : TakesIn l part l') where
  -- the line goes on
  pub far_longer : Far (before ++ part) l' p out
  far_longer = record {
    lines = far.lines;
    last = far.last ++ part;
    blocks = far.blocks;
    cut = lines_longer far.cut plain;
    holds = takes far.last far.holds;
    packed = far.packed;
    numbered = far.numbered;
    stands = far.stands;
  }

  -- it has ended, and was packed
  pub far_next : {l'' : Line} {q : Packing} {out' : List ℕ} → LineOn l' p out q out' → Holds l'' []
      → Far (before ++ (part ++ (line_feed ∷ []))) l'' q out'
  far_next on empty =
      let done = on.done (far.last ++ part) (takes far.last far.holds) in
      record {
        lines = far.lines ++ ((far.last ++ part) ∷ []);
        last = [];
        blocks = far.blocks ++ done.block;
        cut = lines_next far.cut plain;
        holds = empty;
        packed = packed_more far.packed done;
        numbered = counted_on far.lines (far.last ++ part) far.numbered done.counted;
        stands = done.put far.blocks far.stands;
      }

-- the first bytes of a piece are packed, and these are left
pub record Piece (bytes : List ℕ) (l₀ : Line) (p₀ : Packing) (out₀ rest : List ℕ) (l : Line) (p : Packing)
    (out : List ℕ) : Type 0 where
  pub gone : List ℕ
  pub splits : bytes ≡ gone ++ rest
  pub far : (before : List ℕ) → Far before l₀ p₀ out₀ → Far (before ++ gone) l p out

module _ {bytes : List ℕ} {l₀ : Line} {p₀ : Packing} {out₀ rest : List ℕ} {l : Line} {p : Packing} {out : List ℕ}
    (piece : Piece bytes l₀ p₀ out₀ rest l p out) where
  -- one line more
  pub piece_more : {i : ℕ} {l' l'' : Line} {q : Packing} {out' : List ℕ} → First line_feed rest i
      → TakesIn l (take i rest) l' → LineOn l' p out q out' → Holds l'' []
      → Piece bytes l₀ p₀ out₀ (drop (i + 1) rest) l'' q out'
  piece_more {i} {l'' = l''} {q} {out'} first takes on empty =
      let part = take i rest in
      let later = drop (i + 1) rest in
      record {
        gone = piece.gone ++ (part ++ (line_feed ∷ []));
        splits =
            piece.splits
            ∙ ap (λ (l : List ℕ). piece.gone ++ l) (sym (take-append-drop i rest)
            ∙ ap (λ (l : List ℕ). part ++ l) (from_first first) ∙ sym (append_assoc part (line_feed ∷ []) later))
            ∙ sym (append_assoc piece.gone (part ++ (line_feed ∷ [])) later);
        far = λ before far.
            subst (λ l. Far l l'' q out') (append_assoc before piece.gone (part ++ (line_feed ∷ [])))
            (far_next (piece.far before far) first.before takes on empty);
      }

  -- no line ends in the rest
  pub piece_over : {l' : Line} → Each NoFeed rest → TakesIn l rest l' → (before : List ℕ) → Far before l₀ p₀ out₀
      → Far (before ++ bytes) l' p out
  piece_over {l'} plain takes before far =
      subst (λ l. Far l l' p out)
      (append_assoc before piece.gone rest ∙ ap (λ (l : List ℕ). before ++ l) (sym piece.splits))
      (far_longer (piece.far before far) plain takes)
