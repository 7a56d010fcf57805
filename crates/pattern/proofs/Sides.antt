-- Two sides read one after the other, and what a line says that they are the sides of.
use Rattle.std.proofs.Common.{ℕ, ◌+◌, ◌≤◌, ◌≡◌, refl, ap, sym, subst, ◌∙◌, List, ◌∷◌, ◌++◌, map, arith, length, take, drop, length-take-le, Option, Some, Result, Ok, Err}
use lib.ListN.{length-map}
use Rattle.std.specs.List.{take-map}
use lib.Seq.{take-length}
use Rattle.ac.specs.Apart.{renamed_apart}
use Rattle.ac.specs.Lists.{receives}
use Rattle.buffer.specs.Put.{Put}
use Rattle.buffer.proofs.Puts.{put_received}
use Rattle.pattern.specs.Characters.{equals_sign, Inside, Each}
use Rattle.pattern.specs.Side.{Side}
use Rattle.pattern.specs.Line.{Remark, pair}
use Rattle.pattern.specs.Fault.{SideFault, left_side, right_side}
use Rattle.pattern.specs.Answer.{LineSays}
use Rattle.pattern.specs.Inner.{ReadsSide, a_side, is_wrong, SidesSay, a_pair, left_wrong, right_wrong}
use Rattle.block.specs.declared.Sides.{Sides}
use Rattle.pattern.specs.declared.Wrong.{Wrong}
use Rattle.pattern.proofs.Lines.{line_wrong}

-- a side that was read into a buffer, at whose front its atoms stand
pub record SideRead (bytes : List ℕ) (count : ℕ) (atoms : List ℕ) : Type 0 where
  pub within : count ≤ length atoms
  pub is_side : Side bytes (take count atoms)

pub when_atoms : {bytes atoms : List ℕ} {start : ℕ} {s : Result ℕ Wrong} {count : ℕ} → ReadsSide bytes start s atoms
    → s ≡ Ok count → SideRead bytes count atoms
when_atoms {bytes} {atoms} {count = count} (a_side {count = n} within is) e =
    subst (λ k. SideRead bytes k atoms) (let same : n ≡ count = cc e in same) (record { within = within; is_side = is })
when_atoms (is_wrong fault) e = cc e

-- or what is wrong with it, and where
pub record SideWrong (bytes : List ℕ) (start : ℕ) (w : Wrong) : Type 0 where
  pub place : ℕ
  pub fault : SideFault bytes place w.why
  pub column_is : w.column ≡ start + place + 1

pub when_wrong : {bytes atoms : List ℕ} {start : ℕ} {s : Result ℕ Wrong} {w : Wrong} → ReadsSide bytes start s atoms
    → s ≡ Err w → SideWrong bytes start w
when_wrong (a_side within is) e = cc e
when_wrong {bytes} {start = start} {w = w} (is_wrong {place = p} {why = y} fault) e =
    subst (SideWrong bytes start) (let same : record { column = start + p + 1; why = y } ≡ w = cc e in same)
    (record { place = p; fault = fault; column_is = refl })

-- what a buffer holds into which atoms are copied
abbrev copied : List ℕ → List ℕ → List ℕ
copied side lent = take (length side) side ++ drop (length side) lent

copied_receives : (side lent : List ℕ) → copied side lent ≡ receives lent side
copied_receives side lent = ap (λ (l : List ℕ). l ++ drop (length side) lent) (take-length side)

-- put at the front of a buffer that has room for them they are copied
pub put_copied : {side lent after : List ℕ} {next : ℕ} → Put lent 0 side next after → next ≤ length lent
    → after ≡ copied side lent
put_copied {side} {lent} put room = put_received put room ∙ sym (copied_receives side lent)

-- there is room for the atoms in a buffer of 64
pub read_room : {bytes atoms : List ℕ} {count : ℕ} → SideRead bytes count atoms → count ≤ 64
read_room {atoms = atoms} {count} s =
    omega (arith, s.is_side.at_most, length-take-le count atoms s.within)

module _
    {first second left_atoms right_atoms renamed : List ℕ} {n m : ℕ}
    (f : SideRead first n left_atoms) (s : SideRead second m right_atoms) (is : renamed ≡ map renamed_apart right_atoms)
  where
    -- as many are renamed as there are
    pub renamed_within : m ≤ length renamed
    renamed_within = omega (arith, ap length is, length-map right_atoms renamed_apart, s.within)

    pub pair_said : {left right left' right' : List ℕ} → left' ≡ copied (take n left_atoms) left
        → right' ≡ copied (take m renamed) right → SidesSay first second left right (Ok (record { left = n; right = m })) left' right'
    pair_said {left} {right} {left'} {right'} left_is right_is =
        let front : take m renamed ≡ map renamed_apart (take m right_atoms) = ap (take m) is ∙ take-map renamed_apart m right_atoms in
        let right_is' : right' ≡ receives right (map renamed_apart (take m right_atoms)) =
        right_is ∙ copied_receives (take m renamed) right ∙ ap (receives right) front in
        let left_is' : left' ≡ receives left (take n left_atoms) = left_is ∙ copied_receives (take n left_atoms) left in
        let many : length (take n left_atoms) ≡ n = length-take-le n left_atoms f.within in
        let many' : length (take m right_atoms) ≡ m = length-take-le m right_atoms s.within in
        rw (← many, ← many', left_is', right_is') (a_pair f.is_side s.is_side)

-- where one of them is wrong, the buffers stay as they were
module _ {first second left right : List ℕ} {w : Wrong} where
  pub left_said : SideWrong first 0 w → SidesSay first second left right (Err w) left right
  left_said s =
      let column : s.place + 1 ≡ w.column = omega (arith, s.column_is) in
      subst (λ n. SidesSay first second left right (Err (record { column = n; why = w.why })) left right) column
      (left_wrong s.fault)

  pub right_said : {n : ℕ} {left_atoms : List ℕ} → SideRead first n left_atoms
      → SideWrong second (length first + 1) w → SidesSay first second left right (Err w) left right
  right_said f s =
      subst (λ n. SidesSay first second left right (Err (record { column = n; why = w.why })) left right)
      (sym s.column_is) (right_wrong f.is_side s.fault)

-- the same, as what a line says
abbrev pub in_line : Result Sides Wrong → Result (Option Sides) Wrong
in_line (Ok sides) = Ok (Some sides)
in_line (Err wrong) = Err wrong

-- What the sides of a line say, the line says.
pub sides_line :
    {first second rest left right left' right' : List ℕ} {r : Result Sides Wrong} {said : Result (Option Sides) Wrong} →
    Each Inside first →
    Each Inside second →
    Remark rest →
    SidesSay first second left right r left' right' →
    said ≡ in_line r →
    LineSays (first ++ (equals_sign ∷ (second ++ rest))) left right said left' right'
sides_line {right = right} i j said (a_pair {L} {R} f s) e =
    rw (e, ← (length-map R renamed_apart)) (LineSays.a_pair (pair f s said))
sides_line i j said (left_wrong fault) e = rw e (line_wrong (left_side i j said fault))
sides_line i j said (right_wrong f fault) e = rw e (line_wrong (right_side f j said fault))
