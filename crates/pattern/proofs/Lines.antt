-- Lines: a line is a pair in one way, a pair says something, and a line that a fault is told of is neither a pair nor
-- empty.
use Rattle.std.proofs.Common.{ℕ, ◌+◌, ◌≤◌, ◌<◌, ◌≡◌, refl, ap, sym, subst, List, ◌∷◌, ◌++◌, map, arith, length, drop, length-append, Option, Some, Result, Ok, Err}
use Rattle.ac.specs.Apart.{renamed_apart}
use Rattle.ac.specs.Lists.{receives}
use Rattle.pattern.specs.Characters.{plus_sign, opening_bracket, closing_bracket, equals_sign, remark_sign, Digit, Blank, space, tab, carriage_return, Inside, Each, none, one_more, Stops, at_end, at_other}
use Rattle.pattern.specs.Word.{Spells, spells, Word, variable, constant}
use Rattle.pattern.specs.Side.{Place, Token, blank, opening, word, plus, closing, Reads, done, next, Side}
use Rattle.pattern.specs.Line.{Remark, no_remark, remark, PairLine, pair, SaysNothing, nothing}
use Rattle.pattern.specs.Fault.{LineFault, no_equals, second_equals, left_side, right_side}
use Rattle.pattern.specs.Answer.{LineSays, wrong}
use Rattle.pattern.specs.declared.Fault.{Fault}
use Rattle.block.specs.declared.Sides.{Sides}
use Rattle.pattern.specs.declared.Wrong.{Wrong}
use Rattle.pattern.proofs.Spans.{each_append, each_map, span_unique}
use Rattle.pattern.proofs.Words.{each_number, each_multiple}
use Rattle.pattern.proofs.Readings.{side_unique}
use Rattle.pattern.proofs.Faults.{fault_is_no_side, fault_within}

-- which bytes may stand in a side: those before `#`, between it and `=`, and behind that
below_remark : {b : ℕ} → b < remark_sign → Inside b
below_remark h = record { no_equals = λ is. omega arith; no_remark = λ is. omega arith }

between_signs : {b : ℕ} → remark_sign < b → b < equals_sign → Inside b
between_signs h h' = record { no_equals = λ is. omega arith; no_remark = λ is. omega arith }

above_equals : {b : ℕ} → equals_sign < b → Inside b
above_equals h = record { no_equals = λ is. omega arith; no_remark = λ is. omega arith }

digit_inside : (b : ℕ) → Digit b → Inside b
digit_inside b digit = between_signs (omega arith) (omega arith)

blank_inside : (b : ℕ) → Blank b → Inside b
blank_inside _ space = below_remark (omega arith)
blank_inside _ tab = below_remark (omega arith)
blank_inside _ carriage_return = below_remark (omega arith)

-- so do the bytes of a word
spelled_inside : {bytes : List ℕ} {times letter number : ℕ} → Inside letter → Spells bytes times letter number
    → Each Inside bytes
spelled_inside letter (spells says says') =
    each_append (each_map digit_inside (each_multiple says))
    (one_more letter (each_map digit_inside (each_number says')))

word_inside : {bytes atoms : List ℕ} → Word bytes atoms → Each Inside bytes
word_inside (variable spelled small) = spelled_inside (above_equals (omega arith)) spelled
word_inside (constant spelled small) = spelled_inside (above_equals (omega arith)) spelled

-- and of every token
token_inside : {depth depth₁ : ℕ} {place place₁ : Place} {token more atoms : List ℕ}
    → Token more depth place token atoms depth₁ place₁ → Each Inside token
token_inside (blank {b} is) = one_more (blank_inside b is) none
token_inside opening = one_more (between_signs {b = opening_bracket} (omega arith) (omega arith)) none
token_inside (word w stop) = word_inside w
token_inside plus = one_more (between_signs {b = plus_sign} (omega arith) (omega arith)) none
token_inside closing = one_more (between_signs {b = closing_bracket} (omega arith) (omega arith)) none

reads_inside : {depth depth₁ : ℕ} {place place₁ : Place} {bytes atoms rest : List ℕ}
    → Reads depth place bytes atoms depth₁ place₁ rest → Each Inside rest → Each Inside bytes
reads_inside done each = each
reads_inside (next token more) each = each_append (token_inside token) (reads_inside more each)

pub side_inside : {bytes atoms : List ℕ} → Side bytes atoms → Each Inside bytes
side_inside s = reads_inside s.sum none

-- sides end at `=` and at a remark
equals_stops : (rest : List ℕ) → Stops Inside (equals_sign ∷ rest)
equals_stops rest = at_other (λ inside. inside.no_equals refl)

remark_stops : {rest : List ℕ} → Remark rest → Stops Inside rest
remark_stops no_remark = at_end
remark_stops remark = at_other (λ inside. inside.no_remark refl)

-- a remark does not begin with `=`
remark_no_equals : {rest more : List ℕ} {A : Type 0} → Remark rest → rest ≡ equals_sign ∷ more → A
remark_no_equals no_remark e = cc e
remark_no_equals remark e = absurd (let same : remark_sign ≡ equals_sign = cc e in omega arith)

-- A line is cut at its `=` in one way only, ..
record SameCut (first second rest first' second' rest' : List ℕ) : Type 0 where
  same_first : first ≡ first'
  same_second : second ≡ second'
  same_rest : rest ≡ rest'

cut_once :
    {first second rest first' second' rest' : List ℕ} →
    Each Inside first →
    Each Inside second →
    Stops Inside rest →
    Each Inside first' →
    Each Inside second' →
    Stops Inside rest' →
    first ++ (equals_sign ∷ (second ++ rest)) ≡ first' ++ (equals_sign ∷ (second' ++ rest')) →
    SameCut first second rest first' second' rest'
cut_once {second = second} {rest} {second' = second'} {rest'} i j stop i' j' stop' e =
    let outer = span_unique i i' (equals_stops (second ++ rest)) (equals_stops (second' ++ rest')) e in
    let inner = span_unique j j' stop stop' (cc outer.1) in
    record { same_first = outer.0; same_second = inner.0; same_rest = inner.1 }

-- .. so it is one pair.
side_as : {bytes bytes' atoms : List ℕ} → bytes ≡ bytes' → Side bytes' atoms → Side bytes atoms
side_as {atoms = atoms} e s = subst (λ l. Side l atoms) (sym e) s

pair_determined : {line line' left left' right right' : List ℕ} → PairLine line left right → PairLine line' left' right'
    → line ≡ line' → (left ≡ left') × (right ≡ right')
pair_determined (pair s t said) (pair s' t' said') e =
    let cut = cut_once (side_inside s) (side_inside t) (remark_stops said) (side_inside s') (side_inside t')
    (remark_stops said') e in (
      side_unique s (side_as cut.same_first s'),
      ap (map renamed_apart) (side_unique t (side_as cut.same_second t')),
    )

pub pair_unique : {line left left' right right' : List ℕ} → PairLine line left right → PairLine line left' right'
    → (left ≡ left') × (right ≡ right')
pair_unique p p' = pair_determined p p' refl

-- blanks and a remark have no `=` before the remark
nothing_cut : {blanks rest first : List ℕ} (more : List ℕ) → Each Blank blanks → Remark rest → Each Inside first
    → blanks ++ rest ≡ first ++ (equals_sign ∷ more) → ⊥
nothing_cut more blanks said inside e =
    remark_no_equals said (span_unique (each_map blank_inside blanks) inside (remark_stops said)
    (equals_stops more) e).1

-- No line says two things.
pair_says : {line line' left right : List ℕ} → PairLine line left right → SaysNothing line' → line ≡ line' → ⊥
pair_says (pair s t said) (nothing blanks said') e = nothing_cut _ blanks said' (side_inside s) (sym e)

pub pair_says_something : {line left right : List ℕ} → PairLine line left right → SaysNothing line → ⊥
pair_says_something p n = pair_says p n refl

-- A line that a fault is told of is no pair, ..
fault_not_pair : {line line' left right : List ℕ} {column : ℕ} {why : Fault} → LineFault line column why
    → PairLine line' left right → line ≡ line' → ⊥
fault_not_pair (no_equals inside some said) (pair {first} {second} {rest} s t said') e =
    remark_no_equals said (span_unique inside (side_inside s) (remark_stops said) (equals_stops (second ++ rest)) e).1
fault_not_pair (second_equals more i j) (pair s t said) e =
    let cut = cut_once i j (equals_stops more) (side_inside s) (side_inside t) (remark_stops said) e in
    remark_no_equals said (sym cut.same_rest)
fault_not_pair (left_side i j said fault) (pair s t said') e =
    let cut = cut_once i j (remark_stops said) (side_inside s) (side_inside t) (remark_stops said') e in
    fault_is_no_side fault (side_as cut.same_first s)
fault_not_pair (right_side f j said fault) (pair s t said') e =
    let cut = cut_once (side_inside f) j (remark_stops said) (side_inside s) (side_inside t) (remark_stops said') e in
    fault_is_no_side fault (side_as cut.same_second t)

pub fault_is_no_pair : {line left right : List ℕ} {column : ℕ} {why : Fault} → LineFault line column why
    → PairLine line left right → ⊥
fault_is_no_pair f p = fault_not_pair f p refl

-- .. and says something; ..
fault_says : {line line' : List ℕ} {column : ℕ} {why : Fault} → LineFault line column why → SaysNothing line'
    → line ≡ line' → ⊥
fault_says (no_equals inside some said) (nothing blanks said') e =
    some (rw (span_unique inside (each_map blank_inside blanks) (remark_stops said) (remark_stops said') e).0 blanks)
fault_says (second_equals more i j) (nothing blanks said') e = nothing_cut _ blanks said' i (sym e)
fault_says (left_side i j said fault) (nothing blanks said') e = nothing_cut _ blanks said' i (sym e)
fault_says (right_side f j said fault) (nothing blanks said') e = nothing_cut _ blanks said' (side_inside f) (sym e)

pub fault_says_something : {line : List ℕ} {column : ℕ} {why : Fault} → LineFault line column why → SaysNothing line → ⊥
fault_says_something f n = fault_says f n refl

-- .. its column lies in the line or right behind it.
pub column_within : {line : List ℕ} {column : ℕ} {why : Fault} → LineFault line column why
    → (1 ≤ column) × (column ≤ length line + 1)
column_within (no_equals {text} {rest} inside some said) = omega (arith, length-append text rest)
column_within (second_equals {first} {second} more i j) =
    omega (
      arith,
      length-append first (equals_sign ∷ (second ++ (equals_sign ∷ more))),
      length-append second (equals_sign ∷ more),
    )
column_within (left_side {first} {second} {rest} i j said fault) =
    omega (arith, length-append first (equals_sign ∷ (second ++ rest)), fault_within fault)
column_within (right_side {first} {second} {rest} f j said fault) =
    omega (
      arith,
      length-append first (equals_sign ∷ (second ++ rest)),
      length-append second rest,
      fault_within fault,
    )

-- That is what is promised of a wrong line.
pub line_wrong : {line left right : List ℕ} {column : ℕ} {why : Fault} → LineFault line column why
    → LineSays line left right (Err (record { column = column; why = why })) left right
line_wrong f = wrong f (λ L R. fault_is_no_pair f) (fault_says_something f) (column_within f).0 (column_within f).1

-- The sides that a line was read to stand in the buffers.
pub sides_stand : {line left right left' right' : List ℕ} {a : Result (Option Sides) Wrong} {sides : Sides}
    → LineSays line left right a left' right'
    → a ≡ Ok (Some sides) → (sides.left ≤ length left') × (sides.right ≤ length right')
sides_stand {left = left} {right = right} {sides = sides} (LineSays.a_pair {L} {R} p) e =
    let same : record { left = length L; right = length R } ≡ sides = cc e in
    subst (λ (s : Sides). (s.left ≤ length (receives left L)) × (s.right ≤ length (receives right R))) same
    (omega (arith, length-append L (drop (length L) left), length-append R (drop (length R) right)))
sides_stand (LineSays.nothing says) e = cc e
sides_stand (wrong fault none_is some low high) e = cc e
