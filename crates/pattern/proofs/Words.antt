-- Words: what some digits say, and that a word at the front of some bytes is the only one there.
use Rattle.std.proofs.Common.{ℕ, ◌+◌, ◌*◌, ◌-◌, ◌≤◌, ◌<◌, ◌≡◌, refl, ap, ap₂, sym, subst, ◌∙◌, true, false, ◌⊎◌, inl, inr, ⊎_elim, List, [], ◌∷◌, ◌++◌, append_assoc, append-nil, arith, length, get_or, take, drop, replicate, length-append, take-append-drop, take_all, drop-cons, Option, Some, None, Result, Ok, Err}
use borrow.Author.Rules.{part_to_end}
use Rattle.pattern.specs.Characters.{variable_letter, constant_letter, zero_digit, Digit, worth, Each, none, one_more, Stops, at_end, at_other}
use Rattle.pattern.specs.Word.{Number, one_digit, two_digits, Multiple, once, often, Spells, spells, Word, variable, constant, Unwritable, unwritable}
use Rattle.pattern.specs.Fault.{Front, NoWord}
use Rattle.std.specs.Char.{is_ascii_digit}
use Rattle.std.specs.List.{prefix_len}
use Rattle.pattern.specs.Inner.{Tells, tells, tells_none, Names, no_atom, Spelled, no_word, Scans}
use Rattle.pattern.specs.declared.Fault.{Fault}
use Rattle.pattern.specs.declared.Fault.TheVariants as fault
use Rattle.pattern.specs.declared.word.Word as read
use Rattle.pattern.proofs.Spans.{each_front, each_second, each_prefix, stops_prefix, stops_front, span_unique}

-- where digits say a number
pub when_number : {Says : ℕ → Type 0} {s : Option ℕ} {n : ℕ} → Tells Says s → s ≡ Some n → Says n
when_number {Says} {n = n} (tells {n = m} says) e = subst Says (let same : m ≡ n = cc e in same) says
when_number (tells_none none_says) e = cc e

-- and where they say none
pub when_none : {Says : ℕ → Type 0} {s : Option ℕ} → Tells Says s → s ≡ None → (n : ℕ) → Says n → ⊥
when_none (tells says) e = cc e
when_none (tells_none none_says) e = none_says

-- one digit is a number
pub one_says : (digits : List ℕ) {n : ℕ} → Each Digit digits → length digits ≡ 1 → n ≡ worth (get_or digits 0 0)
    → Number digits n
one_says [] each e is = absurd (omega (arith, e))
one_says (d ∷ []) (one_more h each) e is = rw is (one_digit h)
one_says (d ∷ f ∷ digits) each e is = absurd (omega (arith, e))

-- two digits are
pub two_say : (digits : List ℕ) {n m : ℕ} → Each Digit digits → length digits ≡ 2 → n ≡ worth (get_or digits 0 0)
    → m ≡ worth (get_or digits 1 0) → Number digits (n * 10 + m)
two_say [] each e is is' = absurd (omega (arith, e))
two_say (d ∷ []) each e is is' = absurd (omega (arith, e))
two_say (d ∷ f ∷ []) (one_more h (one_more h' each)) e is is' = rw (is, is') (two_digits h h')
two_say (d ∷ f ∷ g ∷ digits) each e is is' = absurd (omega (arith, e))

-- and no others
pub others_say_none : {digits : List ℕ} → (length digits ≡ 1 → ⊥) → (length digits ≡ 2 → ⊥) → (n : ℕ)
    → Number digits n → ⊥
others_say_none one two _ (one_digit h) = one refl
others_say_none one two _ (two_digits h h') = two refl

-- no digits are the multiple 1
pub nothing_is_once : (digits : List ℕ) → length digits ≡ 0 → Multiple digits 1
nothing_is_once [] e = once
nothing_is_once (d ∷ digits) e = absurd (omega (arith, e))

-- a multiple does not begin with 0
pub no_leading_zero : {digits : List ℕ} → (length digits ≡ 0 → ⊥) → get_or digits 0 0 ≡ zero_digit → (n : ℕ)
    → Multiple digits n → ⊥
no_leading_zero some zero _ once = some refl
no_leading_zero some zero _ (often other says) = other zero

-- where the first digit is not 0, a multiple is a number
pub often_says : (digits : List ℕ) {s : Option ℕ} → (length digits ≡ 0 → ⊥) → (get_or digits 0 0 ≡ zero_digit → ⊥)
    → Tells (Number digits) s → Tells (Multiple digits) s
often_says [] some other t = absurd (some refl)
often_says (d ∷ digits) some other (tells says) = tells (often other says)
often_says (d ∷ digits) some other (tells_none none_says) = tells_none (λ n. not_often n)
  where
    not_often : (n : ℕ) → Multiple (d ∷ digits) n → ⊥
    not_often n (often other' says) = none_says n says

-- the bytes of a number and of a multiple are digits
pub each_number : {digits : List ℕ} {n : ℕ} → Number digits n → Each Digit digits
each_number (one_digit h) = one_more h none
each_number (two_digits h h') = one_more h (one_more h' none)

pub each_multiple : {digits : List ℕ} {n : ℕ} → Multiple digits n → Each Digit digits
each_multiple once = none
each_multiple (often other says) = each_number says

-- the letters are none
variable_letter_lem : Digit variable_letter → ⊥
variable_letter_lem h = omega arith

constant_letter_lem : Digit constant_letter → ⊥
constant_letter_lem h = omega arith

-- digits say one number
number_unique : {digits : List ℕ} {m n : ℕ} → Number digits m → Number digits n → m ≡ n
number_unique (one_digit h) (one_digit h') = refl
number_unique (two_digits h i) (two_digits h' i') = refl

multiple_unique : {digits : List ℕ} {m n : ℕ} → Multiple digits m → Multiple digits n → m ≡ n
multiple_unique once once = refl
multiple_unique (often other says) (often other' says') = number_unique says says'

-- Some bytes taken apart from the front: digits, a letter, and all the digits behind it.
pub record Cut (bytes multiple : List ℕ) (letter : ℕ) (digits more : List ℕ) : Type 0 where
  pub splits : bytes ≡ multiple ++ letter ∷ (digits ++ more)
  pub multiple_digits : Each Digit multiple
  pub no_digit : Digit letter → ⊥
  pub number_digits : Each Digit digits
  pub stops : Stops Digit more

-- what any word asks of its parts
record Asks (multiple : List ℕ) (letter : ℕ) (digits : List ℕ) : Type 0 where
  times : ℕ
  number : ℕ
  says_times : Multiple multiple times
  says_number : Number digits number
  small : number < 64
  a_letter : (letter ≡ variable_letter) ⊎ (letter ≡ constant_letter)

-- a multiple, a letter and a number, each known
record Parts (multiple : List ℕ) (letter : ℕ) (digits : List ℕ) (times letter' number : ℕ) : Type 0 where
  same_letter : letter ≡ letter'
  says_times : Multiple multiple times
  says_number : Number digits number

module _ {bytes multiple digits more : List ℕ} {letter : ℕ} (cut : Cut bytes multiple letter digits more) where
  -- the word that it is
  abbrev whole : List ℕ
  whole = multiple ++ letter ∷ digits

  -- it stands at the front
  cut_front : Front bytes whole more
  cut_front = record {
    splits = cut.splits ∙ sym (append_assoc multiple (letter ∷ digits) more);
    stops = cut.stops;
  }

  -- what is spelled at the front is spelled by these parts
  cut_parts : {word rest : List ℕ} {times letter' number : ℕ} → (Digit letter' → ⊥) → Front bytes word rest
      → Spells word times letter' number
      → (word ≡ whole) × (rest ≡ more) × Parts multiple letter digits times letter' number
  cut_parts {word} {rest} {times} {letter'} {number} other front
      (spells {multiple = m} {digits = d} says_times says_number) =
      let same : m ++ letter' ∷ (d ++ rest) ≡ multiple ++ letter ∷ (digits ++ more) =
      sym (append_assoc m (letter' ∷ d) rest) ∙ sym front.splits ∙ cut.splits in
      let outer = span_unique (each_multiple says_times) cut.multiple_digits (at_other other)
      (at_other cut.no_digit) same in
      let letters : letter ≡ letter' = cc outer.1 in
      let behind : d ++ rest ≡ digits ++ more = cc outer.1 in
      let inner = span_unique (each_number says_number) cut.number_digits front.stops cut.stops behind in (
        cc (outer.0, letters, inner.0),
        inner.1,
        record {
          same_letter = letters;
          says_times = subst (λ l. Multiple l times) outer.0 says_times;
          says_number = subst (λ l. Number l number) inner.0 says_number;
        },
      )

  -- so a word at the front is this one, and asks that of its parts
  word_asks : {word rest atoms : List ℕ} → Front bytes word rest → Word word atoms
      → (word ≡ whole) × Asks multiple letter digits
  word_asks front (variable {times = times} {number = number} spelled small) =
      let known = cut_parts variable_letter_lem front spelled in
      let parts = known.2 in (
        known.0,
        record {
          times = times;
          number = number;
          says_times = parts.says_times;
          says_number = parts.says_number;
          small = omega arith;
          a_letter = inl parts.same_letter;
        },
      )
  word_asks front (constant {times = times} {number = number} spelled small) =
      let known = cut_parts constant_letter_lem front spelled in
      let parts = known.2 in (
        known.0,
        record {
          times = times;
          number = number;
          says_times = parts.says_times;
          says_number = parts.says_number;
          small = omega arith;
          a_letter = inr parts.same_letter;
        },
      )

  unwritable_asks : {word rest : List ℕ} → Front bytes word rest → Unwritable word
      → (word ≡ whole) × Asks multiple letter digits
  unwritable_asks front (unwritable {times = times} {number = number} spelled large small) =
      let known = cut_parts variable_letter_lem front spelled in
      let parts = known.2 in (
        known.0,
        record {
          times = times;
          number = number;
          says_times = parts.says_times;
          says_number = parts.says_number;
          small = small;
          a_letter = inl parts.same_letter;
        },
      )

  -- where that fails the bytes are no word
  not_asked : (Asks multiple letter digits → ⊥) → Spelled whole (Err fault.NoAtom)
  not_asked fails = no_word (λ atoms w. fails (word_asks cut_front w).1) (λ u. fails (unwritable_asks cut_front u).1)

  -- since the digits before the letter are no multiple, or those behind it no number, or both name no atom
  pub no_multiple : ((n : ℕ) → Multiple multiple n → ⊥) → Spelled whole (Err fault.NoAtom)
  no_multiple none_says = not_asked (λ asks. none_says asks.times asks.says_times)

  pub no_number : ((n : ℕ) → Number digits n → ⊥) → Spelled whole (Err fault.NoAtom)
  no_number none_says = not_asked (λ asks. none_says asks.number asks.says_number)

  pub no_name : {number : ℕ} → Number digits number → (letter ≡ variable_letter → number < 64 → ⊥)
      → (letter ≡ constant_letter → number < 64 → ⊥) → Spelled whole (Err fault.NoAtom)
  no_name {number} says no_variable no_constant = not_asked refuted
    where
      refuted : Asks multiple letter digits → ⊥
      refuted asks =
          let same : asks.number ≡ number = number_unique asks.says_number says in
          ⊎_elim (λ is. no_variable is (omega (arith, asks.small))) (λ is. no_constant is (omega (arith, asks.small)))
          asks.a_letter

  -- What the bytes spell is what stands at the front of all of them.
  pub scans_spelled : {r : Result read.Word Fault} → Spelled whole r → Scans bytes r
  scans_spelled (Spelled.a_word w) = Scans.a_word cut_front w
  scans_spelled (Spelled.unwritable u) = Scans.unwritable cut_front u
  scans_spelled (Spelled.no_word none_is none_is') = Scans.no_word (
      record {
        no_word = λ {word} {more} {atoms} front w. none_is atoms (subst (λ l. Word l atoms) (word_asks front w).0 w);
        no_unwritable = λ {word} {more} front u. none_is' (subst Unwritable (unwritable_asks front u).0 u);
      })

-- Two spellings at the front of some bytes are one.
spelled_once :
    {word more word' more' : List ℕ} {times letter number times' letter' number' : ℕ} →
    (Digit letter → ⊥) →
    Stops Digit more →
    Spells word times letter number →
    (Digit letter' → ⊥) →
    Front (word ++ more) word' more' →
    Spells word' times' letter' number' →
    (more' ≡ more) × (times ≡ times') × (letter ≡ letter') × (number ≡ number')
spelled_once {more = more} {letter = letter} other stop
    (spells {multiple = m} {digits = d} says says') other' front spelled =
    let cut : Cut ((m ++ letter ∷ d) ++ more) m letter d more =
    record {
      splits = append_assoc m (letter ∷ d) more;
      multiple_digits = each_multiple says;
      no_digit = other;
      number_digits = each_number says';
      stops = stop;
    } in
    let known = cut_parts cut other' front spelled in (
      known.1,
      multiple_unique says known.2.says_times,
      known.2.same_letter,
      number_unique says' known.2.says_number,
    )

-- So two words are, with the atoms that they stand for, ..
pub word_once :
    {word more word' more' atoms atoms' : List ℕ} →
    Stops Digit more →
    Word word atoms →
    Front (word ++ more) word' more' →
    Word word' atoms' →
    (more' ≡ more) × (atoms ≡ atoms')
word_once stop (variable spelled small) front (variable spelled' small') =
    let same = spelled_once variable_letter_lem stop spelled variable_letter_lem front spelled' in (
      same.0,
      cc (same.1, same.3),
    )
word_once stop (variable spelled small) front (constant spelled' small') =
    absurd (omega (arith, (spelled_once variable_letter_lem stop spelled constant_letter_lem front spelled').2))
word_once stop (constant spelled small) front (variable spelled' small') =
    absurd (omega (arith, (spelled_once constant_letter_lem stop spelled variable_letter_lem front spelled').2))
word_once stop (constant spelled small) front (constant spelled' small') =
    let same = spelled_once constant_letter_lem stop spelled constant_letter_lem front spelled' in (
      same.0,
      cc (same.1, same.3),
    )

-- .. and no word is one that cannot be written.
pub word_is_writable :
    {word more word' more' atoms : List ℕ} →
    Stops Digit more →
    Word word atoms →
    Front (word ++ more) word' more' →
    Unwritable word' → ⊥
word_is_writable stop (variable spelled small) front (unwritable spelled' large small') =
    omega (arith, (spelled_once variable_letter_lem stop spelled variable_letter_lem front spelled').3)
word_is_writable stop (constant spelled small) front (unwritable spelled' large small') =
    omega (arith, (spelled_once constant_letter_lem stop spelled variable_letter_lem front spelled').2)

-- no other token begins as a word does: with a digit or a letter
spelled_first : {bytes word more rest : List ℕ} {times letter number b : ℕ} → zero_digit ≤ letter → Front bytes word more
    → Spells word times letter number → bytes ≡ b ∷ rest → zero_digit ≤ b
spelled_first {letter = letter} {b = b} high front (spells once says) e =
    let same : letter ≡ b = cc (e, front.splits) in omega arith
spelled_first {b = b} high front (spells (often {d} other says') says) e =
    let same : d ≡ b = cc (e, front.splits) in
    let digit = each_front (each_number says') in omega arith

pub word_first : {bytes word more rest atoms : List ℕ} {b : ℕ} → Front bytes word more → Word word atoms
    → bytes ≡ b ∷ rest
    → zero_digit ≤ b
word_first front (variable spelled small) e = spelled_first (omega arith) front spelled e
word_first front (constant spelled small) e = spelled_first (omega arith) front spelled e

pub unwritable_first : {bytes word more rest : List ℕ} {b : ℕ} → Front bytes word more → Unwritable word
    → bytes ≡ b ∷ rest
    → zero_digit ≤ b
unwritable_first front (unwritable spelled large small) e = spelled_first (omega arith) front spelled e

-- and it has a letter
spelled_some : {word : List ℕ} {times letter number : ℕ} → Spells word times letter number → 0 < length word
spelled_some {letter = letter} (spells {multiple = m} {digits = d} says says') =
    omega (arith, length-append m (letter ∷ d))

pub word_some : {word atoms : List ℕ} → Word word atoms → 0 < length word
word_some (variable spelled small) = spelled_some spelled
word_some (constant spelled small) = spelled_some spelled

-- a word by itself, taken apart
pub whole_cut : {multiple digits : List ℕ} {letter : ℕ} → Each Digit multiple → (Digit letter → ⊥) → Each Digit digits
    → Cut (multiple ++ letter ∷ digits) multiple letter digits []
whole_cut {multiple} {digits} {letter} before other behind =
    record {
      splits = ap (λ (l : List ℕ). multiple ++ letter ∷ l) (sym (append-nil digits));
      multiple_digits = before;
      no_digit = other;
      number_digits = behind;
      stops = at_end;
    }

-- a multiple, a letter and a number that name an atom are a word
pub names_atom :
    {multiple digits : List ℕ} {letter times number atom : ℕ} {r : Result ℕ Fault} →
    Multiple multiple times →
    Number digits number →
    Names letter number r →
    r ≡ Ok atom →
    Word (multiple ++ letter ∷ digits) (replicate times atom)
names_atom {multiple} {digits} {letter} {times} {number} {atom} says says' (Names.variable is small) e =
    let same : number ≡ atom = cc e in
    rw (is, ← same) (Word.variable (spells says says') small)
names_atom {multiple} {digits} {letter} {times} {number} {atom} says says' (Names.constant is small) e =
    let same : 64 + number ≡ atom = cc e in
    rw (is, ← same) (Word.constant (spells says says') small)
names_atom says says' (Names.unwritable is large small) e = cc e
names_atom says says' (no_atom no_variable no_constant) e = cc e

-- which has so many bytes
pub spelled_word : (multiple : List ℕ) (letter : ℕ) (digits : List ℕ) {times times' atom : ℕ}
    → Word (multiple ++ letter ∷ digits) (replicate times atom) → times' ≡ times
    → Spelled (multiple ++ letter ∷ digits)
    (Ok (record { times = times'; atom = atom; length = length multiple + 1 + length digits }))
spelled_word multiple letter digits w same =
    let size : length multiple + 1 + length digits ≡ length (multiple ++ letter ∷ digits) =
    omega (arith, length-append multiple (letter ∷ digits)) in
    rw (same, size) (Spelled.a_word w)

-- where they name none, the bytes are no word, or one that cannot be written
pub names_none :
    {bytes multiple digits more : List ℕ} {letter times number : ℕ} {r : Result ℕ Fault} {why : Fault} →
    Cut bytes multiple letter digits more →
    Multiple multiple times →
    Number digits number →
    Names letter number r →
    r ≡ Err why →
    Spelled (multiple ++ letter ∷ digits) (Err why)
names_none cut says says' (Names.variable is small) e = cc e
names_none cut says says' (Names.constant is small) e = cc e
names_none {why = why} cut says says' (Names.unwritable is large small) e =
    let same : fault.NotWritten ≡ why = cc e in
    rw (← same, is) (Spelled.unwritable (unwritable (spells says says') large small))
names_none {why = why} cut says says' (no_atom no_variable no_constant) e =
    let same : fault.NoAtom ≡ why = cc e in rw (← same) (no_name cut says' no_variable no_constant)

-- digits alone are no word
pub digits_alone : {bytes : List ℕ} → Each Digit bytes → NoWord bytes
digits_alone {bytes} each =
    record { no_word = λ front w. in_word front w; no_unwritable = λ front u. in_unwritable front u }
  where
    spelled_not : {word more : List ℕ} {times letter number : ℕ} → (Digit letter → ⊥) → Front bytes word more
        → Spells word times letter number → ⊥
    spelled_not {more = more} {letter = letter} other front (spells {multiple = m} {digits = d} says says') =
        let all : Each Digit (m ++ letter ∷ (d ++ more)) =
        subst (Each Digit) (front.splits ∙ append_assoc m (letter ∷ d) more) each in
        other (each_front (each_second m (letter ∷ (d ++ more)) all))

    in_word : {word more atoms : List ℕ} → Front bytes word more → Word word atoms → ⊥
    in_word front (variable spelled small) = spelled_not variable_letter_lem front spelled
    in_word front (constant spelled small) = spelled_not constant_letter_lem front spelled

    in_unwritable : {word more : List ℕ} → Front bytes word more → Unwritable word → ⊥
    in_unwritable front (unwritable spelled large small) = spelled_not variable_letter_lem front spelled

-- what the test of a digit tells
digit_is : (b : ℕ) → is_ascii_digit b ≡ true → Digit b
digit_is b e = grind arith

no_digit_is : (b : ℕ) → is_ascii_digit b ≡ false → Digit b → ⊥
no_digit_is b e digit = grind arith

-- digits up to the end
pub all_digits : (bytes : List ℕ) {m : ℕ} → m ≡ prefix_len is_ascii_digit bytes → length bytes ≤ m → Each Digit bytes
all_digits bytes counted all =
    rw (take_all (prefix_len is_ascii_digit bytes) bytes (omega (arith, counted))) at (each_prefix is_ascii_digit digit_is bytes)

-- the digits at the front, the byte behind them, and all the digits behind that
module _
    (bytes : List ℕ) {m n : ℕ} {multiple rest : List ℕ} (before : m ≡ prefix_len is_ascii_digit bytes)
    (front : multiple ≡ take m bytes) (back : rest ≡ drop m bytes) (some : 1 ≤ length rest)
    (behind : n ≡ prefix_len is_ascii_digit (take (length rest - 1) (drop 1 rest)))
  where
    -- the digits, as they are lent
    abbrev lent : List ℕ
    lent = take n (take (length rest - 1) (drop 1 rest))

    behind_is : n ≡ prefix_len is_ascii_digit (drop 1 rest)
    behind_is = behind ∙ ap (prefix_len is_ascii_digit) (part_to_end rest 1)

    lent_is : lent ≡ take n (drop 1 rest)
    lent_is = ap (take n) (part_to_end rest 1)

    rest_is : rest ≡ get_or rest 0 0 ∷ drop 1 rest
    rest_is = drop-cons rest 0 0 some

    pub scanned_cut : Cut bytes multiple (get_or rest 0 0) lent (drop n (drop 1 rest))
    scanned_cut =
        record {
          splits =
              sym (take-append-drop m bytes)
              ∙ ap₂ (λ (l r : List ℕ). l ++ r) (sym front) (sym back ∙ rest_is
              ∙ ap (λ (l : List ℕ). get_or rest 0 0 ∷ l) (sym (take-append-drop n (drop 1 rest))
              ∙ ap (λ (l : List ℕ). l ++ drop n (drop 1 rest)) (sym lent_is)));
          multiple_digits = rw (front, before) (each_prefix is_ascii_digit digit_is bytes);
          no_digit = stops_front (rw (← before) at (stops_prefix is_ascii_digit no_digit_is bytes)) (sym back ∙ rest_is);
          number_digits = rw (lent_is, behind_is) (each_prefix is_ascii_digit digit_is (drop 1 rest));
          stops = rw behind_is (stops_prefix is_ascii_digit no_digit_is (drop 1 rest));
        }
