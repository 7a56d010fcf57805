-- The sides of a line's pair can be written as a block: each has 1 to 64 atoms, the left one's are v0 to v31 and
-- constants, and the right one's v32 to v63 and constants.
use Rattle.std.proofs.Common.{ℕ, zero, suc, ◌+◌, ◌≤◌, ◌<◌, ◌≡◌, refl, subst, ◌⊎◌, inl, inr, List, ◌∷◌, ◌++◌, map, arith, length, replicate, length-append}
use lib.ListN.{length-replicate, length-map}
use Rattle.ac.specs.Apart.{renamed_apart}
use Rattle.block.specs.Front.{MayBeWritten}
use Rattle.block.proofs.Renamed.{variable_higher, constant_stays}
use Rattle.pattern.specs.Characters.{zero_digit, Each, none, one_more}
use Rattle.pattern.specs.Word.{Number, one_digit, two_digits, Multiple, once, often, Spells, spells, Word, variable, constant}
use Rattle.pattern.specs.Side.{Place, before_item, after_item, Token, blank, opening, word, plus, closing, Reads, done, next, Side}
use Rattle.pattern.specs.Line.{PairLine, pair}
use Rattle.pattern.proofs.Spans.{each_append}

-- a number that does not begin with 0 is not 0, ..
number_some : {d times : ℕ} {digits : List ℕ} → (d ≡ zero_digit → ⊥) → Number (d ∷ digits) times → 0 < times
number_some other (one_digit h) = omega (arith, other)
number_some other (two_digits h h') = omega (arith, other)

-- .. so every multiple is 1 or more
multiple_some : {digits : List ℕ} {times : ℕ} → Multiple digits times → 0 < times
multiple_some once = omega arith
multiple_some (often other says) = number_some other says

spelled_times : {bytes : List ℕ} {times letter number : ℕ} → Spells bytes times letter number → 0 < times
spelled_times (spells says says') = multiple_some says

each_same : {Such : ℕ → Type 0} (a n : ℕ) → Such a → Each Such (replicate n a)
each_same a zero h = none
each_same a (suc n) h = one_more h (each_same a n h)

-- a word stands for at least one atom, and each of them may be written
word_writable : {bytes atoms : List ℕ} → Word bytes atoms → (0 < length atoms) × Each MayBeWritten atoms
word_writable (variable {times = times} {number = number} spelled small) = (
  omega (arith, spelled_times spelled, length-replicate times number),
  each_same number times (inl small),
)
word_writable (constant {times = times} {number = number} spelled small) =
    let low : 64 ≤ 64 + number = omega arith in
    let high : 64 + number < 128 = omega arith in (
      omega (arith, spelled_times spelled, length-replicate times (64 + number)),
      each_same (64 + number) times (inr (low, high)),
    )

-- so does every token
token_writable : {depth depth₁ : ℕ} {place place₁ : Place} {token more atoms : List ℕ}
    → Token more depth place token atoms depth₁ place₁ → Each MayBeWritten atoms
token_writable (blank is) = none
token_writable opening = none
token_writable (word w stop) = (word_writable w).1
token_writable plus = none
token_writable closing = none

reads_writable : {depth depth₁ : ℕ} {place place₁ : Place} {bytes atoms rest : List ℕ}
    → Reads depth place bytes atoms depth₁ place₁ rest → Each MayBeWritten atoms
reads_writable done = none
reads_writable (next token more) = each_append (token_writable token) (reads_writable more)

-- from before an item to behind one a word was read
token_item : {depth depth₁ : ℕ} {place₁ : Place} {token more atoms : List ℕ}
    → Token more depth before_item token atoms depth₁ place₁ → (place₁ ≡ before_item) ⊎ (0 < length atoms)
token_item (blank is) = inl refl
token_item opening = inl refl
token_item (word w stop) = inr (word_writable w).0

reads_some : {depth depth₁ : ℕ} {place place₁ : Place} {bytes atoms rest : List ℕ}
    → Reads depth place bytes atoms depth₁ place₁ rest → place ≡ before_item → place₁ ≡ after_item → 0 < length atoms
reads_some done e e' = cc (e, e')
reads_some {depth} {place = place} (next {depth₁ = d} {place₁ = p} {token = t} {more = m} {atoms = a} {further = f} token more) e e' =
    go (token_item (subst (λ x. Token m depth x t a d p) e token)) (λ still. reads_some more still e')
  where
    go : (p ≡ before_item) ⊎ (0 < length a) → (p ≡ before_item → 0 < length f) → 0 < length (a ++ f)
    go (inl still) later = omega (arith, later still, length-append a f)
    go (inr some) later = omega (arith, some, length-append a f)

pub side_some : {bytes atoms : List ℕ} → Side bytes atoms → 0 < length atoms
side_some s = reads_some s.sum refl refl

-- an atom of the right side: v32 to v63, or a constant
abbrev pub OnTheRight : ℕ → Type 0
OnTheRight a = (32 ≤ a) × (a < 128)

renamed-right : (a : ℕ) → MayBeWritten a → OnTheRight (renamed_apart a)
renamed-right a (inl small) =
    let is : renamed_apart a ≡ a + 32 = variable_higher (let h : a < 64 = omega arith in h) in omega (arith, is)
renamed-right a (inr between) = let is : renamed_apart a ≡ a = constant_stays between.0 in omega (arith, is, between)

each_renamed : {atoms : List ℕ} → Each MayBeWritten atoms → Each OnTheRight (map renamed_apart atoms)
each_renamed none = none
each_renamed (one_more {b} h each) = one_more (renamed-right b h) (each_renamed each)

-- What holds of the sides of every line's pair.
pub record CanBeWritten (left right : List ℕ) : Type 0 where
  pub left_some : 0 < length left
  pub left_most : length left ≤ 64
  pub left_each : Each MayBeWritten left
  pub right_some : 0 < length right
  pub right_most : length right ≤ 64
  pub right_each : Each OnTheRight right

pub pair_writable : {line left right : List ℕ} → PairLine line left right → CanBeWritten left right
pair_writable (pair {right = right} s t said) =
    let many = length-map right renamed_apart in
    record {
      left_some = side_some s;
      left_most = s.at_most;
      left_each = reads_writable s.sum;
      right_some = omega (arith, side_some t, many);
      right_most = omega (arith, t.at_most, many);
      right_each = each_renamed (reads_writable t.sum);
    }
