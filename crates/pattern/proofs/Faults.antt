-- Where a fault is told there is no side.
use Rattle.std.proofs.Common.{ℕ, ◌+◌, ◌≤◌, ◌<◌, ◌≡◌, refl, ap, sym, ◌∙◌, ◌⊎◌, inl, inr, List, [], ◌∷◌, ◌++◌, arith, length, length-append}
use Rattle.pattern.specs.Characters.{plus_sign, opening_bracket, closing_bracket, zero_digit, Blank}
use Rattle.pattern.specs.Word.{Word, Unwritable}
use Rattle.pattern.specs.Side.{Place, before_item, after_item, Token, blank, opening, word, plus, closing, Reads, Side}
use Rattle.pattern.specs.Fault.{OfWord, Front, NoWord, Stuck, SideFault}
use Rattle.pattern.specs.declared.Fault.{Fault}
use Rattle.pattern.proofs.Words.{word_once, word_is_writable, word_first, unwritable_first}
use Rattle.pattern.proofs.Readings.{blank_low, Onward, Over, onward, read_nothing, reads_rest}

-- What stands at the front of some bytes where an item must come: a blank, a bracket or a word.
data Item (bytes atoms : List ℕ) : Type 0 where
  a_blank : {b : ℕ} {more : List ℕ} → Blank b → bytes ≡ b ∷ more → Item bytes atoms
  a_bracket : {more : List ℕ} → bytes ≡ opening_bracket ∷ more → Item bytes atoms
  a_word : {token more first : List ℕ} → Front bytes token more → Word token first → length first ≤ length atoms
      → Item bytes atoms

-- And where one has ended: a blank, a plus or, where one is open, a closing bracket.
data Behind (depth : ℕ) (bytes : List ℕ) : Type 0 where
  a_blank : {b : ℕ} {more : List ℕ} → Blank b → bytes ≡ b ∷ more → Behind depth bytes
  a_plus : {more : List ℕ} → bytes ≡ plus_sign ∷ more → Behind depth bytes
  a_bracket : {more : List ℕ} → bytes ≡ closing_bracket ∷ more → (depth ≡ 0 → ⊥) → Behind depth bytes

token_item : {depth depth₁ : ℕ} {place₁ : Place} {bytes token more atoms first : List ℕ}
    → Token more depth before_item token first depth₁ place₁ → bytes ≡ token ++ more → length first ≤ length atoms
    → Item bytes atoms
token_item (blank is) e e' = Item.a_blank is e
token_item opening e e' = Item.a_bracket e
token_item (word w stop) e e' = Item.a_word (record { splits = e; stops = stop }) w e'

token_behind : {depth depth₁ : ℕ} {place₁ : Place} {bytes token more atoms : List ℕ}
    → Token more depth after_item token atoms depth₁ place₁ → bytes ≡ token ++ more → Behind depth bytes
token_behind (blank is) e = Behind.a_blank is e
token_behind plus e = Behind.a_plus e
token_behind closing e = Behind.a_bracket e (λ none_open. omega arith)

-- a sum that is not at its end goes on with an item
item_comes : {depth : ℕ} {bytes atoms : List ℕ} → Reads depth before_item bytes atoms 0 after_item [] → Item bytes atoms
item_comes {depth} {bytes} {atoms} r = go (onward r)
  where
    go : Over depth before_item bytes atoms 0 after_item [] ⊎ Onward depth before_item bytes atoms 0 after_item []
        → Item bytes atoms
    go (inl over) = cc over.same_place
    go (inr on) = token_item on.first on.splits
        (omega (arith, ap length on.atoms_are, length-append on.first_atoms on.further))

behind_comes : {depth b : ℕ} {bytes atoms : List ℕ} → Reads depth after_item (b ∷ bytes) atoms 0 after_item []
    → Behind depth (b ∷ bytes)
behind_comes {depth} {b} {bytes} {atoms} r = go (onward r)
  where
    go : Over depth after_item (b ∷ bytes) atoms 0 after_item [] ⊎ Onward depth after_item
        (b ∷ bytes) atoms 0 after_item []
        → Behind depth (b ∷ bytes)
    go (inl over) = cc over.same_bytes
    go (inr on) = token_behind on.first on.splits

-- no item begins with a plus or a closing bracket
no_item : {b : ℕ} {more atoms : List ℕ} → opening_bracket < b → b < zero_digit → Item (b ∷ more) atoms → ⊥
no_item {b} above below (Item.a_blank {b = c} is e) = let same : b ≡ c = cc e in omega (arith, blank_low is)
no_item {b} above below (Item.a_bracket e) = let same : b ≡ opening_bracket = cc e in omega arith
no_item {b} above below (Item.a_word front w e) = omega (arith, word_first front w refl)

-- nor is what begins with such a byte read
no_word_item : {b : ℕ} {more atoms : List ℕ} → OfWord b → NoWord (b ∷ more) → Item (b ∷ more) atoms → ⊥
no_word_item {b} of none_is (Item.a_blank {b = c} is e) = of.no_blank (rw (let same : b ≡ c = cc e in same) is)
no_word_item {b} of none_is (Item.a_bracket e) = of.no_opening (cc e)
no_word_item of none_is (Item.a_word front w e) = none_is.no_word front w

-- nothing behind an item begins with an opening bracket, or as a word
opening_not_behind : {depth : ℕ} {more : List ℕ} → Behind depth (opening_bracket ∷ more) → ⊥
opening_not_behind (Behind.a_blank {b} is e) = let same : opening_bracket ≡ b = cc e in omega (arith, blank_low is)
opening_not_behind (Behind.a_plus e) = let same : opening_bracket ≡ plus_sign = cc e in omega arith
opening_not_behind (Behind.a_bracket e some) = let same : opening_bracket ≡ closing_bracket = cc e in omega arith

word_not_behind : {depth b : ℕ} {more : List ℕ} → OfWord b → Behind depth (b ∷ more) → ⊥
word_not_behind {b = b} of (Behind.a_blank {b = c} is e) = of.no_blank (rw (let same : b ≡ c = cc e in same) is)
word_not_behind of (Behind.a_plus e) = of.no_plus (cc e)
word_not_behind of (Behind.a_bracket e some) = of.no_closing (cc e)

-- and no bracket is closed where none is open
closing_not_behind : {more : List ℕ} → Behind 0 (closing_bracket ∷ more) → ⊥
closing_not_behind (Behind.a_blank {b} is e) = let same : closing_bracket ≡ b = cc e in omega (arith, blank_low is)
closing_not_behind (Behind.a_plus e) = let same : closing_bracket ≡ plus_sign = cc e in omega arith
closing_not_behind (Behind.a_bracket e some) = some refl

-- a word that cannot be written is no item
unwritable_item : {bytes token more atoms : List ℕ} → Front bytes token more → Unwritable token → Item bytes atoms → ⊥
unwritable_item front u (Item.a_blank is e) = omega (arith, blank_low is, unwritable_first front u e)
unwritable_item front u (Item.a_bracket e) = omega (arith, unwritable_first front u e)
unwritable_item front u (Item.a_word front' w e) =
    word_is_writable front'.stops w
    (record { splits = sym front'.splits ∙ front.splits; stops = front.stops }) u

-- a word is the item that begins with it
word_item : {bytes token more first atoms : List ℕ} → Front bytes token more → Word token first → Item bytes atoms
    → length first ≤ length atoms
word_item front w (Item.a_blank is e) = absurd (omega (arith, blank_low is, word_first front w e))
word_item front w (Item.a_bracket e) = absurd (omega (arith, word_first front w e))
word_item front w (Item.a_word front' w' e) =
    let same = (word_once front'.stops w' (record {
      splits = sym front'.splits
          ∙ front.splits;
      stops = front.stops;
    }) w).1 in
    omega (arith, ap length same)

-- Where reading is stuck the rest of a side cannot follow.
stuck_ends : {depth : ℕ} {place : Place} {atoms further rest : List ℕ} {why : Fault} → Stuck depth place atoms rest why
    → Reads depth place rest further 0 after_item [] → length atoms + length further ≤ 64 → ⊥
stuck_ends Stuck.empty_side r few = cc (read_nothing r).same_place
stuck_ends (Stuck.nothing_follows some) r few = cc (read_nothing r).same_place
stuck_ends Stuck.plus_first r few = no_item (omega arith) (omega arith) (item_comes r)
stuck_ends Stuck.closing_first r few = no_item (omega arith) (omega arith) (item_comes r)
stuck_ends Stuck.opening_after r few = opening_not_behind (behind_comes r)
stuck_ends (Stuck.word_after of) r few = word_not_behind of (behind_comes r)
stuck_ends Stuck.not_opened r few = closing_not_behind (behind_comes r)
stuck_ends Stuck.not_closed r few = omega (arith, (read_nothing r).same_depth)
stuck_ends (Stuck.no_atom of none_is) r few = no_word_item of none_is (item_comes r)
stuck_ends (Stuck.not_written front u) r few = unwritable_item front u (item_comes r)
stuck_ends (Stuck.too_many front w many) r few = omega (arith, word_item front w (item_comes r))

-- So bytes that a fault is told of are no side.
pub fault_is_no_side : {bytes atoms : List ℕ} {place : ℕ} {why : Fault} → SideFault bytes place why
    → Side bytes atoms → ⊥
fault_is_no_side f s =
    let rest = reads_rest f.reads s.sum in
    stuck_ends f.stuck rest.then
    (omega (arith, s.at_most, ap length rest.atoms_are, length-append f.atoms rest.further))

-- The place of a fault lies in the side or right behind it.
pub fault_within : {bytes : List ℕ} {place : ℕ} {why : Fault} → SideFault bytes place why → place ≤ length bytes
fault_within f = omega (arith, f.place_is)
