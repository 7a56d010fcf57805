-- Sides read token by token: one token after another, and that bytes are read in one way only.
use Rattle.std.proofs.Common.{ℕ, ◌<◌, ◌≡◌, refl, ap, sym, subst, ◌∙◌, ◌⊎◌, inl, inr, List, [], ◌∷◌, ◌++◌, append_assoc, append-nil, arith, length, length-append}
use Rattle.pattern.specs.Characters.{plus_sign, opening_bracket, closing_bracket, zero_digit, Digit, Blank, space, tab, carriage_return, Stops}
use Rattle.pattern.specs.Word.{Word}
use Rattle.pattern.specs.Side.{Place, Token, blank, opening, word, plus, closing, Reads, done, next, Side}
use Rattle.pattern.proofs.Words.{word_once, word_first, word_some}

-- tokens, and then others
pub reads_then :
    {depth depth₁ depth₂ : ℕ} {place place₁ place₂ : Place} {bytes mid rest atoms further : List ℕ} →
    Reads depth place bytes atoms depth₁ place₁ mid →
    Reads depth₁ place₁ mid further depth₂ place₂ rest →
    Reads depth place bytes (atoms ++ further) depth₂ place₂ rest
reads_then done second = second
reads_then {bytes = bytes} {further = further} (next {atoms = a} {further = b} token first) second =
    rw (append_assoc a b further) (next token (reads_then first second))

-- one token
pub reads_one :
    {depth depth₁ : ℕ} {place place₁ : Place} {token more atoms : List ℕ} →
    Token more depth place token atoms depth₁ place₁ →
    Reads depth place (token ++ more) atoms depth₁ place₁ more
reads_one {depth} {depth₁} {place} {place₁} {token} {more} {atoms} t =
    subst (λ l. Reads depth place (token ++ more) l depth₁ place₁ more) (append-nil atoms) (next t done)

-- blanks, brackets and plus come before the digits and letters
pub blank_low : {b : ℕ} → Blank b → b < opening_bracket
blank_low space = omega arith
blank_low tab = omega arith
blank_low carriage_return = omega arith

-- no word begins with one of them
low_is_no_word : {token more rest atoms : List ℕ} {b : ℕ} → Word token atoms → Stops Digit more
    → b ∷ rest ≡ token ++ more
    → b < zero_digit → ⊥
low_is_no_word w stop e low = omega (arith, word_first (record { splits = e; stops = stop }) w refl)

-- What two tokens at the front of the same bytes have in common: everything.
record Same (more more' atoms atoms' : List ℕ) (depth depth' : ℕ) (place place' : Place) : Type 0 where
  same_more : more ≡ more'
  same_atoms : atoms ≡ atoms'
  same_depth : depth ≡ depth'
  same_place : place ≡ place'

token_once :
    {depth depth₁ depth₂ : ℕ} {place place₁ place₂ : Place} {token more atoms token' more' atoms' : List ℕ} →
    Token more depth place token atoms depth₁ place₁ →
    Token more' depth place token' atoms' depth₂ place₂ →
    token ++ more ≡ token' ++ more' →
    Same more more' atoms atoms' depth₁ depth₂ place₁ place₂
token_once (blank is) (blank is') e =
    record { same_more = cc e; same_atoms = refl; same_depth = refl; same_place = refl }
token_once (blank {b} is) opening e = absurd (let same : b ≡ opening_bracket = cc e in omega (arith, blank_low is))
token_once (blank is) (word w stop) e = absurd (low_is_no_word w stop e (omega (arith, blank_low is)))
token_once (blank {b} is) plus e = absurd (let same : b ≡ plus_sign = cc e in omega (arith, blank_low is))
token_once (blank {b} is) closing e = absurd (let same : b ≡ closing_bracket = cc e in omega (arith, blank_low is))
token_once opening (blank {b} is) e = absurd (let same : b ≡ opening_bracket = cc e in omega (arith, blank_low is))
token_once opening opening e = record { same_more = cc e; same_atoms = refl; same_depth = refl; same_place = refl }
token_once opening (word w stop) e = absurd (low_is_no_word w stop e (omega arith))
token_once (word w stop) (blank is) e = absurd (low_is_no_word w stop (sym e) (omega (arith, blank_low is)))
token_once (word w stop) opening e = absurd (low_is_no_word w stop (sym e) (omega arith))
token_once (word w stop) (word w' stop') e =
    let same = word_once stop w (record { splits = e; stops = stop' }) w' in
    record { same_more = sym same.0; same_atoms = same.1; same_depth = refl; same_place = refl }
token_once plus (blank {b} is) e = absurd (let same : b ≡ plus_sign = cc e in omega (arith, blank_low is))
token_once plus plus e = record { same_more = cc e; same_atoms = refl; same_depth = refl; same_place = refl }
token_once plus closing e = absurd (let same : plus_sign ≡ closing_bracket = cc e in omega arith)
token_once closing (blank {b} is) e = absurd (let same : b ≡ closing_bracket = cc e in omega (arith, blank_low is))
token_once closing plus e = absurd (let same : plus_sign ≡ closing_bracket = cc e in omega arith)
token_once closing closing e = record { same_more = cc e; same_atoms = refl; same_depth = refl; same_place = refl }

-- a token has at least a byte
token_some : {depth depth₁ : ℕ} {place place₁ : Place} {token more atoms : List ℕ}
    → Token more depth place token atoms depth₁ place₁ → 0 < length token
token_some (blank is) = omega arith
token_some opening = omega arith
token_some (word w stop) = word_some w
token_some plus = omega arith
token_some closing = omega arith

-- so no token stands at the front of no bytes
no_token : {depth depth₁ : ℕ} {place place₁ : Place} {token more atoms : List ℕ} {A : Type 0}
    → Token more depth place token atoms depth₁ place₁ → [] ≡ token ++ more → A
no_token {token = token} {more = more} t e = absurd (omega (arith, token_some t, ap length e, length-append token more))

-- how reading goes on: it has ended, or a token stands at the front
pub record Onward (depth : ℕ) (place : Place) (bytes atoms : List ℕ) (depth₂ : ℕ) (place₂ : Place)
    (rest : List ℕ) : Type 0 where
  pub token : List ℕ
  pub more : List ℕ
  pub first_atoms : List ℕ
  pub further : List ℕ
  pub depth₁ : ℕ
  pub place₁ : Place
  pub splits : bytes ≡ token ++ more
  pub atoms_are : atoms ≡ first_atoms ++ further
  pub first : Token more depth place token first_atoms depth₁ place₁
  pub then : Reads depth₁ place₁ more further depth₂ place₂ rest

pub record Over (depth : ℕ) (place : Place) (bytes atoms : List ℕ) (depth₂ : ℕ) (place₂ : Place)
    (rest : List ℕ) : Type 0 where
  pub same_bytes : bytes ≡ rest
  pub no_atoms : atoms ≡ []
  pub same_depth : depth ≡ depth₂
  pub same_place : place ≡ place₂

pub onward : {depth depth₂ : ℕ} {place place₂ : Place} {bytes atoms rest : List ℕ}
    → Reads depth place bytes atoms depth₂ place₂ rest
    → Over depth place bytes atoms depth₂ place₂ rest ⊎ Onward depth place bytes atoms depth₂ place₂ rest
onward done = inl (record { same_bytes = refl; no_atoms = refl; same_depth = refl; same_place = refl })
onward (next {token = token} {more = more} {atoms = atoms} {further = further} first then) =
    inr (record {
      token = token;
      more = more;
      first_atoms = atoms;
      further = further;
      depth₁ = _;
      place₁ = _;
      splits = refl;
      atoms_are = refl;
      first = first;
      then = then;
    })

-- What was read of some bytes is the beginning of every way to read all of them, and the rest is read from there.
pub record Rest (depth : ℕ) (place : Place) (mid read atoms : List ℕ) (depth₂ : ℕ) (place₂ : Place) : Type 0 where
  pub further : List ℕ
  pub atoms_are : atoms ≡ read ++ further
  pub then : Reads depth place mid further depth₂ place₂ []

-- where the token that was read is the one that stands at the front, and this holds of what comes after it
rest_behind :
    {depth depth₁ depth₂ depth₃ : ℕ} {place place₁ place₂ place₃ : Place} {token more mid atoms read all : List ℕ} →
    Token more depth place token atoms depth₁ place₁ →
    ((further : List ℕ) → Reads depth₁ place₁ more further depth₃ place₃ []
    → Rest depth₂ place₂ mid read further depth₃ place₃) →
    Over depth place (token ++ more) all depth₃ place₃ [] ⊎ Onward depth place (token ++ more) all depth₃ place₃ [] →
    Rest depth₂ place₂ mid (atoms ++ read) all depth₃ place₃
rest_behind token behind (inl over) = no_token token (sym over.same_bytes)
rest_behind
    {depth₁ = depth₁} {depth₃ = depth₃} {place₁ = place₁} {place₃ = place₃} {more = more} {atoms = atoms} {read = read}
    token behind (inr on) =
    let same = token_once token on.first on.splits in
    let then : Reads depth₁ place₁ more on.further depth₃ place₃ [] =
    rw (same.same_depth, same.same_place, same.same_more) on.then in
    let rest = behind on.further then in
    record {
      further = rest.further;
      atoms_are = cc (on.atoms_are, same.same_atoms, rest.atoms_are, append_assoc atoms read rest.further);
      then = rest.then;
    }

pub reads_rest :
    {depth depth₁ depth₂ : ℕ} {place place₁ place₂ : Place} {bytes mid read atoms : List ℕ} →
    Reads depth place bytes read depth₁ place₁ mid →
    Reads depth place bytes atoms depth₂ place₂ [] →
    Rest depth₁ place₁ mid read atoms depth₂ place₂
reads_rest done all = record { further = _; atoms_are = refl; then = all }
reads_rest (next token first) all = rest_behind token (λ further then. reads_rest first then) (onward all)

-- nothing is read of no bytes
pub read_nothing : {depth depth₂ : ℕ} {place place₂ : Place} {atoms : List ℕ}
    → Reads depth place [] atoms depth₂ place₂ []
    → Over depth place [] atoms depth₂ place₂ []
read_nothing r = go (onward r)
  where
    go : {depth depth₂ : ℕ} {place place₂ : Place} {atoms : List ℕ}
        → Over depth place [] atoms depth₂ place₂ [] ⊎ Onward depth place [] atoms depth₂ place₂ []
        → Over depth place [] atoms depth₂ place₂ []
    go (inl over) = over
    go (inr on) = no_token on.first on.splits

-- So bytes are one side.
pub side_unique : {bytes atoms atoms' : List ℕ} → Side bytes atoms → Side bytes atoms' → atoms ≡ atoms'
side_unique {atoms = atoms} s s' =
    let rest = reads_rest s.sum s'.sum in
    let None-more = (read_nothing rest.then).no_atoms in
    sym (rest.atoms_are ∙ ap (λ (l : List ℕ). atoms ++ l) None-more ∙ append-nil atoms)
