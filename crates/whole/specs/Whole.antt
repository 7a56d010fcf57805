-- What Page and Values give together (document 01, "What every promise has to say", demand 3), by what they
-- promise and by their bytes alone.
use Rattle.std.specs.Prelude.{ℕ, zero, suc, ◌<◌, ◌≡◌, cond, eqb, length, get_or, take}
use mathlib.Core.List.{List, [], ◌∷◌, Memᴰ}
use Rattle.ac.specs.Pair.{Mode, variables}
use Rattle.ac.specs.Keys.{layout}
use Rattle.ac.specs.Values.{Binding}
use Rattle.ac.specs.Replacement.{Replacement, SameSum, Unifies, ComesFrom}
use Rattle.numbers.specs.Outcome.{given}
use Rattle.solver.specs.Values.{ValuesPromise}

-- "For each variable ascending, its byte, a byte count and the atoms": the bytes taken apart again. `rest` is
-- how many of the bytes in front are
-- atoms of the variable before.
abbrev pub taken_apart : ℕ → List ℕ → List Binding
taken_apart rest [] = []
taken_apart (suc rest) (atom ∷ bytes) = taken_apart rest bytes
taken_apart zero (variable ∷ []) = []
taken_apart zero (variable ∷ count ∷ bytes) =
    record { variable = variable; value = take count bytes } ∷ taken_apart count bytes

-- the value that stands with a variable, and nothing where it does not stand
abbrev pub value_in : List Binding → Replacement
value_in [] x = []
value_in (b ∷ bs) x = cond (eqb x b.variable) b.value (value_in bs x)

-- The replacement read back from bytes.
abbrev pub read_back : List ℕ → Replacement
read_back bytes = value_in (taken_apart 0 bytes)

-- Values asked for each of some keys, and answered: what is written in front of each buffer, in the order of
-- the keys.
pub data ValuesAsked (M : Mode) (L R : List ℕ) : List ℕ → List (List ℕ) → Type 0 where
  no_more : ValuesAsked M L R [] []
  one_more : {key n : ℕ} {out out' : List ℕ} {keys : List ℕ} {answers : List (List ℕ)}
      → ValuesPromise M L R key out (given n) out'
      → ValuesAsked M L R keys answers → ValuesAsked M L R (key ∷ keys) (take n out' ∷ answers)

-- the replacement read back from the answer at a place
abbrev pub replacement_at : List (List ℕ) → ℕ → Replacement
replacement_at answers i = read_back (get_or answers i [])

-- What is demanded of the replacements that are read back from the answers.
pub record WholeSet (M : Mode) (L R : List ℕ) (answers : List (List ℕ)) : Type 0 where
  -- each of them unifies
  pub each_unifies : (i : ℕ) → i < length answers → Unifies M L R (replacement_at answers i)
  -- every unifier comes from one of them
  pub every_comes_from_one : (θ : Replacement) → Unifies M L R θ
      → (i : ℕ) × (i < length answers) × ComesFrom M layout.new L R (replacement_at answers i) θ
  -- none comes from another
  pub none_from_another : (i j : ℕ) → i < length answers → j < length answers
      → ComesFrom M layout.new L R (replacement_at answers i) (replacement_at answers j) → i ≡ j
  -- none stands twice: two that give each variable of the pair the same sum stand at the same place
  pub none_twice : (i j : ℕ) → i < length answers → j < length answers
      → ((x : ℕ) → Memᴰ x (variables M L R)
      → SameSum (replacement_at answers i x) (replacement_at answers j x)) → i ≡ j
