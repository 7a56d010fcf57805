-- The list of the pair that a table, or masks, are of, the next key on it, and whether a key is on it.
use Rattle.std.specs.Prelude.{ℕ, Option, Some, None, Result, Ok, Err}
use mathlib.Core.List.{List, Memᴰ}
use Rattle.ac.specs.Pair.{Mode}
use Rattle.ac.specs.Keys.{layout, keys, after}
use Rattle.ac.specs.Pages.{LeastFrom, NoneFrom}
use Rattle.numbers.specs.Numbers.{number_of}
use Rattle.numbers.specs.Order.{key_numbers}
use Rattle.numbers.specs.First.{First}
use Rattle.numbers.specs.declared.Refusal.{Refusal}
use Rattle.table.specs.Table.{TableOf, groups_in}
use Rattle.table.specs.Masks.{MasksOf}
use Rattle.table.specs.declared.Table.{Table}
use Rattle.table.specs.declared.masks.Masks.{Masks}
use Rattle.list.specs.Given.{ListGiven}

-- It is so of every pair that the table is of; it is so of the list of every such pair.
abbrev pub OfItsPair : Table → (Mode → List ℕ → List ℕ → Type 0) → Type 0
OfItsPair table So = (M : Mode) (L R : List ℕ) → TableOf M L R table → So M L R

abbrev pub OfItsList : Table → (List ℕ → Type 0) → Type 0
OfItsList table So = OfItsPair table (λ M L R. So (keys M layout L R (groups_in table)))

-- it is so of the list of every pair of every table that the masks are of
abbrev pub OfTheirList : Masks → (List ℕ → Type 0) → Type 0
OfTheirList masks So = (table : Table) → MasksOf table masks → OfItsList table So

-- the least key of the list from a number on, or that the list has none
pub data NextFrom (keys : List ℕ) (from : ℕ) : Option ℕ → Type 0 where
  found : {key : ℕ} → LeastFrom keys from key → NextFrom keys from (Some key)
  nothing : NoneFrom keys from → NextFrom keys from None

-- that the key is on the list, or 13 or 14
pub data LookedUp (listed : List ℕ) (key : ℕ) : Result (Unit {0}) Refusal → Type 0 where
  is_listed : Memᴰ key listed → LookedUp listed key (Ok tt)
  is_refused : {why : Refusal} → First (ListGiven listed (after key)) key_numbers (number_of why)
      → LookedUp listed key (Err why)
