-- Pages of the list (document 01, "The questions").
use Rattle.std.specs.Prelude.{ℕ, ◌+◌, ◌<◌, ◌≤◌, ◌≡◌, Bool, length, take, ltb}
use mathlib.Core.List.{List, Memᴰ}
use Rattle.ac.specs.Lists.{flat_map, Ascending}
use Rattle.ac.specs.Keys.{Beginning, start, after, remaining}

-- the next keys, as many as are wanted or, if fewer remain, all that remain
abbrev pub page : Beginning → ℕ → List ℕ → List ℕ
page begin wanted keys = take wanted (remaining begin keys)

-- whether more follow
abbrev pub more : Beginning → ℕ → List ℕ → Bool
more begin wanted keys = ltb wanted (length (remaining begin keys))

-- the pages one after the other
abbrev pub together : List (List ℕ) → List ℕ
together pages = flat_map (λ page. page) pages

-- They hold together the whole list, no key twice.
pub record WholeList (keys : List ℕ) (pages : List (List ℕ)) : Type 0 where
  pub whole : together pages ≡ keys
  pub none_twice : Ascending ◌<◌ (together pages)

-- the least key of the list at or above a number
pub record LeastFrom (keys : List ℕ) (bound key : ℕ) : Type 0 where
  pub on_list : Memᴰ key keys
  pub at_or_above : bound ≤ key
  pub least : (other : ℕ) → Memᴰ other keys → bound ≤ other → key ≤ other

-- the list has no key at or above a number
abbrev pub NoneFrom : List ℕ → ℕ → Type 0
NoneFrom keys bound = (other : ℕ) → Memᴰ other keys → other < bound

-- the least number that may come after the beginning
abbrev pub bound_of : Beginning → ℕ
bound_of start = 0
bound_of (after key) = key + 1
