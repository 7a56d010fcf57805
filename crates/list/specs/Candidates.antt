-- Where a number stands among the candidates of the groups.
use Rattle.std.specs.Prelude.{ℕ, ◌+◌, ◌/◌, ◌^◌, ◌<◌, ◌≤◌, ◌≡◌, Bool, true, false, cond, ◌&&◌, List, ltb, get_or, Option, Some, None}
use Rattle.ac.specs.Rows.{Groups}
use Rattle.ac.specs.Selection.{taken, all_reached}
use Rattle.ac.specs.Keys.{layout, selection_at, Fits, Candidate}
use Rattle.table.specs.Masks.{Sized, Marked}
use Rattle.table.specs.declared.masks.Masks.{Masks}
use Rattle.list.specs.Reach.{takes_all}

-- it is so of all groups whose rows the masks mark, where they fit a key
abbrev pub OfMarkedGroups : Masks → (Groups → Type 0) → Type 0
OfMarkedGroups masks So =
    (G : Groups) → Marked masks.reaching masks.unbalanced masks.places G → Fits layout G → So G

-- it is so of all groups that the masks are of, where they fit a key
abbrev pub OfTheirGroups : Masks → (Groups → Type 0) → Type 0
OfTheirGroups masks So =
    (G : Groups) → Sized masks.sizes masks.unbalanced G → Marked masks.reaching masks.unbalanced masks.places G
    → Fits layout G → So G

-- how many values the field of constant number g may have
abbrev pub field_limit : List ℕ → ℕ → ℕ → ℕ
field_limit sizes unbalanced g = cond (ltb g unbalanced) (get_or sizes (g + 1) 0) 1

-- on a candidate of all groups of these sizes, or where none of theirs comes before a later number
pub data StandsAmong (sizes : List ℕ) (unbalanced key : ℕ) : Option ℕ → Type 0 where
  on_candidate : ((G : Groups) → Sized sizes unbalanced G → Fits layout G → Candidate layout G key)
      → StandsAmong sizes unbalanced key None
  between : {later : ℕ} → key < later
      → ((G : Groups) → Sized sizes unbalanced G → Fits layout G
      → (other : ℕ) → key ≤ other → other < later → Candidate layout G other → ⊥)
      → StandsAmong sizes unbalanced key (Some later)

-- the rows that the key takes reach every place
abbrev pub fills : Groups → ℕ → ℕ → Bool
fills G places key = all_reached (taken layout.new G (selection_at layout G key)) places

-- and it takes all rows that must be taken: of a candidate, that its selection is admissible
abbrev pub admits : Groups → ℕ → ℕ → ℕ → Bool
admits G places must key = takes_all must key && fills G places key

-- no candidate of the block of 2 ^ bits numbers in which the key stands reaches every place
abbrev pub NoneInBlock : Groups → ℕ → ℕ → ℕ → Type 0
NoneInBlock G places key bits =
    (other : ℕ) → other / 2 ^ bits ≡ key / 2 ^ bits → Candidate layout G other → fills G places other ≡ false

-- the least number from one to before another that passes a test, or that there is none
pub data LeastWithin (passes : ℕ → Bool) (from end : ℕ) : Option ℕ → Type 0 where
  found : {key : ℕ} → from ≤ key → key < end → passes key ≡ true
      → ((other : ℕ) → from ≤ other → other < key → passes other ≡ false)
      → LeastWithin passes from end (Some key)
  nothing : ((other : ℕ) → from ≤ other → other < end → passes other ≡ false) → LeastWithin passes from end None
