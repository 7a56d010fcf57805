-- Demand 3 in Page's contract: what an outcome says of the pair's unifiers.
use Rattle.std.specs.Prelude.{ℕ, ◌<◌, ◌≡◌, false, List, get_or}
use Rattle.ac.specs.Pair.{Mode}
use Rattle.ac.specs.Rows.{Groups, GroupsOf}
use Rattle.ac.specs.Selection.{value}
use Rattle.ac.specs.Keys.{layout, selection_at, Beginning, start}
use Rattle.ac.specs.Replacement.{Replacement, Unifies, ComesFrom}
use Rattle.numbers.specs.First.{NoneOf}
use Rattle.numbers.specs.Numbers.{said_of}
use Rattle.numbers.specs.Order.{rows_numbers}
use Rattle.numbers.specs.Outcome.{Outcome, refused, given}
use Rattle.numbers.specs.declared.Refusal.TheVariants.{NoUnifier, NotListed, LastKey}
use Rattle.solver.specs.Page.{PageGiven, PageWritten}

-- some replacement unifies the sides; none does
abbrev pub SomeUnifies : Mode → List ℕ → List ℕ → Type 0
SomeUnifies M L R = (θ : Replacement) × Unifies M L R θ

abbrev pub NoneUnifies : Mode → List ℕ → List ℕ → Type 0
NoneUnifies M L R = (θ : Replacement) → Unifies M L R θ → ⊥

-- the replacement that a key names: the values of its selection
abbrev pub replacement_of : Mode → List ℕ → List ℕ → Groups → ℕ → Replacement
replacement_of M L R G key = value M layout.new L R G (selection_at layout G key)

pub record PageExistence (M : Mode) (L R : List ℕ) (begin : Beginning) (wanted : ℕ) (out : List ℕ)
    (outcome : Outcome PageWritten) (out' : List ℕ) : Type 0 where
  -- 13 exactly where no replacement unifies the sides: only there, and always there, unless a number that
  -- comes before it is given
  pub only_where_none : outcome ≡ refused (said_of NoUnifier) → NoneUnifies M L R
  pub always_where_none : NoneOf (PageGiven M L R begin wanted out) rows_numbers
      → NoneUnifies M L R → outcome ≡ refused (said_of NoUnifier)
  -- 14, 15 and a page only where one does
  pub unlisted_where_some : outcome ≡ refused (said_of NotListed) → SomeUnifies M L R
  pub last_where_some : outcome ≡ refused (said_of LastKey) → SomeUnifies M L R
  pub page_where_some : {page : PageWritten} → outcome ≡ given page → SomeUnifies M L R
  -- each key that is written names a unifier
  pub written_unify : {G : Groups} {page : PageWritten} (i : ℕ) → GroupsOf M L R G
      → outcome ≡ given page → i < page.written
      → Unifies M L R (replacement_of M L R G (get_or out' i 0))
  -- every unifier comes from one of the keys on a page from the start after which no more follow
  pub written_cover : {G : Groups} {page : PageWritten} → GroupsOf M L R G → begin ≡ start
      → outcome ≡ given page → page.more ≡ false → (θ : Replacement) → Unifies M L R θ
      → (i : ℕ) × (i < page.written) × ComesFrom M layout.new L R (replacement_of M L R G (get_or out' i 0)) θ
  -- none comes from another: of two keys that are written the replacement of the one comes from that of the
  -- other only if they stand at one place
  pub written_independent : {G : Groups} {page : PageWritten} (i j : ℕ) → GroupsOf M L R G
      → outcome ≡ given page → i < page.written → j < page.written
      → ComesFrom M layout.new L R (replacement_of M L R G (get_or out' i 0))
      (replacement_of M L R G (get_or out' j 0))
      → i ≡ j
