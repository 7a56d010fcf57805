-- The question Page (document 01, "The questions"): its request, which numbers it gives, and what it promises.
use Rattle.std.specs.Prelude.{ℕ, zero, suc, ◌<◌, Bool, List, length, Result, Ok, Err}
use Rattle.ac.specs.Lists.{receives}
use Rattle.ac.specs.Limits.{limits}
use Rattle.ac.specs.Pair.{Mode}
use Rattle.ac.specs.Rows.{Groups, GroupsOf}
use Rattle.ac.specs.Keys.{layout, keys, start, after, Beginning}
use Rattle.ac.specs.Pages.{page, more}
use Rattle.ac.specs.Weighed.{candidates, weighed}
use Rattle.numbers.specs.Order.{page_numbers}
use Rattle.numbers.specs.Told.{told}
use Rattle.numbers.specs.Outcome.{Outcome, refused, given, Promise}
use Rattle.numbers.specs.declared.Refusal.{Refusal}
use Rattle.pair.specs.Given.{LowestFar, PairGiven}
use Rattle.list.specs.Given.{ListGiven}
use Rattle.solver.specs.declared.page.Begin.{Begin}
use Rattle.solver.specs.declared.page.Begin.TheVariants.{Start, After}
use Rattle.solver.specs.declared.page.Written.{Written}

-- where to begin, either the start or after a key
abbrev pub beginning_of : Begin → Beginning
beginning_of Start = start
beginning_of (After key) = after key

-- how many are wanted, 0 meaning 200
abbrev pub wanted_count : ℕ → ℕ
wanted_count zero = 200
wanted_count (suc n) = suc n

-- The rows of the table that Page gives: when each number is given, whatever else is wrong.
pub data PageGiven (M : Mode) (L R : List ℕ) (begin : Beginning) (wanted : ℕ) (out : List ℕ) : ℕ → Type 0 where
  -- 7 to 12 speak of the two sides
  of_the_sides : {n : ℕ} → PairGiven limits M L R n → PageGiven M L R begin wanted out n
  -- 13 to 15 of the list of the pair's groups
  of_the_list : {n : ℕ} {G : Groups} → GroupsOf M L R G → ListGiven (keys M layout L R G) begin n
      → PageGiven M L R begin wanted out n
  -- a lent buffer is too short
  short_buffer : length out < wanted_count wanted → PageGiven M L R begin wanted out 16

-- What Page returns: the number written and whether more follow; and how many candidate keys it weighed (document 02,
-- R-8).
pub record PageWritten : Type 0 where
  pub written : ℕ
  pub more : Bool
  pub weighed : ℕ

-- document 01's values or its number for each case of the result
abbrev pub told_page : Result Written Refusal → Outcome PageWritten
told_page = told (λ page. record { written = page.written; more = page.more; weighed = page.weighed })

module _ (M : Mode) (L R : List ℕ) (G : Groups) (begin : Beginning) (wanted : ℕ) where
  -- the next keys, as many as are wanted or, if fewer remain, all that remain
  abbrev pub next_keys : List ℕ
  next_keys = page begin (wanted_count wanted) (keys M layout L R G)

  -- whether more follow
  abbrev pub more_follow : Bool
  more_follow = more begin (wanted_count wanted) (keys M layout L R G)

  -- how many candidates were weighed: those after the beginning, up to and including the last key written
  abbrev pub keys_weighed : ℕ
  keys_weighed = weighed begin next_keys (candidates M layout G)

  -- the values that are returned
  abbrev pub page_written : PageWritten
  page_written = record { written = length next_keys; more = more_follow; weighed = keys_weighed }

-- The buffer receives the next keys. The number written and whether more follow are returned, and how many candidate
-- keys were weighed.
pub data PageGives (M : Mode) (L R : List ℕ) (begin : Beginning) (wanted : ℕ) (out : List ℕ) : PageWritten
    → List ℕ → Type 0 where
  next : {G : Groups} → GroupsOf M L R G
      → PageGives M L R begin wanted out (page_written M L R G begin wanted)
      (receives out (next_keys M L R G begin wanted))

-- What Page promises of its outcome and of the lent buffer at exit.
abbrev pub PagePromise : Mode → List ℕ → List ℕ → Beginning → ℕ → List ℕ → Outcome PageWritten → List ℕ → Type 0
PagePromise M L R begin wanted out =
    Promise (PageGiven M L R begin wanted out) (LowestFar limits L R) page_numbers (PageGives M L R begin wanted out) out
