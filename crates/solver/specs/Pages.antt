-- Pages asked for one after the other (document 01, "The questions"), by what Page promises alone.
use Rattle.std.specs.Prelude.{ℕ, ◌≡◌, false, List, [], ◌∷◌, ◌++◌, take}
use Rattle.ac.specs.Pair.{Mode}
use Rattle.ac.specs.Keys.{Beginning, after}
use Rattle.numbers.specs.Numbers.{said_of}
use Rattle.numbers.specs.Outcome.{refused, given}
use Rattle.numbers.specs.declared.Refusal.TheVariants.{LastKey}
use Rattle.solver.specs.Page.{PageWritten, PagePromise}

-- Pages asked for one after the other from a beginning, each after the last key of the one before and each of
-- any count; it ends where no more follow or where the key was the last. A page is what is written in front
-- of the buffer.
pub data PagesAsked (M : Mode) (L R : List ℕ) : Beginning → List (List ℕ) → Type 0 where
  one_more : {begin : Beginning} {wanted : ℕ} {page : PageWritten} {out out' : List ℕ} {pages : List (List ℕ)}
      (before : List ℕ) (last : ℕ)
      → PagePromise M L R begin wanted out (given page) out' → take page.written out' ≡ before ++ last ∷ []
      → PagesAsked M L R (after last) pages → PagesAsked M L R begin (take page.written out' ∷ pages)
  no_more : {begin : Beginning} {wanted : ℕ} {page : PageWritten} {out out' : List ℕ}
      → PagePromise M L R begin wanted out (given page) out' → page.more ≡ false
      → PagesAsked M L R begin (take page.written out' ∷ [])
  was_last : {begin : Beginning} {wanted : ℕ} {out out' : List ℕ}
      → PagePromise M L R begin wanted out (refused (said_of LastKey)) out' → PagesAsked M L R begin []

-- how many candidate keys were weighed for each of them (document 02, R-8)
abbrev pub weighed_each : {M : Mode} {L R : List ℕ} {begin : Beginning} {pages : List (List ℕ)}
    → PagesAsked M L R begin pages → List ℕ
weighed_each (one_more {page = page} before last promise ends rest) = page.weighed ∷ weighed_each rest
weighed_each (no_more {page = page} promise ends) = page.weighed ∷ []
weighed_each (was_last promise) = []
