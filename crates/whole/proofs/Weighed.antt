-- How many candidate keys Page weighs (document 02, R-8), by what it promises, in every mode.
--
-- `weighed_at_most`. It is at most the product of the constants' group sizes and of two for each balanced row.
-- `weighed-add-up`. For pages asked for one after the other from the start, the counts add up to the number of the
-- candidates up to the last key: every candidate up to there is counted, and none twice.
use Prim.Native.Nat.{ℕ, ◌<◌, ◌≤◌}
use native.Mathlib.Omega.{arith}
use mathlib.Core.Path.{◌≡◌, refl, sym, ap, subst, ◌∙◌}
use mathlib.Core.List.Memᴰ
use mathlib.Core.List.{List, [], ◌∷◌, ◌++◌, append-nil, Memᴰ}
use lib.ListN.{take}
use lib.Seq.{append_snoc}
use Rattle.ac.specs.Lists.{sum, Ascending}
use Rattle.ac.specs.Pair.{Mode}
use Rattle.ac.specs.Rows.{Groups, GroupsOf}
use Rattle.ac.specs.Keys.{layout, keys, Beginning, start, after, remaining}
use Rattle.ac.specs.Pages.{together, bound_of}
use Rattle.ac.specs.Counting.{selection_count}
use Rattle.ac.specs.Weighed.{candidates, weighed}
use Rattle.ac.proofs.Listed.{keys_ascending}
use Rattle.ac.proofs.Members.{taken_member}
use Rattle.ac.proofs.Pages.{remaining_members}
use Rattle.ac.proofs.Rank.{length_candidates}
use Rattle.ac.proofs.Weighed.{weighed_most, weighed_none, weighed_later, weighed_on}
use Rattle.numbers.specs.Outcome.{given}
use Rattle.solver.specs.Page.{wanted_count, PageWritten, PagePromise}
use Rattle.solver.specs.Pages.{PagesAsked, one_more, no_more, was_last, weighed_each}
use Rattle.solver.proofs.Pages.{page_written_lem, pages_together, asked_within}

module _ {M : Mode} {L R : List ℕ} {G : Groups} (of : GroupsOf M L R G) where
  -- what a page tells is what was weighed up to the last of its keys
  told_weighed : {begin : Beginning} {wanted : ℕ} {page : PageWritten} {out out' : List ℕ}
      → PagePromise M L R begin wanted out (given page) out'
      → page.weighed ≡ weighed begin (take page.written out') (candidates M layout G)
  told_weighed {begin} promise =
      let this = page_written_lem of promise in
      ap (λ p. p.weighed) this.1
      ∙ ap (λ ks. weighed begin ks (candidates M layout G)) (sym this.0)

  -- No more are weighed than there are candidates.
  pub weighed_at_most : {begin : Beginning} {wanted : ℕ} {page : PageWritten} {out out' : List ℕ}
      → PagePromise M L R begin wanted out (given page) out' → page.weighed ≤ selection_count G
  weighed_at_most {begin} {page = page} {out' = out'} promise =
      omega (
        arith,
        told_weighed promise,
        weighed_most begin (take page.written out') (candidates M layout G),
        length_candidates M layout G,
      )

  -- from any beginning the counts add up
  added_up : {begin : Beginning} {pages : List (List ℕ)} → Ascending ◌<◌ (keys M layout L R G)
      → (asked : PagesAsked M L R begin pages)
      → sum (weighed_each asked) ≡ weighed begin (together pages) (candidates M layout G)
  added_up {begin} ascending (one_more {wanted = wanted} {page = page} {out' = out'} {pages = pages} before last promise ends rest) =
      omega (
        arith,
        told_weighed promise,
        ap (λ ks. weighed begin ks cs) ends,
        weighed_later begin before last [] cs,
        added_up ascending rest,
        weighed_on begin last (together pages) cs after_begin later,
        weighed_later begin before last (together pages) cs,
        ap (λ ks. weighed begin ks cs) joined,
      )
    where
      cs : List ℕ
      cs = candidates M layout G

      joined : take page.written out' ++ together pages ≡ before ++ last ∷ together pages
      joined = ap (λ (l : List ℕ). l ++ together pages) ends ∙ append_snoc before last (together pages)

      stands : Memᴰ last (remaining begin (keys M layout L R G))
      stands =
          taken_member (wanted_count wanted) (remaining begin (keys M layout L R G))
          (subst (Memᴰ last) (sym ends ∙ (page_written_lem of promise).0)
          (Memᴰ.append_right before (Memᴰ.head refl)))

      after_begin : bound_of begin ≤ last
      after_begin = (remaining_members begin stands).1

      later : (k : ℕ) → Memᴰ k (together pages) → last ≤ k
      later k m =
          let behind = remaining_members {keys = keys M layout L R G} (after last)
          (subst (Memᴰ k) (pages_together of ascending rest) m) in
          omega (arith, behind.1)
  added_up {begin} ascending (no_more {page = page} {out' = out'} promise ends) =
      omega (
        arith,
        told_weighed promise,
        ap (λ ks. weighed begin ks (candidates M layout G)) (append-nil (take page.written out')),
      )
  added_up {begin} ascending (was_last promise) = sym (weighed_none begin (candidates M layout G))

-- Of pages asked for one after the other from the start the counts add up to the number of candidates up to the last
-- key.
pub weighed-add-up : {M : Mode} {L R : List ℕ} {G : Groups} {pages : List (List ℕ)} → GroupsOf M L R G
    → (asked : PagesAsked M L R start pages)
    → sum (weighed_each asked) ≡ weighed start (together pages) (candidates M layout G)
weighed-add-up {M} {L} {R} {G} of asked =
    added_up of (keys_ascending ((asked_within refl asked).groups_fit G of) M L R) asked
