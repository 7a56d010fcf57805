-- How a page begins: 13, 14, 15 or the first of the keys that remain, from the least listed keys.
use Prim.Native.Nat.{ℕ, ◌+◌, ◌<◌}
use mathlib.Core.Path.{◌≡◌, refl, sym, subst}
use mathlib.Core.List.{List, [], ◌∷◌, Memᴰ}
use Rattle.std.specs.Prelude.{Option, Ok, Err, ok_or}
use Rattle.ac.specs.Lists.{Ascending}
use Rattle.ac.specs.Keys.{Beginning, start, after}
use Rattle.ac.specs.Pages.{LeastFrom, bound_of}
use Rattle.ac.proofs.Pages.{least_first, none_remains}
use Rattle.numbers.specs.Order.{beginning_numbers}
use Rattle.numbers.specs.First.{here}
use Rattle.numbers.specs.declared.Refusal.{Refusal}
use Rattle.numbers.specs.declared.Refusal.TheVariants.{NoUnifier, LastKey}
use Rattle.numbers.proofs.Carried.{none_of, first_before, first_after}
use Rattle.list.specs.Given.{none_admissible, last_listed}
use Rattle.list.proofs.Given.{start_not_after, listed_after, list_gives_none}
use Rattle.list.specs.List.{NextFrom, found, nothing, LookedUp}
use Rattle.list.proofs.Finding.{not_refused, told_listed, told_refused}
use Rattle.solver.specs.Steps.{SettledOf, to_refuse, to_answer}

-- a key that is not listed is refused with 13 or 14
pub settled_unlisted : {listed : List ℕ} {key : ℕ} {why : Refusal} → LookedUp listed key (Err why)
    → SettledOf listed (after key) (Err why)
settled_unlisted told = to_refuse (first_before (15 ∷ []) (told_refused told refl))

module _ {listed : List ℕ} (ascending : Ascending ◌<◌ listed) where
  -- where the key after which to begin, if any, is listed, the page begins with the least key that may come
  settled_least : (begin : Beginning) {first : ℕ} → ((k : ℕ) → begin ≡ after k → Memᴰ k listed)
      → LeastFrom listed (bound_of begin) first
      → SettledOf listed begin (Ok first)
  settled_least begin {first} on_List least =
      let remains = least_first ascending begin least in
      to_answer
      (none_of (λ n. list_gives_none on_List (subst (Memᴰ first) (sym remains) (Memᴰ.head refl)))
      beginning_numbers) remains on_List

  -- from the start, the least key; an empty list is 13
  pub settled_start : {next : Option ℕ} → NextFrom listed 0 next → SettledOf listed start (ok_or next NoUnifier)
  settled_start (found least) = settled_least start (λ k same. absurd (start_not_after same)) least
  settled_start (nothing none) = to_refuse (here (none_admissible (none_remains ascending start none)))

  -- after a listed key, the least above it; after the last one it is 15
  pub settled_after : {key : ℕ} → LookedUp listed key (Ok tt) → {next : Option ℕ} → NextFrom listed (key + 1) next
      → SettledOf listed (after key) (ok_or next LastKey)
  settled_after {key} told (found least) = settled_least (after key) (listed_after (told_listed told refl)) least
  settled_after {key} told (nothing none) =
      let listed_itself = told_listed told refl in
      to_refuse (first_after (not_refused listed_itself)
      (here (last_listed refl listed_itself (none_remains ascending (after key) none))))
