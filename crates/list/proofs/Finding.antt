-- Whether a key is on the list: listed, 14 or 13, from the least listed keys.
use Prim.Native.Nat.{ℕ, ◌<◌}
use Rattle.std.specs.Prelude.{Option, Some, None, Result, Ok, Err, is_some}
use mathlib.Core.Path.{◌≡◌, refl, subst}
use mathlib.Core.Bool.{true, false}
use mathlib.Core.List.{List, Memᴰ}
use Rattle.ac.specs.Lists.{Ascending}
use Rattle.ac.specs.Keys.{start, after}
use Rattle.ac.proofs.Pages.{none_remains, not_reached, passed_over}
use Rattle.numbers.specs.Numbers.{number_of}
use Rattle.numbers.specs.Order.{key_numbers}
use Rattle.numbers.specs.First.{First, NoneOf, here, later, end, also}
use Rattle.numbers.specs.declared.Refusal.{Refusal}
use Rattle.numbers.specs.declared.Refusal.TheVariants.{NoUnifier, NotListed}
use Rattle.list.specs.Given.{ListGiven, none_admissible, not_listed}
use Rattle.list.specs.List.{NextFrom, found, nothing, LookedUp, is_listed, is_refused}
use Rattle.list.proofs.Given.{listed_after, not_13, not_14}

module _ {listed : List ℕ} {key : ℕ} where
  -- a key that is not listed is 14 where another is
  unlisted : {other : ℕ} → Memᴰ other listed → (Memᴰ key listed → ⊥)
      → LookedUp listed key (Err NotListed)
  unlisted some not_there = is_refused (later (not_13 some) (here (not_listed refl not_there)))

  -- the least listed key from it on is the key itself, or another
  pub found_itself : {least : ℕ} → NextFrom listed key (Some least) → least ≡ key → LookedUp listed key (Ok tt)
  found_itself (found least) same = is_listed (subst (λ k. Memᴰ k listed) same least.on_list)

  pub found_other : {least : ℕ} → NextFrom listed key (Some least) → (least ≡ key → ⊥)
      → LookedUp listed key (Err NotListed)
  found_other (found least) differs = unlisted least.on_list (passed_over least differs)

  -- there is none from it on, but a first, or nothing is listed
  pub found_above : NextFrom listed key None → {first : Option ℕ} → NextFrom listed 0 first → is_some first ≡ true
      → LookedUp listed key (Err NotListed)
  found_above (nothing none) (found first) some = unlisted first.on_list (not_reached none)
  found_above (nothing none) (nothing first) some = cc some

  pub found_nothing : Ascending ◌<◌ listed → {first : Option ℕ} → NextFrom listed 0 first → is_some first ≡ false
      → LookedUp listed key (Err NoUnifier)
  found_nothing ascending (nothing none) e = is_refused (here (none_admissible (none_remains ascending start none)))
  found_nothing ascending (found first) e = cc e

  -- a listed key gives neither number
  pub not_refused : Memᴰ key listed → NoneOf (ListGiven listed (after key)) key_numbers
  not_refused m = also (not_13 m) (also (not_14 refl (listed_after m)) end)

  -- What is told of a key.
  pub told_listed : {answer : Result (Unit {0}) Refusal} → LookedUp listed key answer → answer ≡ Ok tt → Memᴰ key listed
  told_listed told e = of_listed (subst (LookedUp listed key) e told)
    where
      of_listed : LookedUp listed key (Ok tt) → Memᴰ key listed
      of_listed (is_listed m) = m

  pub told_refused : {answer : Result (Unit {0}) Refusal} {why : Refusal} → LookedUp listed key answer → answer ≡ Err why
      → First (ListGiven listed (after key)) key_numbers (number_of why)
  told_refused {why = why} told e = of_refused (subst (LookedUp listed key) e told)
    where
      of_refused : LookedUp listed key (Err why)
          → First (ListGiven listed (after key)) key_numbers (number_of why)
      of_refused (is_refused first) = first
