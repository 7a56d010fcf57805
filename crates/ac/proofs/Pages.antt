-- Pages of an ascending list: what remains after a key, the least key from a number on, and pages joined.
use Prim.Native.Nat.{ℕ, ◌<◌, ◌≤◌}
use native.Mathlib.Omega.{arith}
use native.Mathlib.Nat.{eq-or-lt_of_le, le_refl}
use mathlib.Core.Path.{◌≡◌, refl, sym, ap, subst, ◌∙◌}
use mathlib.Core.Logic.{⊎_elim}
use mathlib.Core.List.Memᴰ
use mathlib.Core.List.{List, [], ◌∷◌, ◌++◌, Memᴰ}
use borrow.Author.Tests.{ltb-true, lt-ltb, le-ltb}
use lib.Dec.{ltb}
use lib.Seq.{append_snoc}
use lib.ListN.{drop, take-append-drop}
use Rattle.ac.specs.Lists.{keep, filter, Ascending, next}
use Rattle.ac.specs.Keys.{Beginning, start, after, remaining}
use Rattle.ac.specs.Pages.{page, more, LeastFrom, NoneFrom, bound_of}
use Rattle.ac.proofs.Order.{ascending_unique}
use Rattle.ac.proofs.Order.{filter_member, member_filter, filter_ascending}
use Rattle.ac.proofs.Members.{filter_all, taken_member, taken_ascending}

-- a number that is below another is not above it
one_way : (a b : ℕ) → a < b → b < a → ⊥
one_way a b less more = omega arith

module _ {keys : List ℕ} where
  -- what remains after the beginning are the keys from its bound on
  pub remaining_members : (begin : Beginning) {key : ℕ} → Memᴰ key (remaining begin keys)
      → Memᴰ key keys × (bound_of begin ≤ key)
  remaining_members start m = (m, omega arith)
  remaining_members (after k) {key} m = let t =
      filter_member (ltb k) keys m in (t.0, omega (arith, ltb-true k key t.1))

  -- and every such key remains
  members_remaining : (begin : Beginning) {key : ℕ} → Memᴰ key keys → bound_of begin ≤ key
      → Memᴰ key (remaining begin keys)
  members_remaining start m h = m
  members_remaining (after k) {key} m h = member_filter (ltb k) m (lt-ltb k key (omega arith))

  -- they ascend
  remaining_ascending : (begin : Beginning) → Ascending ◌<◌ keys → Ascending ◌<◌ (remaining begin keys)
  remaining_ascending start ascending = ascending
  remaining_ascending (after k) ascending = filter_ascending (ltb k) ascending

-- a key of a page is a key of the list
pub page_members : (begin : Beginning) (wanted : ℕ) {keys : List ℕ} {key : ℕ} → Memᴰ key (page begin wanted keys)
    → Memᴰ key keys
page_members begin wanted {keys} m = (remaining_members begin (taken_member wanted (remaining begin keys) m)).0

-- and the keys of a page ascend
pub page_ascending : (begin : Beginning) (wanted : ℕ) {keys : List ℕ} → Ascending ◌<◌ keys
    → Ascending ◌<◌ (page begin wanted keys)
page_ascending begin wanted ascending = taken_ascending wanted (remaining_ascending begin ascending)

-- what stands behind a key of an ascending list is what remains after it
remaining-behind : (before : List ℕ) (key : ℕ) {behind : List ℕ} → Ascending ◌<◌ (before ++ key ∷ behind)
    → remaining (after key) (before ++ key ∷ behind) ≡ behind
remaining-behind [] key {behind} (next first later) =
    ap (λ t. keep t key (filter (ltb key) behind)) (le-ltb key key (le_refl key))
    ∙ filter_all (ltb key) behind (λ c m. lt-ltb key c (first c m))
remaining-behind (b ∷ before) key {behind} (next first later) =
    ap (λ t. keep t b (filter (ltb key) (before ++ key ∷ behind)))
    (le-ltb key b (omega (arith, first key (Memᴰ.append_right before (Memᴰ.head refl)))))
    ∙ remaining-behind before key later

empty_without_members : (xs : List ℕ) → ((x : ℕ) → Memᴰ x xs → ⊥) → xs ≡ []
empty_without_members [] nothing = refl
empty_without_members (x ∷ xs) nothing = absurd (nothing x (Memᴰ.head refl))

module _ {keys : List ℕ} {bound : ℕ} where
  -- A number is not on the list where the least key from it on is another, or where there is none.
  pub passed_over : {key : ℕ} → LeastFrom keys bound key → (key ≡ bound → ⊥) → Memᴰ bound keys → ⊥
  passed_over {key} found differs m =
      differs (omega (arith, found.least bound m (le_refl bound), found.at_or_above))

  -- where the list has no key from the number on
  pub not_reached : NoneFrom keys bound → Memᴰ bound keys → ⊥
  not_reached nothing m = omega (arith, nothing bound m)

module _ {keys : List ℕ} (ascending : Ascending ◌<◌ keys) where
  -- nothing remains if the list has no key from the bound on
  pub none_remains : (begin : Beginning) → NoneFrom keys (bound_of begin) → remaining begin keys ≡ []
  none_remains begin nothing =
      empty_without_members (remaining begin keys)
      (λ x m. let t = remaining_members begin m in omega (arith, nothing x t.0))

  -- the least key from the bound on is the first that remains, and after it come those that remain after it
  pub least_first : (begin : Beginning) {key : ℕ} → LeastFrom keys (bound_of begin) key
      → remaining begin keys ≡ key ∷ remaining (after key) keys
  least_first begin {key} found =
      ascending_unique one_way (remaining_ascending begin ascending)
      (next (λ c m. let t = remaining_members {keys = keys} (after key) m in omega arith)
      (remaining_ascending (after key) ascending)) (λ c. (there c, back c))
    where
      there : (c : ℕ) → Memᴰ c (remaining begin keys) → Memᴰ c (key ∷ remaining (after key) keys)
      there c m =
          let t = remaining_members begin m in
          ⊎_elim (λ e. Memᴰ.head (sym e))
          (λ above. Memᴰ.tail (members_remaining (after key) t.0 (omega arith)))
          (eq-or-lt_of_le (found.least c t.0 t.1))

      back : (c : ℕ) → Memᴰ c (key ∷ remaining (after key) keys) → Memᴰ c (remaining begin keys)
      back c (Memᴰ.head e) = Memᴰ.cast e (members_remaining begin found.on_list found.at_or_above)
      back c (Memᴰ.tail m) =
          let t = remaining_members (after key) m in
          members_remaining begin t.0 (omega (arith, found.at_or_above))

  -- What remains after a later key remains of what remains after a beginning.
  remaining_later : (begin : Beginning) {key : ℕ} → bound_of begin ≤ key
      → remaining (after key) (remaining begin keys) ≡ remaining (after key) keys
  remaining_later begin {key} bound =
      ascending_unique one_way (remaining_ascending (after key) (remaining_ascending begin ascending))
      (remaining_ascending (after key) ascending)
      (λ c. (
        λ m. let t = remaining_members (after key) m in members_remaining (after key)
            (remaining_members begin t.0).0 t.1,
        λ m.
            let t = remaining_members (after key) m in
            members_remaining (after key) (members_remaining begin t.0 (omega arith)) t.1,
      ))

  -- What remains after a page's last key is what the page left.
  pub remaining_after_page : (begin : Beginning) (wanted : ℕ) (before : List ℕ) (last : ℕ)
      → page begin wanted keys ≡ before ++ last ∷ []
      → remaining (after last) keys ≡ drop wanted (remaining begin keys)
  remaining_after_page begin wanted before last e =
      sym (remaining_later begin (remaining_members begin last_stands).1) ∙ ap (filter (ltb last)) whole
      ∙ remaining-behind before last (subst (Ascending ◌<◌) whole (remaining_ascending begin ascending))
    where
      left : List ℕ
      left = drop wanted (remaining begin keys)

      whole : remaining begin keys ≡ before ++ last ∷ left
      whole = sym (take-append-drop wanted (remaining begin keys)) ∙ ap (λ (l : List ℕ). l ++ left) e
          ∙ append_snoc before last left

      last_stands : Memᴰ last (remaining begin keys)
      last_stands = subst (Memᴰ last) (sym whole) (Memᴰ.append_right before (Memᴰ.head refl))
