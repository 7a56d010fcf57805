-- Laws of the numbers 13 to 15, which the list gives.
use Prim.Native.Nat.{ℕ}
use native.Mathlib.Omega.{arith}
use mathlib.Core.Path.{◌≡◌, refl, sym, subst, ◌∙◌}
use mathlib.Core.List.Memᴰ
use mathlib.Core.List.{List, [], Memᴰ}
use Rattle.ac.specs.Keys.{Beginning, start, after, remaining}
use Rattle.ac.proofs.Pages.{remaining_members}
use Rattle.numbers.specs.Order.{beginning_numbers}
use Rattle.numbers.proofs.Carried.{its_member}
use Rattle.list.specs.Given.{ListGiven, none_admissible, not_listed, last_listed}

-- no key comes before the start
pub start_not_after : {key : ℕ} → start ≡ after key → ⊥
start_not_after e = let z : ◌≡◌ {A = ℕ} 0 1 = cc e in omega arith

-- if the key after which to begin is listed, it is so whichever name it has
pub listed_after : {listed : List ℕ} {key : ℕ} → Memᴰ key listed → (k : ℕ) → after key ≡ after k
    → Memᴰ k listed
listed_after {listed} {key} m k same = subst (λ k. Memᴰ k listed) (let e : key ≡ k = cc same in e) m

no_member : {key : ℕ} {keys : List ℕ} → keys ≡ [] → Memᴰ key keys → ⊥
no_member {key} e m = Memᴰ.not-nil (subst (Memᴰ key) e m)

module _ {listed : List ℕ} {begin : Beginning} where
  pub list_number : {n : ℕ} → ListGiven listed begin n → Memᴰ n beginning_numbers
  list_number (none_admissible empty) = its_member beginning_numbers refl
  list_number (not_listed same unlisted) = its_member beginning_numbers refl
  list_number (last_listed same m nothing) = its_member beginning_numbers refl

  -- what each number says
  pub given_13 : {n : ℕ} → n ≡ 13 → ListGiven listed begin n → listed ≡ []
  given_13 e (none_admissible empty) = empty
  given_13 e (not_listed same unlisted) = absurd (omega arith)
  given_13 e (last_listed same m nothing) = absurd (omega arith)

  pub given_15 : {n : ℕ} → n ≡ 15 → ListGiven listed begin n → (remaining begin listed ≡ []) × (begin ≡ start → ⊥)
  given_15 e (none_admissible empty) = absurd (omega arith)
  given_15 e (not_listed same unlisted) = absurd (omega arith)
  given_15 e (last_listed same m nothing) = (
    subst (λ b. remaining b listed ≡ []) (sym same) nothing,
    λ from_start. start_not_after (sym from_start ∙ same),
  )

  -- a list with a member does not give 13
  pub not_13 : {key : ℕ} → Memᴰ key listed → ListGiven listed begin 13 → ⊥
  not_13 m given = no_member (given_13 refl given) m

  -- after a listed key 14 is not given
  pub not_14 : {n : ℕ} → n ≡ 14 → ((k : ℕ) → begin ≡ after k → Memᴰ k listed) → ListGiven listed begin n → ⊥
  not_14 e on_List (none_admissible empty) = omega arith
  not_14 e on_List (not_listed {key = k} same unlisted) = unlisted (on_List k same)
  not_14 e on_List (last_listed same m nothing) = omega arith

  -- no number is given where a key remains, and where the key after which to begin, if any, is on the list
  pub list_gives_none : {key n : ℕ} → ((k : ℕ) → begin ≡ after k → Memᴰ k listed)
      → Memᴰ key (remaining begin listed)
      → ListGiven listed begin n → ⊥
  list_gives_none on_List some (none_admissible empty) = no_member empty (remaining_members begin some).0
  list_gives_none on_List some (not_listed {key = k} same unlisted) = unlisted (on_List k same)
  list_gives_none {key} on_List some (last_listed same m nothing) =
      no_member nothing (subst (λ b. Memᴰ key (remaining b listed)) same some)
