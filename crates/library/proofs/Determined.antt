-- The contracts of `next_step` and `took` determine what they give: two results that meet one of them are the
-- same.
use Rattle.std.proofs.Common.{ℕ, zero, suc, ◌<◌, ◌≤◌, min, arith, ◌≡◌, refl, ap, sym, subst, ◌∙◌, Bool, true, false, leb, ℤ, Result, le-leb}
use borrow.Author.Tests.{lt-leb}
use Rattle.library.specs.Reading.{waits, wanted, handed, more, Comes, Misses, Takes}
use Rattle.library.specs.declared.Reader.{Reader}
use Rattle.library.specs.declared.Input.{Input}
use Rattle.library.specs.declared.Input.TheVariants as input
use Rattle.library.specs.declared.Next.{Next}
use Rattle.library.specs.declared.Next.TheVariants as next
use Rattle.library.proofs.Coming.{wanted_block, wanted_one, wanted_some}

-- what comes next, as a function: where enough bytes wait, by how many blocks may be read ..
abbrev of_enough : ℕ → ℕ → Next
of_enough start zero = next.Remains
of_enough start (suc left) = next.Block start 512

-- .. where fewer do, by the input, and at its end by how many wait
abbrev of_rest : ℕ → ℕ → Next
of_rest start zero = next.End
of_rest start (suc size) = next.Block start (suc size)

abbrev of_few : ℕ → ℕ → Input → Next
of_few start size input.More = next.Wanted
of_few start size input.Ended = of_rest start size
of_few start size (input.Failed error) = next.Failed error

abbrev by_test : Bool → Next → Next → Next
by_test true a b = a
by_test false a b = b

abbrev coming : Reader → Next
coming r =
    by_test (leb (wanted r.left) (waits r)) (of_enough r.at r.left) (of_few r.at (waits r) r.input)

-- the reader after it
abbrev after : Next → Reader → Reader
after (next.Block start size) r = handed size r
after next.End r = r
after next.Remains r = r
after (next.Failed error) r = r
after next.Wanted r = r

-- some numbers above 0
some_left : (left : ℕ) {start : ℕ} → 0 < left → next.Block start 512 ≡ of_enough start left
some_left zero h = absurd (omega arith)
some_left (suc left) h = refl

some_rest : (size : ℕ) {start : ℕ} → 0 < size → next.Block start size ≡ of_rest start size
some_rest zero h = absurd (omega arith)
some_rest (suc size) h = refl

-- what the test on how many wait comes to
module _ (r : Reader) where
  enough_is : wanted r.left ≤ waits r → coming r ≡ of_enough r.at r.left
  enough_is h =
      ap (λ t. by_test t (of_enough r.at r.left) (of_few r.at (waits r) r.input)) (le-leb _ _ h)

  few_is : {said : Input} → waits r < wanted r.left → r.input ≡ said → coming r ≡ of_few r.at (waits r) said
  few_is h e =
      ap (λ t. by_test t (of_enough r.at r.left) (of_few r.at (waits r) r.input)) (lt-leb _ _ h)
      ∙ ap (of_few r.at (waits r)) e

comes_is : {r r' : Reader} {n : Next} → Comes r n r' → n ≡ coming r
comes_is {r} (Comes.a_block may many) =
    some_left r.left may
    ∙ sym (enough_is r (omega (arith, wanted_block r.left (λ e. omega arith))))
comes_is {r} (Comes.a_short_block may some few over) =
    some_rest (waits r) some
    ∙ sym (few_is r (omega (arith, wanted_block r.left (λ e. omega arith))) over)
comes_is {r} (Comes.the_end none over) =
    ap (of_rest r.at) (sym none) ∙ sym (few_is r (omega (arith, wanted_some r.left)) over)
comes_is {r} (Comes.remains none some) =
    ap (of_enough r.at) (sym none) ∙ sym (enough_is r (omega (arith, wanted_one r.left none)))
comes_is {r} (Comes.failed few e) = sym (few_is r few e)
comes_is {r} (Comes.a_read few e) = sym (few_is r few e)

comes_after : {r r' : Reader} {n : Next} → Comes r n r' → r' ≡ after n r
comes_after (Comes.a_block may many) = refl
comes_after (Comes.a_short_block may some few over) = refl
comes_after (Comes.the_end none over) = refl
comes_after (Comes.remains none some) = refl
comes_after (Comes.failed few e) = refl
comes_after (Comes.a_read few e) = refl

-- What comes next is determined, and the reader after it.
pub comes_one : {r r₁ r₂ : Reader} {n₁ n₂ : Next} → Comes r n₁ r₁ → Comes r n₂ r₂ → (n₁ ≡ n₂) × (r₁ ≡ r₂)
comes_one {r} a b =
    let same = comes_is a ∙ sym (comes_is b) in
    (same, comes_after a ∙ ap (λ n. after n r) same ∙ sym (comes_after b))

-- two calls that failed
misses_one : {r r₁ r₂ : Reader} {error : ℤ} → Misses r error r₁ → Misses r error r₂ → r₁ ≡ r₂
misses_one (Misses.tried_again e some) (Misses.tried_again e' some') = refl
misses_one (Misses.tried_again e some) (Misses.given_up e' none) = absurd (omega arith)
misses_one (Misses.tried_again e some) (Misses.failed other) = absurd (other e)
misses_one (Misses.given_up e none) (Misses.tried_again e' some) = absurd (omega arith)
misses_one (Misses.given_up e none) (Misses.given_up e' none') = refl
misses_one (Misses.given_up e none) (Misses.failed other) = refl
misses_one (Misses.failed other) (Misses.tried_again e some) = absurd (other e)
misses_one (Misses.failed other) (Misses.given_up e none) = refl
misses_one (Misses.failed other) (Misses.failed other') = refl

-- What a call's answer says is determined, for every answer.
pub takes_one : {r : Reader} {room : ℕ} {r₁ r₂ : Reader} {answered : Result ℕ ℤ} → Takes r room answered r₁ →
    Takes r room answered r₂ → r₁ ≡ r₂
takes_one (Takes.the_end e) (Takes.the_end e') = refl
takes_one (Takes.the_end e) (Takes.bytes e') = cc (e, e')
takes_one (Takes.the_end e) (Takes.missed e' m) = cc (e, e')
takes_one (Takes.bytes e) (Takes.the_end e') = cc (e, e')
takes_one {r} {room = room} (Takes.bytes {n} e) (Takes.bytes {n = n'} e') =
    ap (λ (k : ℕ). more (min k room) r) (let z : suc n ≡ suc n' = cc (e, e') in z)
takes_one (Takes.bytes e) (Takes.missed e' m) = cc (e, e')
takes_one (Takes.missed e m) (Takes.the_end e') = cc (e, e')
takes_one (Takes.missed e m) (Takes.bytes e') = cc (e, e')
takes_one {r} {r₂ = r₂} (Takes.missed {error} e m) (Takes.missed {error = error'} e' m') =
    let same : error' ≡ error = cc (e, e') in
    misses_one m (subst (λ z. Misses r z r₂) same m')
