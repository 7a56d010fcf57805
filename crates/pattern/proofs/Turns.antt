-- Where a byte leads by itself, by what it stands for and whether an item has ended.
use Rattle.std.proofs.Common.{ℕ, suc, ◌+◌, ◌-◌, ◌≡◌, sym, subst, Bool, true, false, add-one, arith, Ok, Err}
use Rattle.pattern.specs.Characters.{plus_sign, opening_bracket, closing_bracket, Blank}
use Rattle.pattern.specs.Side.{blank, opening, closing, plus}
use Rattle.pattern.specs.Fault.{OfWord, plus_first, closing_first, opening_after, word_after, not_opened}
use Rattle.pattern.specs.Inner.{Turns}
use Rattle.pattern.specs.declared.Fault.TheVariants as fault
use Rattle.pattern.specs.declared.side.Turn.TheVariants as turn

module _ {b depth : ℕ} {ended : Bool} where
  pub blank_turns : Blank b → Turns b depth ended (Ok (turn.To depth ended))
  blank_turns is = record { token = λ more. blank is; one_deeper = omega arith }

  pub opening_turns : b ≡ opening_bracket → ended ≡ false → Turns b depth ended (Ok (turn.To (depth + 1) false))
  opening_turns is before = rw (before, is) (record { token = λ more. rw add-one opening; one_deeper = omega arith })

  pub opening_stuck : b ≡ opening_bracket → ended ≡ true → Turns b depth ended (Err fault.PlusMissing)
  opening_stuck is after = rw (after, is) (λ atoms more. opening_after)

  pub closing_early : b ≡ closing_bracket → ended ≡ false → Turns b depth ended (Err fault.ItemMissing)
  closing_early is before = rw (before, is) (λ atoms more. closing_first)

  pub closing_stuck : b ≡ closing_bracket → ended ≡ true → depth ≡ 0 → Turns b depth ended (Err fault.NotOpened)
  closing_stuck is after none_open = rw (after, none_open, is) (λ atoms more. not_opened)

  pub plus_turns : b ≡ plus_sign → ended ≡ true → Turns b depth ended (Ok (turn.To depth false))
  plus_turns is after = rw (after, is) (record { token = λ more. plus; one_deeper = omega arith })

  pub plus_stuck : b ≡ plus_sign → ended ≡ false → Turns b depth ended (Err fault.ItemMissing)
  plus_stuck is before = rw (before, is) (λ atoms more. plus_first)

  pub other_stuck : OfWord b → ended ≡ true → Turns b depth ended (Err fault.PlusMissing)
  other_stuck is after = rw after (λ atoms more. word_after is)

-- a bracket is closed where one is open
pub closing_turns : {b depth : ℕ} {ended : Bool} → b ≡ closing_bracket → ended ≡ true → (depth ≡ 0 → ⊥)
    → Turns b depth ended (Ok (turn.To (depth - 1) true))
closing_turns {depth = depth} is after some =
    let one_less : depth ≡ suc (depth - 1) = omega (arith, some) in
    rw (after, is) (subst (λ n. Turns closing_bracket n true (Ok (turn.To (depth - 1) true))) (sym one_less)
    (record { token = λ more. closing; one_deeper = omega arith }))
