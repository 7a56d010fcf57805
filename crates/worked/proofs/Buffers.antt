-- How long a buffer Values asks for (document 02, R-9): one of 971 bytes gets 16, by every way of listing and whatever is
-- asked; one of 972 gets the seven bytes of v0=c0+n0 v1=n0 where v0 and v1+c0, pair 1, are asked about with key 1.
use Prim.Native.Nat.{ℕ, ◌<◌}
use native.Mathlib.Omega.{arith}
use mathlib.Core.Path.{◌≡◌, refl}
use mathlib.Core.List.Memᴰ
use mathlib.Core.List.{List, [], ◌∷◌}
use lib.ListN.{length}
use Rattle.ac.specs.Lists.{receives}
use Rattle.ac.proofs.Groups.{groups_exist}
use Rattle.numbers.specs.Numbers.{said_of}
use Rattle.numbers.specs.Outcome.{refused, given}
use Rattle.numbers.specs.declared.Refusal.TheVariants.{ShortBuffer}
use Rattle.numbers.proofs.Parts.{short_promised}
use Rattle.numbers.proofs.Promises.{outcome_determined}
use Rattle.pair.specs.declared.ways.Way.{Way}
use Rattle.solver.specs.Values.{values_buffer}
use Rattle.solver.proofs.Determined.{one_values}
use Rattle.solver.proofs.Given.{values_made}
use Rattle.worked.specs.Questions.{SidesAsked, values_question, values_question_by}
use Rattle.worked.specs.Answers.{Answers, of_pair}
use Rattle.worked.proofs.Worked.{worked_groups}

pub in_971 : (way : Way) (asked : SidesAsked ℕ) (out : List ℕ) → length out ≡ 971
    → Answers (values_question_by way) asked out (refused (said_of ShortBuffer)) out
in_971 way asked out short =
    let few : length out < values_buffer = omega arith in
    let met = short_promised (values_made (groups_exist _ _ _)) few in
    record { meets = met; alone = λ other exit p. outcome_determined one_values p met }

pub in_972 : (out : List ℕ) → length out ≡ 972
    → Answers values_question (of_pair 1 1) out (given 7) (receives out (0 ∷ 2 ∷ 64 ∷ 192 ∷ 1 ∷ 1 ∷ 192 ∷ []))
in_972 out enough = (worked_groups 1 (omega arith) (omega arith)).the_values 1 (Memᴰ.head refl) out (omega arith)
