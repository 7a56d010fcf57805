-- Values writes the replacement that a key names.
use Prim.Native.Nat.{ℕ, zero, suc, ◌<◌}
use native.Mathlib.Omega.{arith}
use mathlib.Core.Path.{◌≡◌, refl, ap, ◌∙◌}
use mathlib.Core.List.{List}
use lib.ListN.{length, get_or, take, drop}
use lib.Seq.{take-append_seam}
use Rattle.ac.specs.Pair.{Mode, variables}
use Rattle.ac.specs.Rows.{Groups, GroupsOf}
use Rattle.ac.proofs.Groups.{groups_unique}
use Rattle.ac.proofs.Agree.{Agree}
use Rattle.solver.specs.Existence.{replacement_of}
use Rattle.numbers.specs.Outcome.{given, is_given}
use Rattle.solver.specs.Values.{ValuesPromise, values, values_of}
use Rattle.whole.specs.Whole.{read_back, replacement_at, ValuesAsked, no_more, one_more}
use Rattle.whole.proofs.ReadBack.{read_back-laid_out}

-- there is an answer for each key
pub as_many_answers : {M : Mode} {L R asked : List ℕ} {answers : List (List ℕ)}
    → ValuesAsked M L R asked answers → length answers ≡ length asked
as_many_answers no_more = refl
as_many_answers (one_more promise rest) = ap suc (as_many_answers rest)

module _ {M : Mode} {L R : List ℕ} {G : Groups} (of : GroupsOf M L R G) where
  -- what Values writes of a key is read back as the replacement that the key names
  pub values_name : {key n : ℕ} {out out' : List ℕ} → ValuesPromise M L R key out (given n) out'
      → Agree (variables M L R) (read_back (take n out')) (replacement_of M L R G key)
  values_name {key} {out = out} (is_given none (values {G = H} others)) x m =
      ap (λ (bytes : List ℕ). read_back bytes x)
      (take-append_seam (values_of M L R H key) (drop (length (values_of M L R H key)) out))
      ∙ read_back-laid_out (replacement_of M L R H key) m
      ∙ ap (λ K. replacement_of M L R K key x) (groups_unique M L R others of)

  -- the answer at a place is read back as what the key at that place names
  pub answers_name : {asked : List ℕ} {answers : List (List ℕ)} → ValuesAsked M L R asked answers → (i : ℕ)
      → i < length answers
      → Agree (variables M L R) (replacement_at answers i) (replacement_of M L R G (get_or asked i 0))
  answers_name no_more i h = absurd (omega arith)
  answers_name (one_more promise rest) zero h = values_name promise
  answers_name (one_more promise rest) (suc i) h = answers_name rest i (omega arith)
