-- Laws of how far a text has been printed.
use Rattle.std.proofs.Common.{ℕ, ◌+◌, ◌≤◌, arith, ◌≡◌, refl, ap, sym, subst, ◌∙◌, List, [], ◌++◌, append_assoc, append-nil, length, take, length-append, take_at, length-take-le, ℤ, Result, Ok}
use lib.Seq.{sets-eq}
use Rattle.buffer.specs.Put.{Put}
use Rattle.output.specs.Step.{lines_joined, left_from, Steps}
use Rattle.output.specs.Room.{HasRoom, MakesRoom, stays, emptied, failed, StillHeld}
use Rattle.output.specs.declared.Progress.{Progress}

-- what stands before the place after a text that was put is what stood before the place, and the text
pub put_before : {out after text : List ℕ} {at next : ℕ} → Put out at text next after → next ≤ length out
    → take next after ≡ take at out ++ text
put_before {out} {after} {text} {at} {next} put room =
    let fits : at + length text ≤ length out = omega (arith, put.place) in
    let stood : length (take at out ++ text) ≡ next =
    omega (arith, put.place, length-append (take at out) text, length-take-le at out (omega arith)) in
    ap (take next) (put.stored ∙ sets-eq text out at fits)
    ∙ take_at (take at out ++ text) _ next stood

-- the place has room for a line behind it
pub roomy : {size at next : ℕ} {p : Result ℕ ℤ} → MakesRoom size at p → p ≡ Ok next → HasRoom size next
roomy {at = at} {next = next} (stays room) e = let same : at ≡ next = cc e in omega arith
roomy {next = next} (emptied full room) e = let same : 0 ≡ next = cc e in omega arith
roomy (failed full) e = cc e

-- four lists in a row, taken together in another way
regroup : (a b c d : List ℕ) → (a ++ b) ++ (c ++ d) ≡ (a ++ (b ++ c)) ++ d
regroup a b c d = simp append_assoc

module _ {text out : List ℕ} {at : ℕ} where
  -- of what is left, the first part was put
  pub holds_put : {put left out' : List ℕ} {next : ℕ} → StillHeld text out at (put ++ left) → Put out at put next out'
      → next ≤ length out → StillHeld text out' next left
  holds_put {put} {left} holds stands room =
      record {
        gone = holds.gone;
        whole = holds.whole ∙ regroup holds.gone (take at out) put left
            ∙ ap (λ (l : List ℕ). holds.gone ++ l ++ left) (sym (put_before stands room));
      }

  -- the same text is left, said in another way
  pub holds_as : {left left' : List ℕ} → left ≡ left' → StillHeld text out at left → StillHeld text out at left'
  holds_as e holds = subst (StillHeld text out at) e holds

  -- a step was made
  pub holds_step : {lines : List (List ℕ)} {number : ℕ} {r : Progress} {out' : List ℕ}
      → StillHeld text out at (left_from lines number) → Steps lines number out at r out' → r.at ≤ length out
      → StillHeld text out' r.at (left_from lines r.line)
  holds_step holds step room = holds_put (holds_as step.in_order holds) step.stands room

  -- room was made
  pub holds_room : {left : List ℕ} {size next : ℕ} {p : Result ℕ ℤ} → StillHeld text out at left → MakesRoom size at p
      → p ≡ Ok next → StillHeld text out next left
  holds_room {left} {next = next} holds (stays room) e =
      let same : at ≡ next = cc e in
      subst (λ (k : ℕ). StillHeld text out k left) same holds
  holds_room {left} {next = next} holds (emptied full room) e =
      let same : 0 ≡ next = cc e in
      subst (λ (k : ℕ). StillHeld text out k left) same
      (record {
        gone = holds.gone ++ take at out;
        whole = holds.whole ∙ ap (λ (l : List ℕ). l ++ left) (sym (append-nil (holds.gone ++ take at out)));
      })
  holds_room holds (failed full) e = cc e

  -- more text is left
  pub holds_more : {left : List ℕ} (more : List ℕ) → StillHeld text out at left → StillHeld (text ++ more) out at (left ++ more)
  holds_more {left} more holds =
      record {
        gone = holds.gone;
        whole = ap (λ (l : List ℕ). l ++ more) holds.whole
            ∙ append_assoc (holds.gone ++ take at out) left more;
      }

-- a text was printed, and then another behind what stood before the place
pub holds_then : {text out out' : List ℕ} {at next : ℕ} (more : List ℕ) → StillHeld text out at []
    → StillHeld (take at out ++ more) out' next [] → StillHeld (text ++ more) out' next []
holds_then {out = out} {out' = out'} {at = at} {next = next} more first second =
    record {
      gone = first.gone ++ second.gone;
      whole = ap (λ (l : List ℕ). l ++ more) (first.whole ∙ append-nil (first.gone ++ take at out))
          ∙ append_assoc first.gone (take at out) more
          ∙ ap (λ (l : List ℕ). first.gone ++ l) second.whole
          ∙ regroup_gone first.gone second.gone (take next out');
    }
  where
    regroup_gone : (a b c : List ℕ) → a ++ ((b ++ c) ++ []) ≡ ((a ++ b) ++ c) ++ []
    regroup_gone a b c = simp append_assoc

-- lines are to be put behind what stands before the place
pub holds_start : (lines : List (List ℕ)) (out : List ℕ) (at : ℕ)
    → StillHeld (take at out ++ lines_joined lines) out at (left_from lines 0)
holds_start lines out at = record { gone = []; whole = refl }

-- nothing was printed yet
pub holds_nothing : (out : List ℕ) → StillHeld [] out 0 []
holds_nothing out = record { gone = []; whole = refl }
