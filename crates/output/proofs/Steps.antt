-- Laws of lines that are put one after the other in a step.
use Rattle.std.proofs.Common.{ℕ, ◌+◌, ◌<◌, ◌≤◌, arith, add-one, inl, inr, ◌≡◌, refl, ap, sym, ◌∙◌, List, [], ◌++◌, append_assoc, length, get_or, drop-cons}
use native.Mathlib.Decide.{dec_lt}
use lib.Seq.{drop-length}
use Rattle.buffer.specs.Put.{Put}
use Rattle.buffer.proofs.Puts.{put_nothing, put_then}
use Rattle.output.specs.Step.{lines_joined, left_from, Steps, Stepped, done, step, Goes}

-- what is left from a line on is that line and what is left from the next one on
pub left_line : (lines : List (List ℕ)) (number : ℕ) → number < length lines
    → left_from lines number ≡ get_or lines number [] ++ left_from lines (number + 1)
left_line lines number within = ap lines_joined (drop-cons lines number [] within)
    ∙ ap (λ (k : ℕ). get_or lines number [] ++ left_from lines k) (sym (add-one number))

-- behind the last line nothing is left
pub nothing_left : (lines : List (List ℕ)) → left_from lines (length lines) ≡ []
nothing_left lines = ap lines_joined (drop-length lines)

module _ {lines : List (List ℕ)} {number at : ℕ} {out : List ℕ} where
  -- a step begins with nothing put
  pub step_start : Steps lines number out at (record { line = number; at = at }) out
  step_start = record { put = []; in_order = refl; stands = put_nothing out at }

  -- and goes on with the next line
  pub step_line : {line place next : ℕ} {mid after : List ℕ}
      → Steps lines number out at (record { line = line; at = place }) mid → line < length lines
      → Put mid place (get_or lines line []) next after
      → Steps lines number out at (record { line = line + 1; at = next }) after
  step_line {line} so_far within put =
      record {
        put = so_far.put ++ get_or lines line [];
        in_order = so_far.in_order ∙ ap (λ (l : List ℕ). so_far.put ++ l) (left_line lines line within)
            ∙ sym (append_assoc so_far.put (get_or lines line []) (left_from lines (line + 1)));
        stands = put_then so_far.stands put;
      }

-- what steps put until no line is left is all that was left before them
pub stepped_left : {lines : List (List ℕ)} {number : ℕ} {text : List ℕ} → Stepped lines number text
    → left_from lines number ≡ text
stepped_left {lines} done = nothing_left lines
stepped_left (step one rest) = one.in_order ∙ ap (λ (l : List ℕ). one.put ++ l) (stepped_left rest)

-- how far a step has gone, as long as it goes on
pub record Going (lines number at size line place : ℕ) : Type 0 where
  pub so_far : number ≤ line
  pub within : line ≤ lines
  pub inside : place ≤ size
  -- nothing is put before the first line
  pub unmoved : line ≡ number → place ≡ at

module _ {lines number at size : ℕ} where
  pub going_start : number ≤ lines → at ≤ size → Going lines number at size number at
  going_start some fits = record { so_far = omega arith; within = some; inside = fits; unmoved = λ e. refl }

  module _ {line place : ℕ} (going : Going lines number at size line place) where
    -- one line further
    pub going_line : {next : ℕ} → line < lines → next ≤ size → Going lines number at size (line + 1) next
    going_line left fits =
        record {
          so_far = omega (arith, going.so_far);
          within = omega arith;
          inside = fits;
          unmoved = λ e. absurd (omega (arith, going.so_far));
        }

    -- it ends with the last line ..
    pub gone_all : lines ≤ line → Goes lines number at size (record { line = line; at = place })
    gone_all all =
        let last : line ≡ lines = omega (arith, going.within) in
        record { within = going.within; inside = going.inside; as_far = inl last; onward = λ some room. omega arith }

    -- .. or where there is no room for a line
    pub gone_full : size < place + 8192 → Goes lines number at size (record { line = line; at = place })
    gone_full full =
        record {
          within = going.within;
          inside = going.inside;
          as_far = inr full;
          onward = λ some room. moved room (dec_lt number line);
        }
      where
        moved : at + 8192 ≤ size → Dec (number < line) → number < line
        moved room (yes further) = further
        moved room (no same) =
            let stood : place ≡ at = going.unmoved (omega (arith, going.so_far, same)) in
            absurd (omega arith)
