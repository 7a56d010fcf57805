-- A line cut at its remark and at its `=`, by the places at which these stand first.
use Rattle.std.proofs.Common.{ℕ, ◌+◌, ◌≤◌, ◌<◌, ◌≡◌, refl, ap, sym, subst, subst₂, ◌∙◌, Bool, true, false, not, cond, List, ◌∷◌, ◌++◌, append_assoc, arith, eqb-true, ltb-false, length, get_or, take, drop, length-drop, take-append-drop, drop_of_length-le, length-take-le, take_all, ◌==◌, nat_lt, position, Option, Some, None, unwrap_or, Result, Err}
use Rattle.std.proofs.lemmas.List.{drop_more}
use borrow.Author.Tests.{eqb-false, not-true}
use lib.Seq.{take-length}
use Rattle.std.specs.List.{position_or_len}
use Rattle.std.proofs.lemmas.List.Quantifiers.{position-Some}
use Rattle.pattern.specs.Characters.{equals_sign, remark_sign, NoRemark, Blank, Inside, Each, none, one_more}
use Rattle.pattern.specs.Line.{Remark, no_remark, remark}
use Rattle.pattern.specs.Fault.{no_equals, second_equals}
use Rattle.pattern.specs.Answer.{LineSays}
use Rattle.pattern.specs.Inner.{SidesSay}
use Rattle.pattern.specs.declared.Fault.TheVariants as fault
use Rattle.block.specs.declared.Sides.{Sides}
use Rattle.pattern.specs.declared.Wrong.{Wrong}
use Rattle.pattern.proofs.Spans.{each_first, each_second, each_prefix}
use Rattle.pattern.proofs.Lines.{line_wrong}
use Rattle.pattern.proofs.Sides.{sides_line, in_line}

-- the byte stands at this place, and at none before it
pub record First (b : ℕ) (bytes : List ℕ) (i : ℕ) : Type 0 where
  pub within : i < length bytes
  pub before : Each (λ x. x ≡ b → ⊥) (take i bytes)
  pub here : get_or bytes i 0 ≡ b

-- all before the first place, or all that there are, are others
each_other : (b : ℕ) (bytes : List ℕ) → Each (λ x. x ≡ b → ⊥) (take (position_or_len (λ x. x == b) bytes) bytes)
each_other b bytes = each_prefix (λ x. not (x == b)) (λ x e. eqb-false x b (not-true (x == b) e)) bytes

-- where it was found, ..
pub first_found : {b : ℕ} {bytes : List ℕ} {i : ℕ} → position (λ x. x == b) bytes ≡ Some i → First b bytes i
first_found {b} {bytes} {i} e =
    let found = position-Some (λ x. x == b) bytes i 0 e in
    record {
      within = found.0;
      before = subst (λ n. Each (λ x. x ≡ b → ⊥) (take n bytes)) (at_place _ e) (each_other b bytes);
      here = eqb-true (get_or bytes i 0) b found.1;
    }
  where
    at_place : (t : Bool) → cond t (Some (position_or_len (λ x. x == b) bytes)) None ≡ Some i
        → position_or_len (λ x. x == b) bytes ≡ i
    at_place true e = cc e
    at_place false e = cc e

-- .. and where it was not
pub none_found : {b : ℕ} {bytes : List ℕ} → position (λ x. x == b) bytes ≡ None → Each (λ x. x ≡ b → ⊥) bytes
none_found {b} {bytes} e =
    let all = nowhere _ refl e in
    rw (take_all _ bytes all) at (each_other b bytes)
  where
    nowhere : (t : Bool) → nat_lt (position_or_len (λ x. x == b) bytes) (length bytes) ≡ t
        → cond t (Some (position_or_len (λ x. x == b) bytes)) None ≡ None
        → length bytes ≤ position_or_len (λ x. x == b) bytes
    nowhere true lt e = cc e
    nowhere false lt e = ltb-false _ _ lt

-- what stands from there on
pub from_first : {b : ℕ} {bytes : List ℕ} {i : ℕ} → First b bytes i → drop i bytes ≡ b ∷ drop (i + 1) bytes
from_first {b} {bytes} {i} f =
    drop_more bytes i 0 f.within ∙ ap (λ (x : ℕ). x ∷ drop (i + 1) bytes) f.here

-- a line is cut at its first `#`, or at its end
pub record RemarkCut (line : List ℕ) (end : ℕ) : Type 0 where
  pub plain : Each NoRemark (take end line)
  pub rest : Remark (drop end line)

cut_at : {line : List ℕ} (o : Option ℕ) → o ≡ position (λ x. x == remark_sign) line
    → RemarkCut line (unwrap_or o (length line))
cut_at (Some i) is =
    let first = first_found (sym is) in record { plain = first.before; rest = rw (from_first first) remark }
cut_at {line} None is =
    record {
      plain = rw take-length (none_found (sym is));
      rest = rw (drop_of_length-le line {i = length line} (omega arith)) no_remark;
    }

pub remark_cut : {line : List ℕ} {o : Option ℕ} {end : ℕ} → o ≡ position (λ x. x == remark_sign) line
    → end ≡ unwrap_or o (length line) → RemarkCut line end
remark_cut {o = o} is end_is = rw end_is (cut_at o is)

-- bytes without `#` and without `=` may stand in a side
each_inside : {bytes : List ℕ} → Each NoRemark bytes → Each (λ x. x ≡ equals_sign → ⊥) bytes → Each Inside bytes
each_inside none none = none
each_inside (one_more h each) (one_more h' each') =
    one_more (record { no_equals = h'; no_remark = h }) (each_inside each each')

-- a text without `=`
pub no_equals_line : {text rest left right : List ℕ} → Each NoRemark text → Each (λ x. x ≡ equals_sign → ⊥) text
    → (Each Blank text → ⊥) → Remark rest
    → LineSays (text ++ rest) left right (Err (record { column = length text + 1; why = fault.NoEquals })) left right
no_equals_line plain no_sign some said = line_wrong (no_equals (each_inside plain no_sign) some said)

module _ {text : List ℕ} (plain : Each NoRemark text) {i : ℕ} (f : First equals_sign text i) where
  -- what stands behind the first `=`
  abbrev behind : List ℕ
  behind = drop (i + 1) text

  -- and before it
  before_inside : Each Inside (take i text)
  before_inside = each_inside (each_first (take i text) (drop i text) (rw (sym (take-append-drop i text)) at plain))
      f.before

  line_is : (rest : List ℕ) → text ++ rest ≡ take i text ++ (equals_sign ∷ (behind ++ rest))
  line_is rest =
      ap (λ (l : List ℕ). l ++ rest)
      (sym (take-append-drop i text) ∙ ap (λ (l : List ℕ). take i text ++ l) (from_first f))
      ∙ append_assoc (take i text) (equals_sign ∷ behind) rest

  behind_plain : Each NoRemark behind
  behind_plain = each_second (take (i + 1) text) behind (rw (sym (take-append-drop (i + 1) text)) at plain)

  -- there is a second `=`
  pub second_equals_line : {j : ℕ} → First equals_sign behind j → (rest : List ℕ) {left right : List ℕ}
      → LineSays (text ++ rest) left right (Err (record { column = i + 1 + j + 1; why = fault.SecondEquals })) left right
  second_equals_line {j} second rest {left} {right} =
      let between = take j behind in
      let later = drop (j + 1) behind in
      let inside : Each Inside between =
      each_inside (each_first between (drop j behind) (rw (sym (take-append-drop j behind)) at behind_plain))
      second.before in
      let behind_is : behind ≡ between ++ (equals_sign ∷ later) =
      sym (take-append-drop j behind) ∙ ap (λ (l : List ℕ). between ++ l) (from_first second) in
      let whole : text ++ rest ≡ take i text ++ (equals_sign ∷ (between ++ (equals_sign ∷ (later ++ rest)))) =
      line_is rest ∙ ap (λ (l : List ℕ). take i text ++ (equals_sign ∷ l))
      (ap (λ (l : List ℕ). l ++ rest) behind_is ∙ append_assoc between (equals_sign ∷ later) rest) in
      let column : i + 1 + j + 1 ≡ length (take i text) + 1 + length between + 1 =
      omega (arith, length-take-le i text (omega (arith, f.within)), length-take-le j behind (omega (arith, second.within))) in
      subst₂ (λ l n. LineSays l left right (Err (record { column = n; why = fault.SecondEquals })) left right) (sym whole)
      (sym column) (line_wrong (second_equals (later ++ rest) before_inside inside))

  -- there is no other, and the two sides say what the line says
  pub sides_text : Each (λ x. x ≡ equals_sign → ⊥) behind → {rest left right left' right' : List ℕ}
      {r : Result Sides Wrong} {said : Result (Option Sides) Wrong} → Remark rest
      → SidesSay (take i text) behind left right r left' right' → said ≡ in_line r
      → LineSays (text ++ rest) left right said left' right'
  sides_text no_other {rest} remarked sides e =
      rw (line_is rest) (sides_line before_inside (each_inside behind_plain no_other) remarked sides e)

  -- both sides are among the text's bytes
  pub sides_within : length (take i text) + 1 + length behind ≡ length text
  sides_within =
      omega (arith, length-take-le i text (omega (arith, f.within)), length-drop (i + 1) text, f.within)
