-- `pattern::read_text` meets its contract: the text is cut at its `=`. Assumes nothing.
use Rattle.std.proofs.Common.{sym, refl, ◌∙◌}
use borrow.Author.Rules.{part_to_end}
use Rattle.std.proofs.lemmas.Result.{err_from_is_err_and}
use Rattle.pattern.specs.Line
use Rattle.pattern.specs.Answer
use Rattle.pattern.proofs.Spans.{each_of_all, all_of_each}
use Rattle.pattern.proofs.Texts.{first_found, none_found, no_equals_line, second_equals_line, sides_text}
use Rattle.pattern.proofs.read_text.Goals as goal

pub returns-then-all_blank : goal.returns-then-all_blank
returns-then-all_blank c = λ rest said.
    Answer.nothing (Line.nothing (each_of_all c.args.text.now (c.all_blank.ensures.0 c.if-all_blank.true)) said)

pub returns-in_default : goal.returns-in_default
returns-in_default c = λ rest said.
    no_equals_line c.requires (none_found (sym c.find.ensures ∙ c.in_default.is))
    (λ blank. cc (c.all_blank.ensures.1 (all_of_each blank), c.if-all_blank.false)) said

pub returns-in-Some-find : goal.returns-in-Some-find
returns-in-Some-find c = λ rest said.
    let first = first_found (sym c.find.ensures ∙ c.in-Some.is) in
    second_equals_line c.requires first
    (first_found (rw part_to_end at (sym c.find-2.ensures ∙ c.in-Some-find.is))) rest

pub returns-in_err-sides : goal.returns-in_err-sides
returns-in_err-sides c = λ rest said.
    let p = err_from_is_err_and c.from_residual.result c.from_residual.ensures.1 in
    let first = first_found (sym c.find.ensures ∙ c.in-Some.is) in
    let no_other = none_found (rw part_to_end at (sym c.find-2.ensures ∙ c.in_default-find.is)) in
    rw (p.1, p.2) (sides_text c.requires first no_other said (rw part_to_end at c.in_err-sides.ensures) refl)

pub returns : goal.returns
returns c = λ rest said.
    let first = first_found (sym c.find.ensures ∙ c.in-Some.is) in
    let no_other = none_found (rw part_to_end at (sym c.find-2.ensures ∙ c.in_default-find.is)) in
    sides_text c.requires first no_other said (rw part_to_end at c.in_ok-sides.ensures) refl
