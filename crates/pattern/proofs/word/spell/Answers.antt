-- `pattern::word::spell` meets its contract: the multiple, the letter and the number are judged one by one. Assumes
-- nothing.
use Rattle.std.proofs.Common.{◌≡◌, arith, Some, None}
use Rattle.std.proofs.lemmas.Result.{err_from_is_err_and}
use Rattle.pattern.specs.declared.Fault.TheVariants as fault
use Rattle.pattern.proofs.Words.{whole_cut, when_none, when_number, no_multiple, no_number, names_none, names_atom, spelled_word}
use Rattle.pattern.proofs.word.spell.Goals as goal

pub returns-in_err-times : goal.returns-in_err-times
returns-in_err-times c =
    let p = err_from_is_err_and c.from_residual.result c.from_residual.ensures.1 in
    let missing : c.read_multiple.result ≡ None = grind arith in
    let why : c.in_err-times.field-0.0 ≡ fault.NoAtom = grind arith in
    rw (p.1, p.2, why) (no_multiple (whole_cut c.requires.each.0 c.requires.each.1 c.requires.each.2)
    (when_none c.read_multiple.ensures missing))

pub returns-in_err-number : goal.returns-in_err-number
returns-in_err-number c =
    let p = err_from_is_err_and c.from_residual-in_err-number.result c.from_residual-in_err-number.ensures.1 in
    let missing : c.read_number.result ≡ None = grind arith in
    let why : c.in_err-number.field-0.0 ≡ fault.NoAtom = grind arith in
    rw (p.1, p.2, why) (no_number (whole_cut c.requires.each.0 c.requires.each.1 c.requires.each.2)
    (when_none c.read_number.ensures missing))

pub returns-in_err-atom : goal.returns-in_err-atom
returns-in_err-atom c =
    let p = err_from_is_err_and c.from_residual-in_err-atom.result c.from_residual-in_err-atom.ensures.1 in
    let said : c.read_multiple.result ≡ Some c.in_ok-times.times = grind arith in
    let said' : c.read_number.result ≡ Some c.in_ok-number.number = grind arith in
    rw (p.1, p.2) (names_none (whole_cut c.requires.each.0 c.requires.each.1 c.requires.each.2)
    (when_number c.read_multiple.ensures said) (when_number c.read_number.ensures said') c.name.ensures c.in_err-atom.was)

pub returns : goal.returns
returns c =
    let said : c.read_multiple.result ≡ Some c.in_ok-times.times = grind arith in
    let said' : c.read_number.result ≡ Some c.in_ok-number.number = grind arith in
    let a = c.args in
    spelled_word a.multiple.now a.letter a.digits.now
    (names_atom (when_number c.read_multiple.ensures said) (when_number c.read_number.ensures said') c.name.ensures
    c.in_ok-atom.was) (omega arith)
