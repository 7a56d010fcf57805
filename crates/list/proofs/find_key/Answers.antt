-- `list::find_key` meets its contract: the least listed key from it on is the key itself, another, or none;
-- then the first one decides.
use Rattle.list.proofs.Table.{table_ascending}
use Rattle.list.proofs.Finding.{found_itself, found_other, found_above, found_nothing}
use Rattle.list.proofs.find_key.Goals as goal

pub returns-in-Some : goal.returns-in-Some
returns-in-Some c = λ t its M L R of.
    found_itself (rw c.from.ensures at (c.in-Some.ensures t its M L R of)) c.if-least-key.true

pub returns-in_default : goal.returns-in_default
returns-in_default c = λ t its M L R of.
    found_other (rw c.from.ensures at (c.in-Some.ensures t its M L R of)) c.if-least-key.false

pub returns-in-None : goal.returns-in-None
returns-in-None c = λ t its M L R of.
    found_nothing (table_ascending of) (c.least_listed-in-None-1.ensures t its M L R of) c.if-is_none.ensures

pub returns-in_default-2 : goal.returns-in_default-2
returns-in_default-2 c = λ t its M L R of.
    found_above (rw c.from.ensures at (c.in-None.ensures t its M L R of))
    (c.least_listed-in-None-1.ensures t its M L R of) c.if-is_none.ensures
