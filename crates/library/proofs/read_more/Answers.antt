-- `library::read_more` meets its contract: what stands before the room that was lent stays as it is. Assumes
-- nothing.
use Rattle.std.proofs.Common.{rules}
use Rattle.library.proofs.Calling.{reads_room}
use Rattle.library.proofs.read_more.Goals as goal

pub returns : goal.returns
returns g c =
    reads_room c.read.new.buf c.requires c.make_room-ready.ensures.value
    c.make_room-ready.ensures.buffer_after c.make_room-ready.auto.buffer (search rules) c.took.ensures
