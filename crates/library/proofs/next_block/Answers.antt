-- `library::next_block` meets its contract: before each turn some calls were made, each where a read was
-- wanted. It ends, since every call leaves less to ask for. Assumes nothing.
use Rattle.library.proofs.Coming.{comes_wanted}
use Rattle.library.proofs.Calling.{reached_none, reached-more, wanted_falls}
use Rattle.library.proofs.next_block.Goals as goal

pub loop-step-init : goal.loop-step-init
loop-step-init g c = reached_none c.requires

pub loop-step-smaller : goal.loop-step-smaller
loop-step-smaller g c =
    wanted_falls c.loop-step.invariant.fits
    (comes_wanted c.next_step-step.ensures c.in-Wanted.is)
    c.read_more-reader.ensures

pub loop-step-preserved : goal.loop-step-preserved
loop-step-preserved g c =
    reached-more c.loop-step.invariant
    (comes_wanted c.next_step-step.ensures c.in-Wanted.is)
    c.read_more-reader.ensures
