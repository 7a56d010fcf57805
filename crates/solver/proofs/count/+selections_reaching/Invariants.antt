-- The measure of the recursion `selections_reaching`: the number of places.
use Rattle.solver.proofs.count.+selections_reaching.Given as goal

abbrev pub decreases-selections_reaching : goal.decreases-selections_reaching
decreases-selections_reaching l = l.places
