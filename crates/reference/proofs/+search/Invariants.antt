-- The measure of `search`: the width of the stretch. Assumes nothing.
use Rattle.std.proofs.Common.{◌-◌}
use Rattle.reference.proofs.+search.Given as goal

abbrev pub decreases-search : goal.decreases-search
decreases-search l = l.high - l.low
