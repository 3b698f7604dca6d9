-- `reference_signal` meets its contract: the search runs over every signal from 0 to 150,000,000. Assumes nothing.
use Rattle.reference.specs.Search.{reference_of}
use Rattle.reference.proofs.reference_signal.Goals as goal

pub returns : goal.returns
unfolding reference_of
returns c = c.search.ensures
