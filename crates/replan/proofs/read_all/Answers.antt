-- `replan::read_all` meets its contract. Its loop has the invariant `Collecting`. Assumes nothing.
use Rattle.replan.proofs.Collecting.{turned}
use Rattle.replan.proofs.read_all.Goals as goal

pub loop-i-preserved : goal.loop-i-preserved
loop-i-preserved g c = turned g.T.Said.said _ c.loop-i.invariant c.loop-i-test.true c.at.ensures
