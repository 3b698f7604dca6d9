-- `plan::put_all` meets its contract. Its loop has the invariant `Putting`, and those so far have the file's widths. Assumes nothing.
use native.Mathlib.Omega.{arith}
use mathlib.Core.Path.{sym}
use Rattle.format.proofs.Putting.{begun, turned, unseen, seen}
use Rattle.plan.proofs.put_all.Goals as goal

pub loop-i-init : goal.loop-i-init
loop-i-init g c = (begun (omega (arith, c.requires)), unseen)

pub loop-i-preserved : goal.loop-i-preserved
loop-i-preserved g c =
    let i = c.loop-i.invariant in
    let one = sym c.index-all-i.is in
    let p = c.put.ensures in (
      turned i.0 c.index-all-i.result g.met.T.Planned.sized (omega arith) c.requires c.loop-i-test.true (rw one p.0.stands),
      seen i.1 c.index-all-i.result c.loop-i-test.true (rw one p.1),
    )
