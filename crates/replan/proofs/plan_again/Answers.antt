-- `plan_again` writes what lies in its buffer. Assumes nothing.
use native.Mathlib.Omega.{arith}
use lib.ListN.{length-take}
use Rattle.layout.proofs.Lent.{fills_within}
use Rattle.replan.proofs.plan_again.Goals as goal

pub slice_bounds-write_all-end : goal.slice_bounds-write_all-end
slice_bounds-write_all-end g c = let w = fills_within c.in-Ok.ensures in simp length-take (omega (arith, w))
