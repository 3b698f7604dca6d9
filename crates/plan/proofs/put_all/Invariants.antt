-- Those so far are put, and have the file's widths.
use Rattle.std.proofs.Common.{length}
use Rattle.format.proofs.Putting.{Putting, Seen}
use Rattle.plan.proofs.put_all.Given as goal

abbrev pub invariant-loop-i : goal.invariant-loop-i
invariant-loop-i g l = Putting g.T.Planned.bytes l.all (length l.all) l.initial.out l.at l.out l.i × Seen g.T.Planned.fits l.all l.i
