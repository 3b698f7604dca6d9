-- Those so far are said by the file's first records.
use Rattle.std.proofs.Common.{length}
use Rattle.replan.proofs.Collecting.{Collecting}
use Rattle.replan.proofs.read_all.Given as goal

abbrev pub invariant-loop-i : goal.invariant-loop-i
invariant-loop-i g l = Collecting g.T.Said.said l.file l.from (length l.initial.all) l.all l.i
