use Rattle.format.proofs.Putting.{Putting}
use Rattle.validation.specs.Parts.{pieces_in}
use Rattle.packing.proofs.put_records.Given as goal

abbrev pub invariant-loop-i : goal.invariant-loop-i
invariant-loop-i g l = Putting g.P.Part.bytes (pieces_in l.s) l.count l.initial.out l.at l.out l.i
