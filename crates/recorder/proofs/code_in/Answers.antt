-- `code_in` meets its contract: twelve bits from 2048 on are a negative voltage code. Assumes nothing.
use Rattle.std.proofs.Common.{arith}
use Rattle.std.proofs.lemmas.Grind.{common_steps}
use Rattle.std.proofs.lemmas.Int.{ints}
use Rattle.recorder.specs.Recorder.{code_in}
use Rattle.recorder.proofs.code_in.Goals as goal

pub returns-in-Voltage : goal.returns-in-Voltage
unfolding code_in
returns-in-Voltage c = rw c.in-Voltage.is (grind (arith, ints, common_steps))

pub returns-in_default : goal.returns-in_default
unfolding code_in
returns-in_default c = grind (arith, ints, common_steps)
