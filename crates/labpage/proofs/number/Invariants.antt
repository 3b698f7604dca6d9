-- The digits read so far, and those that are left, say what the word says.
use Rattle.std.proofs.Common.{◌≡◌, drop}
use Rattle.labpage.specs.Number.{number_from}
use Rattle.labpage.proofs.number.Given as goal

abbrev pub invariant-loop-b : goal.invariant-loop-b
invariant-loop-b l = number_from l.n (drop l.b-index l.word) ≡ number_from 0 l.word
