-- What the absolute reading of document 01 gives: the wet value in pmol/mol, or why it is out of range. Assumes nothing.
use Rattle.std.specs.Prelude.{ℤ, Result}
use Rattle.curve.specs.declared.OutOfRange.{OutOfRange}

abbrev pub Reading : Type 0
Reading = Result ℤ OutOfRange
