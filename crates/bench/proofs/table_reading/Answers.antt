-- `table_reading` meets its contract: an accepted value is at most 3,000,000,000. Assumes nothing.
use mathlib.Core.Path.{sym, ◌∙◌}
use native.Mathlib.Omega.{arith}
use mir.Facts.{to_z-of_z}
use mir.Syntax.{w64}
use mir.Val.{SFits}
use Rattle.curve.specs.declared.Sheet.{Sheet}
use Rattle.curve.specs.declared.Air.{Air}
use Rattle.curve.proofs.Accepted.{accepted, value_size}
use borrow.Author.Rules.{rules}
use Rattle.bench.proofs.table_reading.Goals as goal

abbrev sheet : Sheet
sheet = record { a1 = 142000000; a2 = 22580000; a3 = 1787000; t0 = 31335; k = 191300000 }

abbrev air : Air
air = record { p = 101300; t = 31335; e = 0 }

pub returns-in-Ok : goal.returns-in-Ok
returns-in-Ok c =
    let r : SFits w64 c.in-Ok.c = search rules in
    let f : SFits w64 c.args.v = search rules in
    let q = sym (simp to_z-of_z at c.absolute.ensures) ∙ c.in-Ok.is in
    rw (to_z-of_z r) (value_size sheet air (omega arith) (omega arith) (accepted sheet c.args.v air c.in-Ok.c q))
