-- `printing::print` meets its contract, in its three cases: too long, not well-formed, and a line for each event. Assumes
-- nothing.
use mathlib.Core.Path.{refl}
use borrow.Author.Rules.{rules}
use Rattle.layout.proofs.Lent.{numbered}
use Rattle.printing.proofs.Printing.{prints_long, prints_refused, prints_lines}
use Rattle.printing.proofs.print.Goals as goal

pub returns-then-file-gt65536 : goal.returns-then-file-gt65536
returns-then-file-gt65536 c = rw (prints_long _ c.if-file-gt65536.true) c.put_refused.ensures

pub returns-in-Ok : goal.returns-in-Ok
returns-in-Ok c = prints_lines _ c.if-file-gt65536.false c.in-Ok.ensures refl

pub returns-in-Err : goal.returns-in-Err
returns-in-Err c =
    let p = prints_refused _ c.if-file-gt65536.false c.in-Err.ensures (search rules) (numbered c.in-Err.field-0) in
    rw p.0 (rw p.1 at c.put_refused-in-Err.ensures)
